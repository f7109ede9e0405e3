-- The file that the writer makes passes the full check and gives its lists back; a file of bytes that passes holds what
-- the writer makes of the lists that are read from it. Assumes nothing.
use Prim.Native.Nat.{ℕ, ◌+◌, ◌-◌, ◌*◌, ◌/◌, ◌%◌, ◌<◌, ◌≤◌}
use mathlib.Core.List.{List}
use mathlib.Core.Path.{◌≡◌, sym, ap, ◌∙◌}
use native.Mathlib.Nat.{zero-add, div-add-mod}
use native.Mathlib.Omega.{arith}
use lib.ListN.{length, length-append}
use Rattle.base.specs.Tabulate.{joined}
use Rattle.blocks.specs.Accepted.{GoodDirectoryBlock}
use Rattle.blocks.specs.Block.{block_at}
use Rattle.blocks.specs.Directory.{directory_blocks, box_at, count_at, muted_at}
use Rattle.blocks.specs.Layout.{block_size, max_length, entries_per_block, max_sites, max_tiles}
use Rattle.blocks.specs.declared.header.Header.{Header}
use Rattle.codec.specs.Number.{Bytes}
use Rattle.encode.specs.Encode.{directory_bytes, tile_bytes_of, file_bytes, file_length}
use Rattle.encode.specs.Supply.{Supply, axes_of, header_of, tiles_of, box_of, count_of, offset, muted_of, site_of}
use Rattle.geometry.specs.Axes.{KnownAxes}
use Rattle.tiles.specs.Accepted.{GoodTileBlock, GoodFile}
use Rattle.tiles.specs.Tile.{site_in, muted_in, tile_position, site_at}
use Rattle.geometry.proofs.Theorems.{by_axes}
use Rattle.base.proofs.Joined.{length-joined}
use Rattle.blocks.proofs.BlockLaws as blocks
use Rattle.blocks.proofs.BlockLaws.{block_bytes_lem}
use Rattle.blocks.proofs.DirectoryLaws.{few_blocks, entry_block, entry_due, block_fits, count_small}
use Rattle.codec.proofs.Holds.{Holds, holds_run, holds-part, part-holds, holds_left, holds_right, holds-append}
use Rattle.codec.proofs.Holds.{holds-each, holds-joined}
use Rattle.encode.proofs.EncodeLaws.{length-directory_block, length_tile_block, due_few, due_within}
use Rattle.writer.specs.Accepted.{GoodSupply}
use Rattle.writer.specs.Made.{Typed}
use Rattle.writer.proofs.BlockRound.{Entries, directory_read, directory_held, sites_muted, tile_read, tile_held}

-- what is read from a file with the header h is what these lists say: box and count of each tile, and the site of each
-- slot
pub record Reads (f : List ℕ) (h : Header) (s : Supply) : Type 0 where
  pub box : (t : ℕ) → t < tiles_of s → box_at f h t ≡ box_of (axes_of s) s.boxes t
  pub count : (t : ℕ) → t < tiles_of s → count_at f h t ≡ count_of s.counts t
  pub site : (t slot : ℕ) → t < tiles_of s → slot < count_of s.counts t → site_at f h t slot ≡ site_of s t slot

-- entry i of directory block p is that of tile 24 * p + i, with height of 17 * p + i
entry_of : (a p i : ℕ) → KnownAxes a → i < entries_per_block a →
    ((entries_per_block a * p + i) / entries_per_block a ≡ p)
    × ((entries_per_block a * p + i) % entries_per_block a ≡ i)
entry_of a p i =
    by_axes (λ a. i < entries_per_block a → ((entries_per_block a * p + i) / entries_per_block a ≡ p)
    × ((entries_per_block a * p + i) % entries_per_block a ≡ i))
    (λ l. (omega (arith, l), omega (arith, l))) (λ l. (omega (arith, l), omega (arith, l))) a

-- the longest file
length_most : (h : Header) → KnownAxes h.axes → h.tiles ≤ max_tiles → file_length h ≤ max_length h.axes
unfolding file_length directory_blocks
length_most h known l =
    by_axes (λ a. block_size * ((h.tiles + (entries_per_block a - 1)) / entries_per_block a + h.tiles) ≤ max_length a)
    (omega arith) (omega arith) h.axes known

abbrev headed : Supply → Header
headed s = header_of (axes_of s) s.counts

module _ (s : Supply) where
  abbrev directory_part : ℕ → List ℕ
  directory_part = directory_bytes (axes_of s) s.boxes s.counts s.cues

  abbrev tile : ℕ → List ℕ
  tile = tile_bytes_of (axes_of s) s.counts s.spots s.cues

  length-all : length (joined directory_part 0 (directory_blocks (headed s)))
      ≡ block_size * directory_blocks (headed s)
  length-all = length-joined directory_part block_size 0 (directory_blocks (headed s))
      (λ i l. length-directory_block (axes_of s) s.boxes s.counts s.cues (0 + i))

  module _ (few : (t : ℕ) → t < tiles_of s → count_of s.counts t ≤ max_sites (axes_of s)) where
    length-tile : (t : ℕ) → t < tiles_of s → length (tile t) ≡ block_size
    unfolding tile_bytes_of
    length-tile t l =
        length_tile_block (axes_of s) s.spots s.cues (tile_position (headed s) t) (offset s.counts t)
        (count_of s.counts t) (few t l)

    tile-width : (k : ℕ) → k < tiles_of s → length (tile (0 + k)) ≡ block_size
    tile-width k l = ap (λ t. length (tile t)) (zero-add k) ∙ length-tile k l

    pub length_file : length (file_bytes s) ≡ file_length (headed s)
    unfolding file_bytes file_length
    length_file =
        omega (
          arith,
          length-append (joined directory_part 0 (directory_blocks (headed s))) (joined tile 0 (tiles_of s)),
          length-all,
          length-joined tile block_size 0 (tiles_of s) tile-width,
        )

    -- ---- block by block
    module _ (f : List ℕ) where
      file-directory : Holds f 0 (file_bytes s) → (p : ℕ) → p < directory_blocks (headed s) →
          Holds (block_at f p) 0 (directory_part p)
      unfolding file_bytes block_at
      file-directory h p l =
          let g = holds_left f 0 (joined directory_part 0 (directory_blocks (headed s)))
          (joined tile 0 (tiles_of s)) h in
          let e = holds-each f directory_part block_size 0 0 (directory_blocks (headed s))
          (λ i m. length-directory_block (axes_of s) s.boxes s.counts s.cues (0 + i)) g p l in
          let m = length-directory_block (axes_of s) s.boxes s.counts s.cues p in
          holds-part (holds_run e (ap directory_part (zero-add p))) block_size (block_size * p) 0 (omega arith)
          (omega arith)

      file-tile : Holds f 0 (file_bytes s) → (t : ℕ) → t < tiles_of s →
          Holds (block_at f (tile_position (headed s) t)) 0 (tile t)
      unfolding file_bytes block_at tile_position
      file-tile h t l =
          let d = directory_blocks (headed s) in
          let u : block_size * d ≡ 0 + length (joined directory_part 0 d) = omega (arith, length-all) in
          let g = holds_right f 0 (joined directory_part 0 d) (joined tile 0 (tiles_of s)) u h in
          let e = holds-each f tile block_size (block_size * d) 0 (tiles_of s) tile-width g t l in
          let m = length-tile t l in
          holds-part (holds_run e (ap tile (zero-add t))) block_size (block_size * (d + t)) 0
          (omega arith) (omega arith)

      blocks-file : ((p : ℕ) → p < directory_blocks (headed s) → Holds (block_at f p) 0 (directory_part p)) →
          ((t : ℕ) → t < tiles_of s → Holds (block_at f (tile_position (headed s) t)) 0 (tile t)) →
          Holds f 0 (file_bytes s)
      unfolding file_bytes block_at tile_position
      blocks-file h g =
          let d = directory_blocks (headed s) in
          let u : block_size * d ≡ 0 + length (joined directory_part 0 d) = omega (arith, length-all) in
          holds-append f 0 (joined directory_part 0 d) (joined tile 0 (tiles_of s)) u
          (holds-joined f directory_part block_size 0 0 d
          (λ i m. length-directory_block (axes_of s) s.boxes s.counts s.cues (0 + i))
          (λ p l. let m = length-directory_block (axes_of s) s.boxes s.counts s.cues p in
          holds_run (part-holds block_size (block_size * p) (h p l) (omega arith) (omega arith))
          (ap directory_part (sym (zero-add p)))))
          (holds-joined f tile block_size (block_size * d) 0 (tiles_of s) tile-width
          (λ t l. let m = length-tile t l in
          holds_run (part-holds block_size (block_size * (d + t)) (g t l) (omega arith) (omega arith))
          (ap tile (sym (zero-add t)))))

-- ---- what is written, read
module _ (s : Supply) (g : GoodSupply s) (typed : Typed s) (f : List ℕ)
    (size : length f ≡ file_length (headed s))
    (h : Holds f 0 (file_bytes s)) where
  fits : (p : ℕ) → p < directory_blocks (headed s) + tiles_of s → length (block_at f p) ≡ block_size
  unfolding file_length
  fits p l = blocks.length_block f p (omega (arith, size))

  directory_at : (p : ℕ) → p < directory_blocks (headed s) →
      GoodDirectoryBlock (block_at f p) p (headed s)
      × Entries (axes_of s) s.boxes s.counts s.cues (block_at f p) p
  directory_at p l =
      directory_read (axes_of s) s.boxes s.counts s.cues (block_at f p) p (fits p (omega arith)) typed.axes
      typed.boxes g.most
      l g.counts
      g.boxes
      (file-directory s g.counts f h p l)

  entry_at : (t : ℕ) → t < tiles_of s → (box_at f (headed s) t ≡ box_of (axes_of s) s.boxes t)
      × (count_at f (headed s) t ≡ count_of s.counts t)
      × (muted_at f (headed s) t ≡ muted_of s.counts s.cues t)
  unfolding box_at count_at muted_at
  entry_at t l =
      let n = entries_per_block (axes_of s) in
      let here = entry_block (headed s) typed.axes t l in
      let e = (directory_at (t / n) here).1 (t % n) (entry_due (headed s) typed.axes t l) in
      let q = div-add-mod t n in (
        e.0 ∙ ap (box_of (axes_of s) s.boxes) q,
        e.1 ∙ ap (count_of s.counts) q,
        e.2 ∙ ap (muted_of s.counts s.cues) q,
      )

  tile_at_lem : (t : ℕ) (l : t < tiles_of s) → let p = tile_position (headed s) t in
      GoodTileBlock (axes_of s) (block_at f p) p (box_of (axes_of s) s.boxes t) (count_of s.counts t)
      (muted_of s.counts s.cues t)
      × ((slot : ℕ) → slot < count_of s.counts t → site_in (axes_of s) (block_at f p) slot ≡ site_of s t slot)
  unfolding tile_bytes_of tile_position
  tile_at_lem t l =
      let p = directory_blocks (headed s) + t in
      tile_read s.spots s.cues (block_at f p) p (offset s.counts t) (count_of s.counts t)
      (fits p (omega arith)) (g.counts t l) typed.spots typed.cues
      (omega (arith, few_blocks (headed s) typed.axes, g.most))
      (box_of (axes_of s) s.boxes t) (λ slot k. g.inside t slot l k) (file-tile s g.counts f h t l)

  pub written_reads : Reads f (headed s) s
  unfolding site_at
  written_reads = record {
    box = λ t l. (entry_at t l).0;
    count = λ t l. (entry_at t l).1;
    site = λ t slot l k. (tile_at_lem t l).1 slot k;
  }

  pub written_muted : (t : ℕ) → t < tiles_of s → muted_at f (headed s) t ≡ muted_of s.counts s.cues t
  written_muted t l = (entry_at t l).2

  pub written_good : GoodFile f (headed s)
  unfolding file_length
  written_good = record {
    directory = record {
      axes = typed.axes;
      size = record {
        least = omega (arith, size, g.least);
        whole = omega (arith, size);
        most = rw size (length_most (headed s) typed.axes g.most);
      };
      tiles = record { least = g.least; most = g.most; sum = omega (arith, size) };
      blocks = λ p l. (directory_at p l).0;
    };
    opened = λ t l. let e = entry_at t l in rw (e.0, e.1, e.2) (tile_at_lem t l).0;
  }

-- ---- what is read, written
pub good_holds : (f : List ℕ) (s : Supply) → Bytes f → GoodFile f (headed s) →
    Reads f (headed s) s →
    Holds f 0 (file_bytes s)
unfolding box_at count_at muted_at site_at tile_bytes_of tile_position
good_holds f s byte g r =
    blocks-file s few f
    (λ p l. directory_held (axes_of s) s.boxes s.counts s.cues (block_at f p) p (size p (omega arith))
    (block_bytes_lem f p byte) (g.directory.blocks p l)
    (λ i k. let a = entry_of (axes_of s) p i g.directory.axes (omega (arith, due_few (headed s) p)) in
    let t = entries_per_block (axes_of s) * p + i in
    let m : t < tiles_of s = omega (arith, due_within (headed s) p l) in
    (rw (a.0, a.1) at (r.box t m), rw (a.0, a.1) at (r.count t m), rw (a.0, a.1) at (muted-number t m))))
    (λ t l. let p = tile_position (headed s) t in
    tile_held s.spots s.cues (block_at f p) p (offset s.counts t) (count_of s.counts t)
    (size p (position t l)) (few t l) (block_bytes_lem f p byte)
    (rw (r.count t l) at (g.opened t l)) (λ slot k. r.site t slot l k))
  where
    few : (t : ℕ) → t < tiles_of s → count_of s.counts t ≤ max_sites (axes_of s)
    few t l = rw (r.count t l) at (count_small g.directory t l)

    muted-number : (t : ℕ) → t < tiles_of s → muted_at f (headed s) t ≡ muted_of s.counts s.cues t
    muted-number t l =
        let p = tile_position (headed s) t in
        sym (g.opened t l).muted_counted ∙ ap (muted_in (axes_of s) (block_at f p)) (r.count t l)
        ∙ sites_muted s.spots s.cues (block_at f p) (offset s.counts t) (count_of s.counts t)
        (λ slot k. r.site t slot l k)

    size : (p : ℕ) → p < directory_blocks (headed s) + tiles_of s → length (block_at f p) ≡ block_size
    size p l = blocks.length_block f p (block_fits g.directory p l)

    position : (t : ℕ) → t < tiles_of s →
        tile_position (headed s) t < directory_blocks (headed s) + tiles_of s
    position t l = omega arith
