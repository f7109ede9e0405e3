-- What an accepted directory shows, and that this is enough. Assumes nothing.
--
--   tiles_good, length_good, block_at_good, directory_good   what tests 6 and 1, a block and the directory show
--   directory_enough                     that it is enough
--   first_few, index_below               how many entries a block holds
--   entry_room, entries_end              where the entries of a block end
--   some_block, few_blocks, entry_block, entry_due   which entry is a tile's
--   first_block                          what the code goes by behind block 0
--   block_fits                           where blocks lie in a file with a good directory
--   box-valid, count_small, muted_few    its entries
use Prim.Native.Nat.{ℕ, zero, suc, min, ◌+◌, ◌-◌, ◌*◌, ◌/◌, ◌%◌, ◌<◌, ◌≤◌}
use mathlib.Core.Bool.{true}
use mathlib.Core.List.{List}
use mathlib.Core.Path.{◌≡◌, refl, sym, ap, ◌∙◌}
use native.Mathlib.Omega.{arith}
use lib.ListN.{length}
use borrow.Author.Tests.{leb-true, le-leb, eqb-true, eq-eqb}
use Rattle.base.specs.Refusal.{accepted, and_then, #length, in_turn}
use Rattle.geometry.specs.Axes.{KnownAxes}
use Rattle.geometry.specs.Box.{valid_box}
use Rattle.geometry.proofs.Theorems.{by_axes}
use Rattle.base.proofs.InTurn.{turns_each, turns_all}
use Rattle.base.proofs.Outcomes.{accepted_injective, require_accepted, and_then_accepted}
use Rattle.base.proofs.Tests.{and_both}
use Rattle.codec.specs.Number.{limit16}
use Rattle.base.proofs.Every.{every_at, every_holds}
use Rattle.blocks.specs.Accepted.{GoodHead, GoodTiles, GoodDirectoryBlock, GoodLength, GoodDirectory}
use Rattle.blocks.specs.Block.{block_at, position_in, entries_in, header_in, block_start}
use Rattle.blocks.specs.Directory.{directory_blocks, entries_due, entry_box, entry_count, entry_muted}
use Rattle.blocks.specs.Directory.{tiles_due, directory_padding, entry_valid, length_due, length_fits, directory_block}
use Rattle.blocks.specs.Directory.{directory_block_at}
use Rattle.blocks.specs.Directory.{directory_rest, directory, box_at, count_at, muted_at}
use Rattle.blocks.specs.Layout.{block_size, height, max_length, payload_at, check_at, directory_kind, entry_size}
use Rattle.blocks.specs.Layout.{entries_per_block, max_sites, max_tiles}
use Rattle.blocks.specs.declared.header.Header.{Header}
use Rattle.blocks.proofs.BlockLaws.{start_good, start_enough, axes_known, axes_of_kind}

-- ---- test 6
same_header : (h first : Header) → h.tiles ≡ first.tiles → h.axes ≡ first.axes → h ≡ first
same_header h first e q =
    ap (λ t. record { tiles = t; axes = h.axes }) e ∙ ap (λ a. record { tiles = first.tiles; axes = a }) q

pub tiles_good : (h first : Header) (blocks : ℕ) → h.axes ≡ first.axes → tiles_due h first blocks ≡ true →
    (h ≡ first) × GoodTiles h blocks
unfolding tiles_due
tiles_good h first blocks same e =
    let k = and_both _ _ e in
    let l = and_both _ _ k.0 in
    let r = and_both _ _ k.1 in (
      same_header h first (eqb-true h.tiles first.tiles r.0) same,
      record {
        least = leb-true 1 h.tiles l.0;
        most = leb-true h.tiles max_tiles l.1;
        sum = eqb-true (directory_blocks h + h.tiles) blocks r.1;
      },
    )

tiles_enough : (h : Header) (blocks : ℕ) → GoodTiles h blocks → tiles_due h h blocks ≡ true
unfolding tiles_due
tiles_enough h blocks g =
    let t = h.tiles in
    rw (
      le-leb 1 t g.least,
      le-leb t max_tiles g.most,
      eq-eqb t t refl,
      eq-eqb (directory_blocks h + t) blocks g.sum,
    )

-- ---- test 1
pub length_good : (n : ℕ) → length_due n ≡ true → (1 ≤ n) × (n % block_size ≡ 0) × (n ≤ max_length height)
unfolding length_due
length_good n e =
    let h = and_both _ _ e in
    let l = and_both _ _ h.0 in
    (leb-true 1 n l.0, eqb-true (n % block_size) 0 l.1, leb-true n (max_length height) h.1)

fits_good : (a n : ℕ) → length_fits a n ≡ true → n ≤ max_length a
unfolding length_fits
fits_good a n e = leb-true n (max_length a) e

fits_enough : (a n : ℕ) → n ≤ max_length a → length_fits a n ≡ true
unfolding length_fits
fits_enough a n l = le-leb n (max_length a) l

length_enough : (a n : ℕ) → KnownAxes a → GoodLength a n → length_due n ≡ true
unfolding length_due
length_enough a n k g =
    let most : n ≤ max_length height =
    by_axes (λ a. n ≤ max_length a → n ≤ max_length height) (λ l. omega (arith, l)) (λ l. l) a k g.most in
    rw (le-leb 1 n g.least, eq-eqb (n % block_size) 0 g.whole, le-leb n (max_length height) most)

-- ---- a directory block
-- the first entry of block p
pub first_few : (a p : ℕ) → KnownAxes a → entries_per_block a * p ≤ 24 * p
first_few a p k = by_axes (λ a. entries_per_block a * p ≤ 24 * p) (omega arith) (omega arith) a k

pub index_below : (a t : ℕ) → KnownAxes a → t % entries_per_block a < entries_per_block a
index_below a t k = by_axes (λ a. t % entries_per_block a < entries_per_block a) (omega arith) (omega arith) a k

-- where the entries of a block end
pub entry_room : (a i : ℕ) → KnownAxes a → i < entries_per_block a →
    payload_at + entry_size a * i + entry_size a ≤ check_at
entry_room a i k =
    by_axes (λ a. i < entries_per_block a → payload_at + entry_size a * i + entry_size a ≤ check_at)
    (λ l. omega (arith, l)) (λ l. omega (arith, l)) a k

pub entries_end : (a n : ℕ) → KnownAxes a → n ≤ entries_per_block a → payload_at + entry_size a * n ≤ check_at
entries_end a n k =
    by_axes (λ a. n ≤ entries_per_block a → payload_at + entry_size a * n ≤ check_at)
    (λ l. omega (arith, l)) (λ l. omega (arith, l)) a k

module _ (s : List ℕ) (p : ℕ) where
  entry_good : (a i : ℕ) → entry_valid a s i ≡ true → (valid_box (entry_box a s i) ≡ true)
      × (entry_count a s i ≤ max_sites a) × (entry_muted a s i ≤ entry_count a s i)
  unfolding entry_valid
  entry_good a i e =
      let h = and_both _ _ e in
      let b = and_both _ _ h.0 in
      (b.0, leb-true (entry_count a s i) (max_sites a) b.1, leb-true (entry_muted a s i) (entry_count a s i) h.1)

  entry_enough : (a i : ℕ) → valid_box (entry_box a s i) ≡ true → entry_count a s i ≤ max_sites a →
      entry_muted a s i ≤ entry_count a s i → entry_valid a s i ≡ true
  unfolding entry_valid
  entry_enough a i b c m =
      rw (b, le-leb (entry_count a s i) (max_sites a) c, le-leb (entry_muted a s i) (entry_count a s i) m)

  block_good : (first : Header) (n : ℕ) {h : Header} → KnownAxes first.axes →
      directory_block s p first n ≡ accepted h →
      (h ≡ first)
      × (n ≤ max_length first.axes) × GoodTiles h (n / block_size) × GoodDirectoryBlock s p h
  unfolding directory_block
  block_good first n {h} known e =
      let a = first.axes in
      let k = and_then_accepted (block_start (directory_kind a) s p) _ e in
      let fits = require_accepted _ _ _ _ k.2 in
      let at = require_accepted _ _ _ _ fits.1 in
      let t = require_accepted _ _ _ _ at.1 in
      let b = require_accepted _ _ _ _ t.1 in
      let c = require_accepted _ _ _ _ b.1 in
      let d = require_accepted _ _ _ _ c.1 in
      let q : header_in s ≡ h = accepted_injective d.1 in
      let due = entries_due (header_in s) p in
      let head : GoodHead (directory_kind a) s p = start_good (directory_kind a) s p k.1 at.0 in
      let same : (header_in s).axes ≡ a = axes_of_kind a s known head.due in
      let w = tiles_good (header_in s) first (n / block_size) same t.0 in
      let v : (i : ℕ) → i < due → (valid_box (entry_box a s i) ≡ true) × (entry_count a s i ≤ max_sites a)
      × (entry_muted a s i ≤ entry_count a s i) =
      λ i l. entry_good a i (every_at (entry_valid a s) due i d.0 l) in
      let e-due : due ≡ entries_due first p = ap (λ h. entries_due h p) w.0 in
      let padding : directory_padding a s due ≡ true = c.0 in
      let g : GoodDirectoryBlock s p first = record {
        head = head;
        header = w.0;
        entries = eqb-true (entries_in s) due b.0 ∙ e-due;
        padding = rw e-due at padding;
        boxes = λ i l. (v i (rw e-due l)).0;
        counts = λ i l. (v i (rw e-due l)).1;
        muted = λ i l. (v i (rw e-due l)).2;
      } in
      let h-first : h ≡ first = sym q ∙ w.0 in
      (h-first, fits_good a n fits.0, rw q at w.1, rw h-first g)

  block_enough : (h : Header) (n : ℕ) → n ≤ max_length h.axes → GoodTiles h (n / block_size) →
      GoodDirectoryBlock s p h → directory_block s p h n ≡ accepted h
  unfolding directory_block
  block_enough h n most w g =
      let a = h.axes in
      let due = entries_due h p in
      let v = every_holds (entry_valid a s) due (λ i l. entry_enough a i (g.boxes i l) (g.counts i l) (g.muted i l))
      in
      rw (
        start_enough (directory_kind a) s p g.head,
        fits_enough a n most,
        eq-eqb (position_in s) p g.head.position,
        g.header,
        tiles_enough h (n / block_size) w,
        eq-eqb (entries_in s) due g.entries,
        g.padding,
        v,
      )

-- ---- how many directory blocks there are, and which entry is a tile's
module _ (h : Header) (known : KnownAxes h.axes) where
  pub some_block : 1 ≤ h.tiles → 1 ≤ directory_blocks h
  unfolding directory_blocks
  some_block l =
      by_axes (λ a. 1 ≤ (h.tiles + (entries_per_block a - 1)) / entries_per_block a) (omega arith) (omega arith)
      h.axes known

  pub few_blocks : directory_blocks h ≤ h.tiles
  unfolding directory_blocks
  few_blocks =
      by_axes (λ a. (h.tiles + (entries_per_block a - 1)) / entries_per_block a ≤ h.tiles) (omega arith) (omega arith)
      h.axes known

  module _ (t : ℕ) (l : t < h.tiles) where
    pub entry_block : t / entries_per_block h.axes < directory_blocks h
    unfolding directory_blocks
    entry_block =
        by_axes (λ a. t / entries_per_block a < (h.tiles + (entries_per_block a - 1)) / entries_per_block a)
        (omega arith) (omega arith) h.axes known

    pub entry_due : t % entries_per_block h.axes < entries_due h (t / entries_per_block h.axes)
    unfolding entries_due
    entry_due =
        by_axes
        (λ a. t % entries_per_block a < min (entries_per_block a)
        (h.tiles - entries_per_block a * (t / entries_per_block a)))
        (omega arith) (omega arith) h.axes known

-- ---- the directory of a file
module _ (f : List ℕ) where
  pub block_at_good : (p : ℕ) {h : Header} → directory_block_at f p ≡ accepted h →
      (h ≡ header_in (block_at f 0))
      × (length f ≤ max_length h.axes) × GoodTiles h (length f / block_size) × GoodDirectoryBlock (block_at f p) p h
  unfolding directory_block_at
  block_at_good p e =
      let k = block_good (block_at f p) p (header_in (block_at f 0)) (length f) (axes_known (block_at f 0)) e in
      (k.0, rw k.0 k.1, k.2, k.3)

  pub directory_good : {h : Header} → directory f ≡ accepted h → GoodDirectory f h
  unfolding directory directory_rest
  directory_good {h} e =
      let l = require_accepted (length_due (length f)) #length 0 (and_then (directory_block_at f 0) (directory_rest f))
      e in
      let k = and_then_accepted (directory_block_at f 0) (directory_rest f) l.1 in
      let a = k.0 in
      let r = and_then_accepted (in_turn (directory_block_at f) 1 (directory_blocks a - 1)) (λ _. accepted a) k.2 in
      let q : a ≡ h = accepted_injective r.2 in
      let z = block_at_good 0 k.1 in
      let n = length_good (length f) l.0 in
      let later : (i : ℕ) → i < directory_blocks a - 1 → GoodDirectoryBlock (block_at f (1 + i)) (1 + i) a =
      λ i k. let x = turns_each (directory_block_at f) 1 (directory_blocks a - 1) r.1 i k in
      let y = block_at_good (1 + i) x.1 in
      let w : x.0 ≡ a = y.0 ∙ sym z.0 in
      rw w at y.3 in
      let g : GoodDirectory f a = record {
        axes = rw z.0 (axes_known (block_at f 0));
        size = record { least = n.0; whole = n.1; most = z.1 };
        tiles = z.2;
        blocks = by_first a z.3 later;
      } in
      rw q at g
    where
      by_first : (a : Header) → GoodDirectoryBlock (block_at f 0) 0 a →
          ((i : ℕ) → i < directory_blocks a - 1 → GoodDirectoryBlock (block_at f (1 + i)) (1 + i) a) → (p : ℕ) →
          p < directory_blocks a → GoodDirectoryBlock (block_at f p) p a
      by_first a z l zero k = z
      by_first a z l (suc p) k = let e : 1 + p ≡ suc p = omega arith in rw e at (l p (omega arith))

  pub directory_enough : (h : Header) → GoodDirectory f h → directory f ≡ accepted h
  unfolding directory directory_rest directory_block_at
  directory_enough h g =
      let s = block_at f 0 in
      let n = length f in
      let some = some_block h g.axes g.tiles.least in
      let q : header_in s ≡ h = (g.blocks 0 some).header in
      let each : (p : ℕ) → p < directory_blocks h → directory_block (block_at f p) p (header_in s) n ≡ accepted h =
      λ p k. rw q (block_enough (block_at f p) p h n g.size.most g.tiles (g.blocks p k)) in
      let rest = turns_all (λ p. directory_block (block_at f p) p (header_in s) n) 1 (directory_blocks h - 1)
      (λ i k. (h, each (1 + i) (omega arith))) in
      rw (length_enough h.axes n g.axes g.size, each 0 some, rest)

-- what the code goes by once block 0 is accepted
pub first_block : (f : List ℕ) (h : Header) {x : Header} → directory_block_at f 0 ≡ accepted x →
    h ≡ header_in (block_at f 0) →
    (x ≡ h)
    × (block_size * directory_blocks h ≤ length f) × (h.tiles < limit16) × KnownAxes h.axes
first_block f h {x} e q =
    let k = block_at_good f 0 e in
    let w : x ≡ h = k.0 ∙ sym q in
    let g : GoodTiles h (length f / block_size) = rw w at k.2 in
    (w, omega (arith, g.sum), omega (arith, g.most), rw q (axes_known (block_at f 0)))

module _ {f : List ℕ} {h : Header} (g : GoodDirectory f h) where
  -- every block of the directory and of the tiles is in the file
  pub block_fits : (p : ℕ) → p < directory_blocks h + h.tiles → block_size * p + block_size ≤ length f
  block_fits p l = omega (arith, g.tiles.sum)

  module _ (t : ℕ) (l : t < h.tiles) where
    entry-good-block : GoodDirectoryBlock (block_at f (t / entries_per_block h.axes)) (t / entries_per_block h.axes) h
    entry-good-block = g.blocks (t / entries_per_block h.axes) (entry_block h g.axes t l)

    pub box-valid : valid_box (box_at f h t) ≡ true
    unfolding box_at
    box-valid = entry-good-block.boxes (t % entries_per_block h.axes) (entry_due h g.axes t l)

    pub count_small : count_at f h t ≤ max_sites h.axes
    unfolding count_at
    count_small = entry-good-block.counts (t % entries_per_block h.axes) (entry_due h g.axes t l)

    pub muted_few : muted_at f h t ≤ count_at f h t
    unfolding muted_at count_at
    muted_few = entry-good-block.muted (t % entries_per_block h.axes) (entry_due h g.axes t l)
