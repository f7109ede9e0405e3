-- A block that holds what the writer makes is good, with the entries or sites of the lists; a good block of bytes with
-- these entries or sites holds what the writer makes. Assumes nothing.
use Prim.Native.Nat.{ℕ, ◌+◌, ◌*◌, ◌<◌, ◌≤◌}
use mathlib.Core.Bool.{true}
use mathlib.Core.List.{List}
use mathlib.Core.Path.{◌≡◌, sym, ap, ◌∙◌}
use native.Mathlib.Nat.{div-le_self}
use native.Mathlib.Omega.{arith}
use lib.Dec.{eqb, ltb}
use lib.IntN.{ℤ}
use lib.ListN.{length, get_or}
use borrow.Author.Tests.{eqb-true, eqb-false, eq-eqb, ltb-true, ltb-false}
use Rattle.base.specs.Lists.{All}
use Rattle.base.specs.Tabulate.{joined}
use Rattle.blocks.specs.Accepted.{GoodHead, GoodDirectoryBlock}
use Rattle.blocks.specs.Block.{axes_in, header_in, kind_due}
use Rattle.blocks.specs.Directory.{directory_blocks, entries_due, entry_offset, entry_box, entry_count, entry_muted}
use Rattle.blocks.specs.Directory.{directory_padding}
use Rattle.blocks.specs.Layout.{block_size, kind_at, tiles_at, reserved_at, payload_at, check_at, entry_size}
use Rattle.blocks.specs.Layout.{payload_size, entries_per_block, site_size, max_sites, max_tiles, directory_kind}
use Rattle.blocks.specs.Layout.{tile_kind}
use Rattle.blocks.specs.declared.header.Header.{Header}
use Rattle.codec.specs.Zeros.{zeros}
use Rattle.codec.specs.Number.{limit16, Bytes, u16_at}
use Rattle.encode.specs.Encode.{entry_bytes, site_bytes, directory_bytes, tile_bytes}
use Rattle.encode.specs.Supply.{header_of, box_of, count_of, offset, muted_from, muted_of, supplied_site}
use Rattle.geometry.specs.Around.{row}
use Rattle.geometry.specs.Axes.{KnownAxes}
use Rattle.geometry.specs.Box as geometry
use Rattle.tiles.specs.Accepted.{GoodTileBlock}
use Rattle.tiles.specs.Tile.{Site, site_offset, site_in, muted_cue, muted_in, tile_padding}
use Rattle.base.proofs.Tests.{and_both, both_and, by_test}
use Rattle.base.proofs.HowMany.{how_many_same}
use Rattle.blocks.proofs.BlockLaws.{axes_of_kind}
use Rattle.blocks.proofs.DirectoryLaws.{few_blocks}
use Rattle.codec.proofs.Zeros.{zeros_at, zeros_hold}
use Rattle.codec.proofs.Holds.{Holds, holds-each, holds-joined}
use Rattle.encode.proofs.EncodeLaws.{length_entry, length_site, length-entries, length-sites, parts_fit, due_few}
use Rattle.encode.proofs.EncodeLaws.{due_within}
use Rattle.encode.proofs.SupplyLaws.{muted_most}
use Rattle.writer.specs.Made.{Signed, Unsigned}
use Rattle.writer.proofs.BlockFields.{Fields, fields_read, fields_held, entry_read, entry_held, site_read}
use Rattle.writer.proofs.BlockFields.{site_held, row-signed}

-- the fields that both kinds of block have in common
module _ {s : List ℕ} {kind p : ℕ} where
  head_of : {n t : ℕ} {payload : List ℕ} → Fields s kind p n t payload → GoodHead kind s p
  unfolding kind_due
  head_of g = record {
    sync = g.sync;
    check = g.check;
    due = eq-eqb (get_or s kind_at 0) kind g.kinds;
    position = g.position;
  }

  kind_of : GoodHead kind s p → get_or s kind_at 0 ≡ kind
  unfolding kind_due
  kind_of g = eqb-true (get_or s kind_at 0) kind g.due

-- ---- a directory block
-- its entries are those of its tiles
abbrev pub Entries : ℕ → List ℤ → List ℕ → List ℕ → List ℕ → ℕ → Type 0
Entries a boxes counts cues s p = (i : ℕ) → i < entries_due (header_of a counts) p →
    (entry_box a s i ≡ box_of a boxes (entries_per_block a * p + i))
    × (entry_count a s i ≡ count_of counts (entries_per_block a * p + i))
    × (entry_muted a s i ≡ muted_of counts cues (entries_per_block a * p + i))

module _ (a : ℕ) (boxes : List ℤ) (counts cues : List ℕ) (s : List ℕ) (p : ℕ) (size : length s ≡ block_size) where
  payload : List ℕ
  payload = joined (entry_bytes a boxes counts cues) (entries_per_block a * p) (entries_due (header_of a counts) p)

  entries_fit : payload_at + length payload ≤ check_at
  unfolding payload
  entries_fit =
      omega (
        arith,
        length-entries a boxes counts cues (entries_per_block a * p) (entries_due (header_of a counts) p),
        parts_fit (entry_size a) (entries_due (header_of a counts) p) (omega arith) (due_few (header_of a counts) p),
      )

  payload_end : payload_at + length payload ≡ entry_offset a (entries_due (header_of a counts) p)
  unfolding payload entry_offset
  payload_end =
      let n = entries_due (header_of a counts) p in
      omega (arith, length-entries a boxes counts cues (entries_per_block a * p) n)

  module _ (known : KnownAxes a) (signed : Signed boxes) (few : length counts ≤ max_tiles)
      (here : p < directory_blocks (header_of a counts))
      (small : (t : ℕ) → t < length counts → count_of counts t ≤ max_sites a)
      (valid : (t : ℕ) → t < length counts → geometry.valid_box (box_of a boxes t) ≡ true) where
    entries-read : Holds s payload_at payload → Entries a boxes counts cues s p
    unfolding payload entry_offset
    entries-read h i l =
        let t = entries_per_block a * p + i in
        let k : t < length counts = omega (arith, due_within (header_of a counts) p here) in
        entry_read a s i boxes counts cues t signed (omega (arith, small t k, div-le_self payload_size (site_size a)))
        (holds-each s (entry_bytes a boxes counts cues) (entry_size a) payload_at (entries_per_block a * p)
        (entries_due (header_of a counts) p)
        (λ j m. length_entry a boxes counts cues (entries_per_block a * p + j)) h i l)

    pub directory_read : Holds s 0 (directory_bytes a boxes counts cues p) →
        GoodDirectoryBlock s p (header_of a counts) × Entries a boxes counts cues s p
    unfolding directory_bytes payload directory_padding
    directory_read h =
        let n = entries_due (header_of a counts) p in
        let g = fields_read s size (directory_kind a) p n (length counts) payload entries_fit
        (omega (arith, few_blocks (header_of a counts) known))
        (omega (arith, due_few (header_of a counts) p, div-le_self payload_size (entry_size a))) (omega arith) h in
        let e = entries-read g.held in
        let hd : GoodHead (directory_kind a) s p = head_of g in
        let tile : (i : ℕ) → i < n → entries_per_block a * p + i < length counts = λ i l. omega
        (arith, due_within (header_of a counts) p here) in (
          record {
            head = hd;
            header = ap (λ t. record { tiles = t; axes = axes_in s }) g.tiles
                ∙ ap (λ k. record { tiles = length counts; axes = k }) (axes_of_kind a s known hd.due);
            entries = g.entries;
            padding = both_and g.reserved (ap (λ k. zeros s k check_at) (sym payload_end) ∙ g.unused);
            boxes = λ i l. rw (e i l).0 (valid (entries_per_block a * p + i) (tile i l));
            counts = λ i l. rw (e i l).1 (small (entries_per_block a * p + i) (tile i l));
            muted = λ i l. rw ((e i l).1, (e i l).2) (muted_most cues (offset counts (entries_per_block a * p + i))
                (count_of counts (entries_per_block a * p + i)));
          },
          e,
        )

  pub directory_held : Bytes s → GoodDirectoryBlock s p (header_of a counts) → Entries a boxes counts cues s p →
      Holds s 0 (directory_bytes a boxes counts cues p)
  unfolding directory_bytes payload directory_padding entry_offset
  directory_held byte g e =
      let n = entries_due (header_of a counts) p in
      let z = and_both _ _ g.padding in
      fields_held s size (directory_kind a) p n (length counts) payload entries_fit byte (record {
        sync = g.head.sync;
        kinds = kind_of g.head;
        position = g.head.position;
        entries = g.entries;
        tiles = ap (λ (h : Header). h.tiles) g.header;
        reserved = z.0;
        held = holds-joined s (entry_bytes a boxes counts cues) (entry_size a) payload_at (entries_per_block a * p) n
            (λ j m. length_entry a boxes counts cues (entries_per_block a * p + j))
            (λ i l.
            entry_held a s i boxes counts cues (entries_per_block a * p + i) byte (e i l).0 (e i l).1 (e i l).2);
        unused = ap (λ k. zeros s k check_at) payload_end ∙ z.1;
        check = g.head.check;
      })

-- ---- T is zero in a tile: its two bytes and the eight after them
module _ (s : List ℕ) where
  tile_zeros : (header_in s).tiles ≡ 0 → zeros s reserved_at payload_at ≡ true → zeros s tiles_at payload_at ≡ true
  unfolding u16_at
  tile_zeros e z =
      zeros_hold s tiles_at payload_at (λ i l k. by_test (ltb i reserved_at) (λ t. first i k (ltb-true i reserved_at t))
      (λ t. zeros_at s reserved_at payload_at z i (ltb-false i reserved_at t) l))
    where
      first : (i : ℕ) → tiles_at ≤ i → i < reserved_at → get_or s i 0 ≡ 0
      first i k l = by_test (eqb i tiles_at) (λ t. rw (eqb-true i tiles_at t) (omega (arith, e)))
          (λ t. let q : i ≡ tiles_at + 1 = omega (arith, eqb-false i tiles_at t) in rw q (omega (arith, e)))

  tiles_zero : zeros s tiles_at payload_at ≡ true → ((header_in s).tiles ≡ 0) × (zeros s reserved_at payload_at ≡ true)
  unfolding u16_at
  tiles_zero z =
      let a = zeros_at s tiles_at payload_at z tiles_at (omega arith) (omega arith) in
      let b = zeros_at s tiles_at payload_at z (tiles_at + 1) (omega arith) (omega arith) in (
        omega (arith, a, b),
        zeros_hold s reserved_at payload_at (λ i l k. zeros_at s tiles_at payload_at z i (omega arith) l),
      )

-- ---- a tile's block
-- its sites are n sites of the lists from site `first` on
abbrev pub Sites : List (List ℤ) → List ℕ → List ℕ → ℕ → ℕ → Type 0
Sites spots cues s first n = (slot : ℕ) → slot < n →
    site_in (length spots) s slot ≡ supplied_site spots cues (first + slot)

-- so that as many of them are muted
pub sites_muted : (spots : List (List ℤ)) (cues s : List ℕ) (first n : ℕ) → Sites spots cues s first n →
    muted_in (length spots) s n ≡ muted_from cues first n
unfolding muted_in muted_from
sites_muted spots cues s first n e = how_many_same _ _ n (λ slot l. ap (λ (q : Site). muted_cue q.cue) (e slot l))

module _ (spots : List (List ℤ)) (cues : List ℕ) (s : List ℕ) (p first n : ℕ) (size : length s ≡ block_size)
    (few : n ≤ max_sites (length spots)) where
  abbrev axes : ℕ
  axes = length spots

  sites : List ℕ
  sites = joined (site_bytes axes spots cues) first n

  sites_fit_lem : payload_at + length sites ≤ check_at
  unfolding sites
  sites_fit_lem = omega (arith, length-sites axes spots cues first n, parts_fit (site_size axes) n (omega arith) few)

  sites_end : payload_at + length sites ≡ site_offset axes n
  unfolding sites site_offset
  sites_end = omega (arith, length-sites axes spots cues first n)

  pub tile_read : All Signed spots → Unsigned cues → p < limit16 → (bounds : List (List ℤ)) →
      ((slot : ℕ) → slot < n → geometry.inside bounds (row spots (first + slot)) ≡ true) →
      Holds s 0 (tile_bytes axes spots cues p first n) →
      GoodTileBlock axes s p bounds n (muted_from cues first n) × Sites spots cues s first n
  unfolding tile_bytes sites tile_padding site_offset
  tile_read sp sc lp bounds inside h =
      let g = fields_read s size (tile_kind axes) p n 0 sites sites_fit_lem lp
      (omega (arith, few, div-le_self payload_size (site_size axes))) (omega arith) h in
      let e : Sites spots cues s first n = λ slot l. site_read s slot spots cues (first + slot)
      (row-signed spots sp (first + slot)) sc
      (holds-each s (site_bytes axes spots cues) (site_size axes) payload_at first n
      (λ j m. length_site axes spots cues (first + j)) g.held slot l) in (
        record {
          head = head_of g;
          entries = g.entries;
          padding = both_and (tile_zeros s g.tiles g.reserved) (ap (λ k. zeros s k check_at) (sym sites_end)
              ∙ g.unused);
          inside = λ slot l. ap (λ (q : Site). geometry.inside bounds q.point) (e slot l) ∙ inside slot l;
          muted_counted = sites_muted spots cues s first n e;
        },
        e,
      )

  pub tile_held : Bytes s → {bounds : List (List ℤ)} {muted : ℕ} → GoodTileBlock axes s p bounds n muted →
      Sites spots cues s first n → Holds s 0 (tile_bytes axes spots cues p first n)
  unfolding tile_bytes sites tile_padding site_offset
  tile_held byte g e =
      let z = and_both _ _ g.padding in
      let y = tiles_zero s z.0 in
      fields_held s size (tile_kind axes) p n 0 sites sites_fit_lem byte (record {
        sync = g.head.sync;
        kinds = kind_of g.head;
        position = g.head.position;
        entries = g.entries;
        tiles = y.0;
        reserved = y.1;
        held = holds-joined s (site_bytes axes spots cues) (site_size axes) payload_at first n
            (λ j m. length_site axes spots cues (first + j))
            (λ slot l. site_held s slot spots cues (first + slot) byte (e slot l));
        unused = ap (λ k. zeros s k check_at) sites_end ∙ z.1;
        check = g.head.check;
      })
