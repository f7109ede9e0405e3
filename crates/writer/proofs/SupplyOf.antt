-- The lists that a file holds: they are read from it, they are good where the file is, and no other lists are read from
-- it. Assumes nothing.
use Prim.Native.Nat.{ℕ, zero, suc, ◌+◌, ◌*◌, ◌-◌, ◌/◌, ◌%◌, ◌<◌, ◌≤◌}
use mathlib.Core.List.{List, [], ◌∷◌}
use mathlib.Core.Path.{◌≡◌, refl, sym, ap, ◌∙◌}
use native.Mathlib.Nat.{add-zero, zero-add, mul-zero}
use native.Mathlib.Omega.{arith}
use lib.Dec.{lit<}
use lib.IntN.{ℤ, pos}
use lib.ListN.{length, get_or, take, drop}
use lib.Seq.{take-length}
use lib.Signed.{mag}
use Rattle.base.specs.Lists.{All}
use Rattle.base.specs.Tabulate.{tabulate, joined}
use Rattle.blocks.specs.Block.{block_at}
use Rattle.blocks.specs.Directory.{entry_offset, entry_number, entry_box, entry_count, box_at, count_at}
use Rattle.blocks.specs.Layout.{count_offset, entries_per_block}
use Rattle.blocks.specs.declared.header.Header.{Header}
use Rattle.codec.specs.Number.{limit32, limit_signed, Bytes, u32_at, i32_at}
use Rattle.encode.specs.Supply.{Supply, axes_of, header_of, tiles_of, numbers_per_box, box_number, box_of, count_of}
use Rattle.encode.specs.Supply.{offset}
use Rattle.encode.specs.Supply.{site_total}
use Rattle.geometry.specs.Around.{row}
use Rattle.geometry.specs.Axes.{KnownAxes}
use Rattle.tiles.specs.Accepted.{GoodFile}
use Rattle.tiles.specs.Tile.{Site, site_in, site_at}
use Rattle.base.proofs.Joined.{length-joined, get_d_joined, length-joined_next, joined-all, joined_same, joined_parts}
use Rattle.base.proofs.Tabulate.{length-tabulate, get_d_tabulate, tabulate-same, tabulate-all, tabulate-part}
use Rattle.blocks.proofs.BlockLaws.{block_bytes_lem}
use Rattle.blocks.proofs.DirectoryLaws.{box-valid, count_small}
use Rattle.codec.proofs.Bytes.{u16_small, u32_small}
use Rattle.codec.proofs.Number.{signed-small}
use Rattle.encode.proofs.EncodeLaws.{part_within}
use Rattle.encode.proofs.SupplyLaws.{offset_next, offset_within}
use Rattle.writer.specs.Accepted.{GoodSupply}
use Rattle.writer.specs.Made.{Signed, Typed, box_numbers, column, supply_of}
use Rattle.writer.proofs.BoxNumbers.{tabulate_whole, numbers_of, ends_same}
use Rattle.writer.proofs.FileLaws.{Reads}

module _ (f : List ℕ) (h : Header) where
  counts : List ℕ
  counts = tabulate (count_at f h) 0 h.tiles

  boxes : List ℤ
  boxes = joined (λ t. box_numbers (box_at f h t)) 0 h.tiles

  tiles_own : length counts ≡ h.tiles
  unfolding counts
  tiles_own = length-tabulate (count_at f h) 0 h.tiles

  count_own : (t : ℕ) → t < h.tiles → count_of counts t ≡ count_at f h t
  unfolding counts
  count_own t l = get_d_tabulate (count_at f h) 0 0 h.tiles t l ∙ ap (count_at f h) (zero-add t)

  -- ---- boxes
  -- number n of the entry of tile t
  number : ℕ → ℕ → ℤ
  number t =
      entry_number h.axes (block_at f (t / entries_per_block h.axes)) (t % entries_per_block h.axes)

  box-numbers : (t : ℕ) → box_numbers (box_at f h t) ≡ tabulate (number t) 0 (numbers_per_box h.axes)
  unfolding box_at entry_box number
  box-numbers t = numbers_of h.axes (number t)

  size_own : (t : ℕ) → length (box_numbers (box_at f h t)) ≡ numbers_per_box h.axes
  size_own t = ap length (box-numbers t) ∙ length-tabulate (number t) 0 (numbers_per_box h.axes)

  numbers_own : (n : ℕ) → length (joined (λ t. box_numbers (box_at f h t)) 0 n) ≡ numbers_per_box h.axes * n
  numbers_own n =
      length-joined (λ t. box_numbers (box_at f h t)) (numbers_per_box h.axes) 0 n (λ i l. size_own (0 + i))

  number_own : (t : ℕ) → t < h.tiles → (j : ℕ) → j < numbers_per_box h.axes →
      get_or boxes (numbers_per_box h.axes * t + j) (pos 0) ≡ number t j
  unfolding boxes
  number_own t l j k =
      ap (λ i. get_or boxes (i + j) (pos 0)) (sym (numbers_own t))
      ∙ get_d_joined (λ t. box_numbers (box_at f h t)) (pos 0) 0 h.tiles t j l (rw (size_own (0 + t)) k)
      ∙ ap (λ i. get_or (box_numbers (box_at f h i)) j (pos 0)) (zero-add t)
      ∙ ap (λ l. get_or l j (pos 0)) (box-numbers t)
      ∙ get_d_tabulate (number t) (pos 0) 0 (numbers_per_box h.axes) j k ∙ ap (number t) (zero-add j)

  box_own : (t : ℕ) → t < h.tiles → box_of h.axes boxes t ≡ box_at f h t
  unfolding box_of box_at entry_box number
  box_own t l = ends_same h.axes (box_number h.axes boxes t) (number t) (number_own t l)

  -- ---- a field of all sites
  module _ {A : Type 0} (field : Site → A) where
    part : ℕ → List A
    part t = tabulate (λ slot. field (site_at f h t slot)) 0 (count_at f h t)

    column-starts : (t : ℕ) → t ≤ h.tiles → length (joined part 0 t) ≡ offset counts t
    unfolding offset joined part
    column-starts zero l = refl
    column-starts (suc t) l =
        let e : length (part (0 + t)) ≡ count_of counts t =
        ap (λ i. length (part i)) (zero-add t) ∙ length-tabulate (λ slot. field (site_at f h t slot)) 0 (count_at f h t)
        ∙ sym (count_own t l) in
        length-joined_next part 0 t ∙ omega (arith, e, column-starts t (omega arith))

    column-length : length (column field f h) ≡ site_total counts
    unfolding column part
    column-length = column-starts h.tiles (omega arith) ∙ ap (offset counts) (sym tiles_own)

    column-at : (d : A) (t slot : ℕ) → t < h.tiles → slot < count_at f h t →
        get_or (column field f h) (offset counts t + slot) d ≡ field (site_at f h t slot)
    unfolding column part
    column-at d t slot l k =
        let g : ℕ → A = λ slot. field (site_at f h t slot) in
        let e = zero-add t in
        let m : slot < length (part (0 + t)) = rw (e, length-tabulate g 0 (count_at f h t)) k in
        ap (λ i. get_or (joined part 0 h.tiles) (i + slot) d) (sym (column-starts t (omega arith)))
        ∙ get_d_joined part d 0 h.tiles t slot l m ∙ ap (λ i. get_or (part i) slot d) e
        ∙ get_d_tabulate g d 0 (count_at f h t) slot k ∙ ap g (zero-add slot)

  -- the columns of coordinates
  abbrev spot : ℕ → List ℤ
  spot axis = column (λ (q : Site). get_or q.point axis (pos 0)) f h

  axes_own : length (tabulate spot 0 h.axes) ≡ h.axes
  axes_own = length-tabulate spot 0 h.axes

  row_own : (t slot : ℕ) → t < h.tiles → slot < count_at f h t → (a n : ℕ) →
      row (tabulate spot a n) (offset counts t + slot)
      ≡ tabulate (λ axis. get_or (site_at f h t slot).point axis (pos 0)) a n
  unfolding row tabulate
  row_own t slot l k a zero = refl
  row_own t slot l k a (suc n) =
      rw (column-at (λ (q : Site). get_or q.point a (pos 0)) (pos 0) t slot l k, row_own t slot l k (a + 1) n)

  -- a point by its coordinates
  point_own : (t slot : ℕ) → t < h.tiles → slot < count_at f h t →
      row (tabulate spot 0 h.axes) (offset counts t + slot) ≡ (site_at f h t slot).point
  unfolding site_at site_in
  point_own t slot l k =
      row_own t slot l k 0 h.axes
      ∙ tabulate_whole (site_at f h t slot).point (pos 0) h.axes (length-tabulate _ 0 h.axes)

  pub reads_own : Reads f h (supply_of f h)
  unfolding supply_of counts boxes
  reads_own = record {
    box = λ t l. rw axes_own (sym (box_own t (rw tiles_own at l)));
    count = λ t l. sym (count_own t (rw tiles_own at l));
    site = λ t slot l k. let m : t < h.tiles = rw tiles_own at l in
        let n : slot < count_at f h t = rw (count_own t m) at k in
        rw (point_own t slot m n, column-at (λ (q : Site). q.cue) 0 t slot m n);
  }

  pub header_own : header_of (axes_of (supply_of f h)) (supply_of f h).counts ≡ h
  unfolding supply_of counts
  header_own =
      ap (λ t. record { tiles = t; axes = length (tabulate spot 0 h.axes) }) tiles_own
      ∙ ap (λ a. record { tiles = h.tiles; axes = a }) axes_own

  -- every column of the coordinates has its length
  columns_own : (a n : ℕ) → All (λ c. length c ≡ site_total counts) (tabulate spot a n)
  unfolding tabulate
  columns_own a zero = tt
  columns_own a (suc n) = (column-length (λ (q : Site). get_or q.point a (pos 0)), columns_own (a + 1) n)

  pub good_own : GoodFile f h → GoodSupply (supply_of f h)
  unfolding supply_of counts boxes site_at
  good_own g =
      record {
        least = rw tiles_own g.directory.tiles.least;
        most = rw tiles_own g.directory.tiles.most;
        numbers = rw axes_own (numbers_own h.tiles ∙ ap (λ k. numbers_per_box h.axes * k) (sym tiles_own));
        boxes = λ t l. let m : t < h.tiles = rw tiles_own at l in
            rw (axes_own, box_own t m) (box-valid g.directory t m);
        counts = λ t l. let m : t < h.tiles = rw tiles_own at l in
            rw (axes_own, count_own t m) (count_small g.directory t m);
        spots = columns_own 0 h.axes;
        cues = column-length (λ (q : Site). q.cue);
        inside = λ t slot l k. let m : t < h.tiles = rw tiles_own at l in
            let n : slot < count_at f h t = rw (count_own t m) at k in
            rw (axes_own, box_own t m, point_own t slot m n) ((g.opened t m).inside slot n);
      }

  -- ---- of a file of bytes
  module _ (byte : Bytes f) where
    signed-at : (p i : ℕ) → mag (i32_at (block_at f p) i) < limit_signed
    unfolding i32_at
    signed-at p i = signed-small (u32_at (block_at f p) i) (u32_small (block_at f p) i (block_bytes_lem f p byte))

    column-signed : (field : Site → ℤ) → ((t slot : ℕ) → mag (field (site_at f h t slot)) < limit_signed) →
        Signed (column field f h)
    unfolding column
    column-signed field small =
        joined-all (λ t. tabulate (λ slot. field (site_at f h t slot)) 0 (count_at f h t)) (λ z. mag z < limit_signed)
        (pos 0) 0 h.tiles (lit< tt)
        (λ t. tabulate-all (λ slot. field (site_at f h t slot)) (λ z. mag z < limit_signed) (pos 0) 0
        (count_at f h t) (lit< tt)
        (small t))

    number_small : (t n : ℕ) → mag (number t n) < limit_signed
    unfolding number
    number_small t n = signed-at _ _

    point-small : (t slot axis : ℕ) → mag (get_or (site_at f h t slot).point axis (pos 0)) < limit_signed
    unfolding site_at site_in
    point-small t slot axis =
        tabulate-all _ (λ z. mag z < limit_signed) (pos 0) 0 h.axes (lit< tt) (λ k. signed-at _ _) axis

    columns-signed : (a n : ℕ) → All Signed (tabulate spot a n)
    unfolding tabulate
    columns-signed a zero = tt
    columns-signed a (suc n) = (
      column-signed (λ (q : Site). get_or q.point a (pos 0)) (λ t slot. point-small t slot a),
      columns-signed (a + 1) n,
    )

    pub typed_own : KnownAxes h.axes → Typed (supply_of f h)
    unfolding supply_of count_at entry_count column site_at site_in
    typed_own known = record {
      boxes = joined-all (λ t. box_numbers (box_at f h t)) (λ z. mag z < limit_signed) (pos 0) 0 h.tiles (lit< tt)
          (λ t. rw (box-numbers t) (tabulate-all (number t) (λ z. mag z < limit_signed) (pos 0) 0
          (numbers_per_box h.axes) (lit< tt) (number_small t)));
      counts = tabulate-all (count_at f h) (λ n. n < limit32) 0 0 h.tiles (lit< tt)
          (λ t. let n = entries_per_block h.axes in
          omega (
            arith,
            u16_small (block_at f (t / n)) (entry_offset h.axes (t % n) + count_offset h.axes)
                (block_bytes_lem f (t / n) byte),
          ));
      spots = columns-signed 0 h.axes;
      axes = rw axes_own known;
      cues = joined-all (λ t. tabulate (λ slot. (site_at f h t slot).cue) 0 (count_at f h t)) (λ n. n < limit32) 0
          0 h.tiles
          (lit< tt)
          (λ t. tabulate-all (λ slot. (site_at f h t slot).cue) (λ n. n < limit32) 0 0 (count_at f h t) (lit< tt)
          (λ slot. u32_small (block_at f _) _ (block_bytes_lem f _ byte)));
    }

-- ---- no other lists
module _ (f : List ℕ) (s : Supply) (g : GoodSupply s) (r : Reads f (header_of (axes_of s) s.counts) s) where
  abbrev h : Header
  h = header_of (axes_of s) s.counts

  -- a list that is read part by part, where part t has size t elements, from start t on
  parts : {A : Type 0} (l : List A) (d : A) (start size : ℕ → ℕ) → start 0 ≡ 0 →
      ((t : ℕ) → start (t + 1) ≡ start t + size t) →
      length l ≡ start (tiles_of s) → ((t : ℕ) → t < tiles_of s → start t + size t ≤ length l) →
      joined (λ t. tabulate (λ i. get_or l (start t + i) d) 0 (size t)) 0 (tiles_of s) ≡ l
  parts l d start size z next n fits =
      let e : start (0 + tiles_of s) - start 0 ≡ length l = omega (arith, ap start (zero-add (tiles_of s))) in
      joined_same (λ t. tabulate (λ i. get_or l (start t + i) d) 0 (size t)) (λ t. take (size t) (drop (start t) l))
      0 (tiles_of s)
      (λ t k. let q = zero-add t in rw q (tabulate-part l d (start t) (size t) (fits t k)))
      ∙ joined_parts l start size next 0 (tiles_of s)
      ∙ ap (λ k. take k (drop (start 0) l)) e ∙ ap (λ k. take (length l) (drop k l)) z ∙ take-length l

  counts_only : tabulate (count_at f h) 0 (tiles_of s) ≡ s.counts
  counts_only =
      tabulate-same (count_at f h) (λ t. get_or s.counts t 0) 0 (tiles_of s)
      (λ t l. let e = zero-add t in rw e (r.count t l))
      ∙ tabulate_whole s.counts 0 (tiles_of s) refl

  boxes_only : joined (λ t. box_numbers (box_at f h t)) 0 (tiles_of s) ≡ s.boxes
  unfolding box_of
  boxes_only =
      let n = numbers_per_box (axes_of s) in
      joined_same (λ t. box_numbers (box_at f h t)) (λ t. tabulate (box_number (axes_of s) s.boxes t) 0 n) 0
      (tiles_of s)
      (λ t l. let q = zero-add t in
      rw q (ap box_numbers (r.box t l) ∙ numbers_of (axes_of s) (box_number (axes_of s) s.boxes t)))
      ∙ parts s.boxes (pos 0) (λ t. n * t) (λ t. n) (mul-zero n) (λ t. omega arith) g.numbers
      (λ t l. rw g.numbers (part_within n t (tiles_of s) l))

  column_only : {A : Type 0} (field : Site → A) (l : List A) (d : A) → length l ≡ site_total s.counts →
      ((t slot : ℕ) → t < tiles_of s → slot < count_of s.counts t →
      field (site_at f h t slot) ≡ get_or l
      (offset s.counts t + slot) d) →
      column field f h ≡ l
  unfolding column offset
  column_only field l d n each =
      joined_same (λ t. tabulate (λ slot. field (site_at f h t slot)) 0 (count_at f h t))
      (λ t. tabulate (λ i. get_or l (offset s.counts t + i) d) 0 (count_of s.counts t)) 0 (tiles_of s)
      (λ t k. let q = zero-add t in
      rw (q, r.count t k)
      (tabulate-same (λ slot. field (site_at f h t slot)) (λ i. get_or l (offset s.counts t + i) d)
      0
      (count_of s.counts t)
      (λ slot m. let e = zero-add slot in rw e (each t slot k m))))
      ∙ parts l d (offset s.counts) (count_of s.counts) refl (offset_next s.counts) n
      (λ t k. rw n (offset_within s.counts t (tiles_of s) k))

  -- columns of the coordinates from axis a on
  columns_only : (a : ℕ) (cols : List (List ℤ)) → All (λ c. length c ≡ site_total s.counts) cols →
      ((t slot axis : ℕ) → t < tiles_of s → slot < count_of s.counts t →
      get_or (site_at f h t slot).point (a + axis) (pos 0)
      ≡ get_or (row cols (offset s.counts t + slot)) axis (pos 0)) →
      tabulate (λ axis. column (λ (q : Site). get_or q.point axis (pos 0)) f h) a (length cols)
      ≡ cols
  unfolding tabulate row
  columns_only a [] n each = refl
  columns_only a (c ∷ cols) n each =
      let here = column_only (λ (q : Site). get_or q.point a (pos 0)) c (pos 0) n.0
      (λ t slot k m. rw (add-zero a) at (each t slot 0 k m)) in
      let rest = columns_only (a + 1) cols n.1
      (λ t slot axis k m. let e : a + 1 + axis ≡ a + suc axis = omega arith in rw e (each t slot (suc axis) k m)) in
      rw (here, rest)

  pub only_own : s ≡ supply_of f h
  unfolding supply_of
  only_own = rw (
    boxes_only,
    counts_only,
    columns_only 0 s.spots g.spots (λ t slot axis k m. let e = zero-add axis in
        rw e (ap (λ (q : Site). get_or q.point axis (pos 0)) (r.site t slot k m))),
    column_only (λ (q : Site). q.cue) s.cues 0 g.cues (λ t slot k m. ap (λ (q : Site). q.cue)
        (r.site t slot k m)),
  )
