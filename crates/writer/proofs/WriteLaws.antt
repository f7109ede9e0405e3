-- What the writer's tests show, that this is enough, and what the call comes to. Assumes nothing.
use Prim.Native.Nat.{ℕ, ◌+◌, ◌*◌, ◌<◌, ◌≤◌}
use mathlib.Core.Bool.{true, ◌&&◌}
use mathlib.Core.List.{List, [], ◌∷◌}
use mathlib.Core.Path.{◌≡◌, refl, ap, ◌∙◌}
use native.Mathlib.Omega.{arith}
use lib.Dec.{eqb}
use lib.IntN.{ℤ}
use lib.ListN.{length, take}
use lib.Seq.{length-take-le}
use borrow.Author.Tests.{leb-true, le-leb, eqb-true, eq-eqb}
use Rattle.base.specs.Lists.{All}
use Rattle.base.specs.Over.{over}
use Rattle.base.specs.Refusal.{accepted, refused}
use Rattle.base.specs.Tabulate.{joined}
use Rattle.blocks.specs.Directory.{directory_blocks}
use Rattle.blocks.specs.Layout.{block_size, max_sites, max_tiles}
use Rattle.encode.specs.Encode.{directory_bytes, tile_bytes_of, file_bytes, file_length}
use Rattle.encode.specs.Supply.{Supply, axes_of, header_of, tiles_of, numbers_per_box, box_of, count_of, offset}
use Rattle.encode.specs.Supply.{site_total}
use Rattle.geometry.specs.Around.{equal_columns, row}
use Rattle.geometry.specs.Axes.{KnownAxes, Columns}
use Rattle.geometry.specs.Box.{valid_box, inside}
use Rattle.base.proofs.Joined.{length-joined}
use Rattle.base.proofs.Outcomes.{require_accepted}
use Rattle.base.proofs.Over.{also}
use Rattle.base.proofs.Tests.{and_both, both_and, by_test}
use Rattle.base.proofs.Every.{every_at, every_holds}
use Rattle.geometry.proofs.Theorems.{columns_equal, equal_columns_lem, by_axes}
use Rattle.encode.proofs.EncodeLaws.{length-directory_block}
use Rattle.writer.specs.Accepted.{GoodSupply}
use Rattle.writer.specs.Write.{tiles_fit, entry_fits, lists_fit, sites_fit, tile_fits, write_tests, write_call}
use Rattle.writer.specs.Write.{write_exit}

-- ---- test by test
pub tiles_fit_good : (t : ℕ) → tiles_fit t ≡ true → (1 ≤ t) × (t ≤ max_tiles)
unfolding tiles_fit
tiles_fit_good t e = let h = and_both _ _ e in (leb-true 1 t h.0, leb-true t max_tiles h.1)

pub entry_fits_good : (a : ℕ) (boxes : List ℤ) (counts : List ℕ) (t : ℕ) → entry_fits a boxes counts t ≡ true →
    (valid_box (box_of a boxes t) ≡ true)
    × (count_of counts t ≤ max_sites a)
unfolding entry_fits
entry_fits_good a boxes counts t e = let h = and_both _ _ e in (h.0, leb-true (count_of counts t) (max_sites a) h.1)

pub lists_good : (sum : ℕ) (spots : List (List ℤ)) (cues : List ℕ) → lists_fit sum spots cues ≡ true →
    All (λ c. length c ≡ sum) spots × (length cues ≡ sum)
unfolding lists_fit
lists_good sum spots cues e =
    let h = and_both _ _ e in
    (columns_equal sum spots h.0, eqb-true (length cues) sum h.1)

-- columns as calls hand them on: as many as axes
pub columns_axes : (a : ℕ) (xs ys zs : List ℤ) → KnownAxes a → length (take a (xs ∷ ys ∷ zs ∷ [])) ≡ a
columns_axes a xs ys zs k = length-take-le a (xs ∷ ys ∷ zs ∷ []) k.1

-- of a plan town the third column is the second again: a test of three columns
pub columns_test : (a n : ℕ) (xs ys zs : List ℤ) → Columns a ys zs →
    eqb (length xs) n && (eqb (length ys) n && eqb (length zs) n) ≡ equal_columns n (take a (xs ∷ ys ∷ zs ∷ []))
unfolding equal_columns
columns_test a n xs ys zs h =
    by_axes (λ a. (a ≡ 2 → zs ≡ ys) → eqb (length xs) n && (eqb (length ys) n && eqb (length zs) n)
    ≡ equal_columns n (take a (xs ∷ ys ∷ zs ∷ [])))
    (λ same. rw (same refl) (by_test (eqb (length ys) n) (λ e. rw e) (λ e. rw e)))
    (λ _. by_test (eqb (length zs) n) (λ e. rw e) (λ e. rw e)) a h.0 h.1

pub columns-long : (a n : ℕ) (xs ys zs : List ℤ) → Columns a ys zs →
    All (λ c. length c ≡ n) (take a (xs ∷ ys ∷ zs ∷ [])) → (length xs ≡ n) × (length ys ≡ n) × (length zs ≡ n)
columns-long a n xs ys zs h =
    by_axes (λ a. (a ≡ 2 → zs ≡ ys) → All (λ c. length c ≡ n) (take a (xs ∷ ys ∷ zs ∷ []))
    → (length xs ≡ n) × (length ys ≡ n) × (length zs ≡ n))
    (λ same l. (l.0, l.1.0, ap length (same refl) ∙ l.1.0)) (λ _ l. (l.0, l.1.0, l.1.1.0)) a h.0 h.1

tile_fits_good : (a : ℕ) (boxes : List ℤ) (counts : List ℕ) (spots : List (List ℤ)) (t : ℕ)
    → tile_fits a boxes counts spots t ≡ true → (slot : ℕ) → slot < count_of counts t
    → inside (box_of a boxes t) (row spots (offset counts t + slot)) ≡ true
unfolding tile_fits sites_fit
tile_fits_good a boxes counts spots t e slot l =
    every_at (λ i. inside (box_of a boxes t) (row spots (offset counts t + i))) (count_of counts t) slot e l

-- test 10 of tile t, by what the code goes by
pub tile_test : (a : ℕ) (boxes : List ℤ) (counts : List ℕ) (spots : List (List ℤ)) (t : ℕ) {b : List (List ℤ)}
    {first n : ℕ} → b ≡ box_of a boxes t →
    first ≡ offset counts t → n ≡ count_of counts t → sites_fit b spots first n ≡ tile_fits a boxes counts spots t
unfolding tile_fits
tile_test a boxes counts spots t e₁ e₂ e₃ = rw (e₁, e₂, e₃)

-- ---- all tests
module _ (s : Supply) (room : ℕ) where
  pub tests_good : {u : Unit} → write_tests s room ≡ accepted u →
      GoodSupply s × (file_length (header_of (axes_of s) s.counts) ≤ room)
  unfolding write_tests
  tests_good e =
      let a = require_accepted _ _ _ _ e in
      let b = require_accepted _ _ _ _ a.1 in
      let c = require_accepted _ _ _ _ b.1 in
      let d = require_accepted _ _ _ _ c.1 in
      let g = require_accepted _ _ _ _ d.1 in
      let h = require_accepted _ _ _ _ g.1 in
      let t = tiles_fit_good (tiles_of s) a.0 in
      let l = lists_good (site_total s.counts) s.spots s.cues d.0 in
      let v : (t : ℕ) → t < tiles_of s →
      (valid_box (box_of (axes_of s) s.boxes t) ≡ true) × (count_of s.counts t ≤ max_sites (axes_of s)) =
      λ t k. entry_fits_good (axes_of s) s.boxes s.counts t
      (every_at (entry_fits (axes_of s) s.boxes s.counts) (tiles_of s) t c.0 k) in (
        record {
          least = t.0;
          most = t.1;
          numbers = eqb-true (length s.boxes) (numbers_per_box (axes_of s) * tiles_of s) b.0;
          boxes = λ t k. (v t k).0;
          counts = λ t k. (v t k).1;
          spots = l.0;
          cues = l.1;
          inside = λ t slot k m. tile_fits_good (axes_of s) s.boxes s.counts s.spots t
              (every_at (tile_fits (axes_of s) s.boxes s.counts s.spots) (tiles_of s) t g.0 k) slot m;
        },
        leb-true (file_length (header_of (axes_of s) s.counts)) room h.0,
      )

  pub tests_enough : GoodSupply s → file_length (header_of (axes_of s) s.counts) ≤ room →
      write_tests s room ≡ accepted tt
  unfolding write_tests tiles_fit entry_fits lists_fit tile_fits sites_fit
  tests_enough g h =
      let v = every_holds (entry_fits (axes_of s) s.boxes s.counts) (tiles_of s)
      (λ t k. both_and (g.boxes t k) (le-leb (count_of s.counts t) (max_sites (axes_of s)) (g.counts t k))) in
      let w = every_holds (tile_fits (axes_of s) s.boxes s.counts s.spots) (tiles_of s)
      (λ t k. every_holds (λ i. inside (box_of (axes_of s) s.boxes t) (row s.spots (offset s.counts t + i)))
      (count_of s.counts t)
      (λ slot m. g.inside t slot k m)) in
      rw (
        le-leb 1 (tiles_of s) g.least,
        le-leb (tiles_of s) max_tiles g.most,
        eq-eqb (length s.boxes) (numbers_per_box (axes_of s) * tiles_of s) g.numbers,
        v,
        equal_columns_lem (site_total s.counts) s.spots g.spots,
        eq-eqb (length s.cues) (site_total s.counts) g.cues,
        w,
        le-leb (file_length (header_of (axes_of s) s.counts)) room h,
      )

  -- ---- the call
  pub call_refused : {n b : ℕ} → write_tests s room ≡ refused n b → write_call s room ≡ refused n b
  unfolding write_call
  call_refused e = rw e

  pub call_accepted : write_tests s room ≡ accepted tt →
      write_call s room ≡ accepted (file_length (header_of (axes_of s) s.counts))
  unfolding write_call
  call_accepted e = rw e

module _ (s : Supply) (out : List ℕ) where
  pub exit_refused : {n b : ℕ} → write_call s (length out) ≡ refused n b → write_exit s out ≡ out
  unfolding write_exit
  exit_refused e = rw e

  pub exit_accepted : {n : ℕ} → write_call s (length out) ≡ accepted n → write_exit s out ≡ over out 0 (file_bytes s)
  unfolding write_exit
  exit_accepted e = rw e

  pub file_row : {d₁ d₂ : List ℕ} →
      d₁ ≡ over out 0
      (joined (directory_bytes (axes_of s) s.boxes s.counts s.cues) 0
      (directory_blocks (header_of (axes_of s) s.counts))) →
      d₂ ≡ over d₁ (block_size * directory_blocks (header_of (axes_of s) s.counts))
      (joined (tile_bytes_of (axes_of s) s.counts s.spots s.cues) 0 (tiles_of s)) →
      d₂ ≡ over out 0 (file_bytes s)
  unfolding file_bytes
  file_row e₁ e₂ =
      let g = directory_bytes (axes_of s) s.boxes s.counts s.cues in
      let n = length-joined g block_size 0 (directory_blocks (header_of (axes_of s) s.counts))
      (λ i l. length-directory_block (axes_of s) s.boxes s.counts s.cues (0 + i)) in
      also out 0 (block_size * directory_blocks (header_of (axes_of s) s.counts))
      (joined g 0 (directory_blocks (header_of (axes_of s) s.counts)))
      (joined (tile_bytes_of (axes_of s) s.counts s.spots s.cues) 0 (tiles_of s)) e₁ e₂ (omega (arith, n))
