-- The corners of a region in two parts, and their tables: how they are filled, and what they tell of a pair of tiles.
-- Assumes nothing.
use Prim.Native.Nat.{ℕ, zero, suc, ◌+◌, ◌*◌, ◌<◌, ◌≤◌}
use mathlib.Core.Bool.{Bool, false, ◌&&◌, and-true, and_assoc}
use mathlib.Core.List.{List}
use mathlib.Core.Path.{◌≡◌, sym, ◌∙◌}
use native.Mathlib.Nat.{add-zero}
use native.Mathlib.Omega.{arith}
use lib.Dec.{ltb}
use lib.IntN.{ℤ}
use lib.ListN.{get_or}
use borrow.Author.Tests.{ltb-true, ltb-false, le-ltb}
use Rattle.base.specs.Every.{every}
use Rattle.base.specs.Refusal.{accepted}
use Rattle.blocks.specs.Directory.{directory, box_at}
use Rattle.blocks.specs.Layout.{max_tiles}
use Rattle.blocks.specs.declared.header.Header.{Header}
use Rattle.geometry.specs.Axes.{KnownAxes}
use Rattle.geometry.specs.Corners.{corners}
use Rattle.geometry.specs.Distance.{max_dist}
use Rattle.plan.specs.FilePlan.{space, entries}
use Rattle.plan.specs.Inner.Seam.{ValidRegion, corner_count, far}
use Rattle.base.proofs.Every.{every_fails, every-same}
use Rattle.base.proofs.Tests.{by_test}
use Rattle.geometry.proofs.Theorems.{by_axes}
use Rattle.plan.proofs.Measures.{closer_by_corners}
use Rattle.corners.specs.Inner.Tables.{max_corners, FarRow, FarTable, NearTable, below_all}

-- ---- the corners

-- how many there are
pub corners-few : (h : Header) → KnownAxes h.axes → (4 ≤ corner_count h) × (corner_count h ≤ max_corners)
corners-few h known =
    by_axes (λ n. (4 ≤ corners n) × (corners n ≤ max_corners)) (omega arith, omega arith) (omega arith, omega arith)
    h.axes known

-- a test of the first m and of the n after them
pub every_parts : (f : ℕ → Bool) (m n : ℕ) → every f (m + n) ≡ every f m && every (λ i. f (m + i)) n
unfolding every
every_parts f m zero = rw (add-zero m, and-true)
every_parts f m (suc n) =
    let e : m + suc n ≡ suc (m + n) = omega arith in
    rw (e, every_parts f m n) (and_assoc (every f m) (every (λ i. f (m + i)) n) (f (m + n)))

-- ---- the tables of a region

-- far of a tile is that of its box
pub far_of_box : (f : List ℕ) (h : Header) (p : List ℤ) (t : ℕ) {b : List (List ℤ)} → b ≡ box_at f h t
    → max_dist b p ≡ far f h p t
unfolding far
far_of_box f h p t e = rw e

module _ (f : List ℕ) (h : Header) (o : List (List ℤ)) where
  -- one more tile
  pub next_far : (tile : ℕ → ℕ) {n : ℕ} {was d : List ℕ} → n < max_tiles → FarTable f h o tile n was
      → FarRow f h o (tile n) n was d → FarTable f h o tile (n + 1) d
  next_far tile {n} few table row = record {
    long = row.long ∙ table.long;
    at = λ c i j u. by_test (ltb i n)
        (λ b. let l = ltb-true i n b in row.other c i (omega arith) (omega arith) ∙ table.at c i j l)
        (λ b. let q : i ≡ n = omega (arith, ltb-false i n b) in rw q (row.at c j));
  }

  -- far below near from each corner is closer
  pub tells_closer : (dir : directory f ≡ accepted h) → ValidRegion h o → (tile : ℕ → ℕ) {n : ℕ} {d : List ℕ}
      → FarTable f h o tile n d → (b : ℕ) → b < h.tiles → (nears : List ℕ) → NearTable f h o b nears
      → (i : ℕ) → i < n → tile i < h.tiles
      → below_all h d nears i ≡ space.closer o ((entries f h).box (tile i)) ((entries f h).box b)
  unfolding below_all
  tells_closer dir v tile table b below nears from i l u =
      every-same _ _ (corner_count h) (λ c j. rw (table.at c i j l, from c j))
      ∙ sym (closer_by_corners f h dir v (tile i) b u below)

-- ---- a place that fails a test

-- nowhere is far below near from each corner where it is not from one of them
pub not_below : (h : Header) (d near : List ℕ) (i c : ℕ) → c < corner_count h
    → get_or near c 0 ≤ get_or d (c * max_tiles + i) 0 → below_all h d near i ≡ false
unfolding below_all
not_below h d near i c j l =
    every_fails (λ c. ltb (get_or d (c * max_tiles + i) 0) (get_or near c 0)) (corner_count h) c j
    (le-ltb (get_or d (c * max_tiles + i) 0) (get_or near c 0) l)
