-- The corners of a box by number: each is a point of the box, and the margin's point of O is one. Assumes nothing.
use Prim.Native.Nat.{ℕ, zero, suc, ◌+◌, ◌*◌, ◌/◌, ◌%◌, ◌<◌}
use mathlib.Core.Bool.{true}
use mathlib.Core.List.{List, [], ◌∷◌}
use mathlib.Core.Path.{◌≡◌, refl, ap, ◌∙◌}
use native.Mathlib.Nat.{two-pow-succ}
use native.Mathlib.Omega.{arith}
use lib.Dec.{eqb}
use lib.IntN.{ℤ, pos}
use lib.ListN.{get_or, length, take}
use borrow.Author.Tests.{eqb-true, eqb-false}
use Rattle.geometry.specs.Axes.{axis_at}
use Rattle.geometry.specs.Box.{lo, hi, valid_axis, valid_box}
use Rattle.geometry.specs.Corners.{end_at, corner, corners}
use Rattle.geometry.specs.Margin.{best_end, best_point}
use Rattle.base.proofs.Tests.{and_both, by_test, cond_ind}
use Rattle.geometry.proofs.AllAxes.{In, none, more}
use Rattle.geometry.proofs.BestEnd.{better, best_end_test}
use Rattle.geometry.proofs.BestPoint.{Three, no_axis, next_axis}
use Rattle.geometry.proofs.OneAxis.{axis, On, low_on, high_on}

-- the end by its index
pub end_index : (s : List ℤ) (c : ℕ) → get_or s (c % 2) (pos 0) ≡ end_at s c
unfolding end_at
end_index s c =
    by_test (eqb (c % 2) 0)
    (λ t. rw (eqb-true (c % 2) 0 t))
    (λ t. let m : c % 2 ≡ 1 = omega (arith, eqb-false (c % 2) 0 t) in rw m)

-- three axes
pub corner_3 : (o : List (List ℤ)) (c : ℕ) → length o ≡ 3
    → corner o c ≡ end_at (axis_at o 0) c ∷ end_at (axis_at o 1) (c / 2) ∷ end_at (axis_at o 2) (c / 4) ∷ []
unfolding corner
corner_3 [] c n = absurd (omega arith)
corner_3 (x ∷ []) c n = absurd (omega arith)
corner_3 (x ∷ y ∷ []) c n = absurd (omega arith)
corner_3 (x ∷ y ∷ z ∷ []) c n = let q : c / 2 / 2 ≡ c / 4 = omega arith in rw q
corner_3 (x ∷ y ∷ z ∷ w ∷ o) c n = absurd (omega arith)

-- the corners of a box of n axes are the first coordinates of those of a box with more
pub take-corner : (n : ℕ) (o : List (List ℤ)) (c : ℕ) → take n (corner o c) ≡ corner (take n o) c
unfolding corner
take-corner zero o c = refl
take-corner (suc n) [] c = refl
take-corner (suc n) (s ∷ o) c = ap (λ z. end_at s c ∷ z) (take-corner n o (c / 2))

pub corner_in : (o : List (List ℤ)) → valid_box o ≡ true → (c : ℕ) → In o (corner o c)
unfolding valid_box corner end_at
corner_in [] v c = none
corner_in (s ∷ o) v c =
    let u = and_both (valid_axis s) (valid_box o) v in
    let a = axis s u.0 in
    more (cond_ind (eqb (c % 2) 0) (lo s) (hi s) (On s) (λ t. low_on a) (λ t. high_on a)) (corner_in o u.1 (c / 2))

-- the two corners that go on as corner c of the other axes
module _ (s : List ℤ) (o : List (List ℤ)) (c : ℕ) where
  corner_low : corner (s ∷ o) (2 * c) ≡ lo s ∷ corner o c
  unfolding corner end_at
  corner_low =
      let m : (2 * c) % 2 ≡ 0 = omega arith in
      let d : (2 * c) / 2 ≡ c = omega arith in
      rw (m, d)

  corner_high : corner (s ∷ o) (2 * c + 1) ≡ hi s ∷ corner o c
  unfolding corner end_at
  corner_high =
      let m : (2 * c + 1) % 2 ≡ 1 = omega arith in
      let d : (2 * c + 1) / 2 ≡ c = omega arith in
      rw (m, d)

-- a point is a corner
pub record Corner (o : List (List ℤ)) (p : List ℤ) : Type 0 where
  pub number : ℕ
  pub below : number < corners (length o)
  pub is : p ≡ corner o number

pub best_corner : {o e b : List (List ℤ)} → Three o e b → Corner o (best_point o e b)
unfolding best_point corner
best_corner no_axis = record { number = 0; below = omega arith; is = refl }
best_corner (next_axis {o} {e} {b} {os} {es} {bs} ao ae ab r) =
    let k = best_corner r in
    let n = two-pow-succ (length os) in
    by_test (better o e b)
    (λ t.
    let h : best_end o e b ≡ hi o = best_end_test o e b ∙ rw t in
    let m = corner_high o os k.number in
    record { number = 2 * k.number + 1; below = omega (arith, k.below); is = rw (h, k.is, m) })
    (λ t.
    let h : best_end o e b ≡ lo o = best_end_test o e b ∙ rw t in
    let m = corner_low o os k.number in
    record { number = 2 * k.number; below = omega (arith, k.below); is = rw (h, k.is, m) })
