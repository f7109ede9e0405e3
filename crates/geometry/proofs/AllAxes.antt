-- All axes: what holds on each axis adds up. Assumes nothing.
use Prim.Native.Nat.{suc, ◌*◌, ◌≤◌}
use mathlib.Core.Bool.{true}
use mathlib.Core.List.{List, [], ◌∷◌}
use mathlib.Core.Path.{◌≡◌, refl, ap}
use native.Mathlib.Omega.{arith}
use lib.IntN.{ℤ}
use lib.ListN.{length}
use Rattle.base.proofs.Tests.{and_both, both_and, clash}
use Rattle.geometry.specs.Box.{lo, within_limits, valid_axis, valid_box, valid_point, on_axis, inside}
use Rattle.geometry.specs.Claims.{axis_bound}
use Rattle.geometry.specs.Distance.{D, closest_point, farthest_point, min_dist, max_dist}
use Rattle.geometry.proofs.OneAxis.{Axis, axis, On, on, on_test, low_on, valid_on, limited_on, closest_on}
use Rattle.geometry.proofs.OneAxis.{closest-least, farthest_on, farthest_most}
use Rattle.geometry.proofs.Shift.{Limited, limited, square_bound}

-- a point of a box, axis by axis
pub data In : List (List ℤ) → List ℤ → Type 0 where
  none : In [] []
  more : {s : List ℤ} {b : List (List ℤ)} {x : ℤ} {p : List ℤ} → On s x → In b p → In (s ∷ b) (x ∷ p)

pub in_box : (b : List (List ℤ)) (p : List ℤ) → inside b p ≡ true → In b p
unfolding inside
in_box [] [] t = none
in_box [] (x ∷ p) t = clash t refl
in_box (s ∷ b) [] t = clash t refl
in_box (s ∷ b) (x ∷ p) t = let u = and_both (on_axis s x) (inside b p) t in more (on s x u.0) (in_box b p u.1)

pub in_test : {b : List (List ℤ)} {p : List ℤ} → In b p → inside b p ≡ true
unfolding inside
in_test none = refl
in_test (more o i) = both_and (on_test o) (in_test i)

-- a box and a point within the limits, with as many axes
pub data Match : List (List ℤ) → List ℤ → Type 0 where
  none : Match [] []
  more : {s : List ℤ} {b : List (List ℤ)} {x : ℤ} {p : List ℤ} → Axis s → Limited x → Match b p → Match (s ∷ b) (x ∷ p)

pub matches : (b : List (List ℤ)) (p : List ℤ) → valid_box b ≡ true → valid_point p ≡ true → length p ≡ length b
    → Match b p
unfolding valid_box valid_point
matches [] [] t u e = none
matches [] (x ∷ p) t u e = absurd (omega arith)
matches (s ∷ b) [] t u e = absurd (omega arith)
matches (s ∷ b) (x ∷ p) t u e =
    let v = and_both (valid_axis s) (valid_box b) t in
    let w = and_both (within_limits x) (valid_point p) u in
    more (axis s v.0) (limited x w.0) (matches b p v.1 w.1 (omega arith))

-- a valid box holds a point
pub lowest_point : (b : List (List ℤ)) → valid_box b ≡ true → (p : List ℤ) × In b p
unfolding valid_box
lowest_point [] t = ([], none)
lowest_point (s ∷ b) t =
    let u = and_both (valid_axis s) (valid_box b) t in
    let r = lowest_point b u.1 in
    (lo s ∷ r.0, more (low_on (axis s u.0)) r.1)

-- near
pub closest_in : {b : List (List ℤ)} {p : List ℤ} → Match b p → In b (closest_point b p)
unfolding closest_point
closest_in none = none
closest_in (more {s} {x = x} a l r) = more (closest_on s x a l) (closest_in r)

pub min-least : {b : List (List ℤ)} {p q : List ℤ} → Match b p → In b q → min_dist b p ≤ D p q
unfolding min_dist closest_point D
min-least none none = omega arith
min-least (more {s} {x = x} a l r) (more {x = y} o i) = omega (arith, closest-least s x a l y o, min-least r i)

-- far
pub farthest_in : {b : List (List ℤ)} {p : List ℤ} → Match b p → In b (farthest_point b p)
unfolding farthest_point
farthest_in none = none
farthest_in (more {s} {x = x} a l r) = more (farthest_on s x a l) (farthest_in r)

pub max_largest : {b : List (List ℤ)} {p q : List ℤ} → Match b p → In b q → D p q ≤ max_dist b p
unfolding max_dist farthest_point D
max_largest none none = omega arith
max_largest (more {s} {x = x} a l r) (more {x = y} o i) = omega (arith, farthest_most s x a l y o, max_largest r i)

-- every coordinate within the limits
pub data AllLimited : List ℤ → Type 0 where
  none : AllLimited []
  more : {x : ℤ} {p : List ℤ} → Limited x → AllLimited p → AllLimited (x ∷ p)

pub all_limited : (p : List ℤ) → valid_point p ≡ true → AllLimited p
unfolding valid_point
all_limited [] t = none
all_limited (x ∷ p) t =
    let u = and_both (within_limits x) (valid_point p) t in
    more (limited x u.0) (all_limited p u.1)

pub in_limited : {b : List (List ℤ)} {p : List ℤ} → In b p → valid_box b ≡ true → AllLimited p
unfolding valid_box
in_limited none t = none
in_limited (more {s} {b} o i) t =
    let u = and_both (valid_axis s) (valid_box b) t in
    more (limited_on (axis s u.0) o) (in_limited i u.1)

-- a point of a valid box is a valid point
pub in_valid : {b : List (List ℤ)} {p : List ℤ} → In b p → valid_box b ≡ true → valid_point p ≡ true
unfolding valid_box valid_point
in_valid none t = refl
in_valid (more {s} {b} o i) t =
    let u = and_both (valid_axis s) (valid_box b) t in both_and (valid_on u.0 o) (in_valid i u.1)

pub distance_bound : {p q : List ℤ} → AllLimited p → AllLimited q → D p q ≤ axis_bound * length p
unfolding D
distance_bound none w = omega arith
distance_bound (more l v) none = omega arith
distance_bound (more {x = x} l v) (more {x = y} m w) = omega (arith, square_bound x y l m, distance_bound v w)

pub in_length : {b : List (List ℤ)} {p : List ℤ} → In b p → length p ≡ length b
in_length none = refl
in_length (more o i) = ap suc (in_length i)
