-- All axes: the differences of the axes add up. Assumes nothing.
use Prim.Native.Nat.{◌+◌, ◌≤◌}
use mathlib.Core.Bool.{true}
use mathlib.Core.List.{List, [], ◌∷◌}
use mathlib.Core.Path.{◌≡◌}
use native.Mathlib.Omega.{arith}
use lib.IntN.{ℤ}
use lib.ListN.{length}
use Rattle.base.proofs.Tests.{and_both}
use Rattle.geometry.specs.Box.{valid_axis, valid_box}
use Rattle.geometry.specs.Distance.{D, closest_point, farthest_point, min_dist, max_dist}
use Rattle.geometry.proofs.AllAxes.{In, none, more, Match}
use Rattle.geometry.proofs.OneAxis.{Axis, axis, limited_on}
use Rattle.geometry.specs.Margin.{best_point}
use Rattle.geometry.proofs.BestEnd.{best_end_on, best_end_limited, best_end_most}

-- three boxes within the limits, with as many axes
pub data Three : List (List ℤ) → List (List ℤ) → List (List ℤ) → Type 0 where
  no_axis : Three [] [] []
  next_axis : {o e b : List ℤ} {os es bs : List (List ℤ)} → Axis o → Axis e → Axis b → Three os es bs
      → Three (o ∷ os) (e ∷ es) (b ∷ bs)

pub three : (o e b : List (List ℤ)) → valid_box o ≡ true → valid_box e ≡ true → valid_box b ≡ true → length e
    ≡ length o →
    length b ≡ length o → Three o e b
unfolding valid_box
three [] [] [] t u v p q = no_axis
three [] (x ∷ e) b t u v p q = absurd (omega arith)
three [] [] (x ∷ b) t u v p q = absurd (omega arith)
three (x ∷ o) [] b t u v p q = absurd (omega arith)
three (x ∷ o) (y ∷ e) [] t u v p q = absurd (omega arith)
three (x ∷ o) (y ∷ e) (z ∷ b) t u v p q =
    let f = and_both (valid_axis x) (valid_box o) t in
    let g = and_both (valid_axis y) (valid_box e) u in
    let h = and_both (valid_axis z) (valid_box b) v in
    next_axis (axis x f.0) (axis y g.0) (axis z h.0)
    (three o e b f.1 g.1 h.1 (omega arith) (omega arith))

-- the margin's point of O, and that E and B can be measured from it
pub best_in : {o e b : List (List ℤ)} → Three o e b → In o (best_point o e b)
unfolding best_point
best_in no_axis = none
best_in (next_axis {o} {e} {b} ao ae ab r) = more (best_end_on o e b ao) (best_in r)

pub best_match_e : {o e b : List (List ℤ)} → Three o e b → Match e (best_point o e b)
unfolding best_point
best_match_e no_axis = none
best_match_e (next_axis {o} {e} {b} ao ae ab r) = more ae (best_end_limited o e b ao) (best_match_e r)

pub best_match_b : {o e b : List (List ℤ)} → Three o e b → Match b (best_point o e b)
unfolding best_point
best_match_b no_axis = none
best_match_b (next_axis {o} {e} {b} ao ae ab r) = more ab (best_end_limited o e b ao) (best_match_b r)

-- no three points have a larger difference; put as sums, so that nothing is negative
pub best_most : {o e b : List (List ℤ)} {x y z : List ℤ} → Three o e b → In o x → In e y → In b z →
    D x y + min_dist b (best_point o e b) ≤ max_dist e (best_point o e b) + D x z
unfolding min_dist max_dist best_point closest_point farthest_point D
best_most no_axis none none none = omega arith
best_most (next_axis {o} {e} {b} ao ae ab r) (more {x = x} i is) (more {x = y} j js) (more {x = z} k ks) =
    omega (arith, best_end_most o e b ao ae ab x y z i j k, best_most r is js ks)

-- from a point of O, E can be measured
pub match_in : {o e b : List (List ℤ)} {x : List ℤ} → Three o e b → In o x → Match e x × Match b x
match_in no_axis none = (none, none)
match_in (next_axis ao ae ab r) (more i is) =
    let l = limited_on ao i in
    let w = match_in r is in
    (more ae l w.0, more ab l w.1)
