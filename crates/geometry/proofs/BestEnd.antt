-- One axis: the better end of O gives the largest difference. Assumes nothing.
use Prim.Native.Nat.{ℕ, ◌+◌, ◌<◌, ◌≤◌}
use mathlib.Core.Bool.{Bool, true, cond}
use mathlib.Core.List.{List}
use mathlib.Core.Path.{◌≡◌}
use native.Mathlib.Omega.{arith}
use lib.Dec.{ltb}
use lib.IntN.{ℤ}
use lib.Signed.{lt_z}
use borrow.Author.Tests.{ltb-true, ltb-false}
use Rattle.base.proofs.Tests.{cond_ind, cond_ap}
use Rattle.geometry.specs.Box.{lo, hi, valid_axis}
use Rattle.geometry.specs.Claims.{axis_bound}
use Rattle.geometry.specs.Distance.{square, closest, farthest}
use Rattle.geometry.proofs.OneAxis.{Axis, axis, On, low_on, high_on, limited_on}
use Rattle.geometry.proofs.OneAxis.{closest-least, farthest_most, closest_bound, farthest_bound}
use Rattle.geometry.proofs.Shift.{shift, Limited, at_most_shift, square-shift, less_sub}
use Rattle.geometry.specs.Margin.{gain, best_end}
use Rattle.geometry.proofs.Line.{order, rises}

-- along O, the square to a point e less the square to a point b is largest at an end
rises_signed : (x h e b : ℤ) → Limited x → Limited h → Limited e → Limited b → shift x ≤ shift h → shift e ≤ shift b →
    square x e + square h b ≤ square h e + square x b
rises_signed x h e b lx lh le lb p q =
    rw (
      square-shift x e lx.small le.small,
      square-shift h b lh.small lb.small,
      square-shift h e lh.small le.small,
      square-shift x b lx.small lb.small,
    )
    (rises (shift x) (shift h) (shift e) (shift b) p q)

-- from x: the square to the farther end of e, and to the closest point of b
abbrev pub far_on : List ℤ → ℤ → ℕ
far_on e x = square x (farthest e x)

abbrev pub near_on : List ℤ → ℤ → ℕ
near_on b x = square x (closest b x)

-- whether the high end of O is the better one, as the code tests it: differences of squares become sums
abbrev pub better : List ℤ → List ℤ → List ℤ → Bool
better o e b = ltb (far_on e (lo o) + near_on b (hi o)) (far_on e (hi o) + near_on b (lo o))

pub best_end_test : (o e b : List ℤ) → best_end o e b ≡ cond (better o e b) (hi o) (lo o)
unfolding best_end gain
best_end_test o e b = rw (less_sub (far_on e (lo o)) (near_on b (lo o)) (far_on e (hi o)) (near_on b (hi o)))

best_end_ind : (o e b : List ℤ) (P : ℤ → Type 0) →
    (far_on e (lo o) + near_on b (hi o) < far_on e (hi o) + near_on b (lo o) → P (hi o)) →
    (far_on e (hi o) + near_on b (lo o) ≤ far_on e (lo o) + near_on b (hi o) → P (lo o)) → P (best_end o e b)
best_end_ind o e b P f g =
    rw (best_end_test o e b)
    (cond_ind (better o e b) (hi o) (lo o) P
    (λ t. f (ltb-true (far_on e (lo o) + near_on b (hi o)) (far_on e (hi o) + near_on b (lo o)) t))
    (λ t. g (ltb-false (far_on e (lo o) + near_on b (hi o)) (far_on e (hi o) + near_on b (lo o)) t)))

module _ (o e b : List ℤ) (ao : Axis o) where
  pub best_end_on : On o (best_end o e b)
  best_end_on = best_end_ind o e b (On o) (λ t. high_on ao) (λ t. low_on ao)

  pub best_end_limited : Limited (best_end o e b)
  best_end_limited = limited_on ao best_end_on

  -- no three points of the axes have a larger difference
  pub best_end_most : Axis e → Axis b → (x y z : ℤ) → On o x → On e y → On b z →
      square x y + near_on b (best_end o e b) ≤ far_on e (best_end o e b) + square x z
  best_end_most ae ab x y z px py pz =
      let lx : Limited x = limited_on ao px in
      let ly : Limited y = limited_on ae py in
      let lz : Limited z = limited_on ab pz in
      let fl = farthest_most e (lo o) ae ao.low y py in
      let fh = farthest_most e (hi o) ae ao.high y py in
      let nl = closest-least b (lo o) ab ao.low z pz in
      let nh = closest-least b (hi o) ab ao.high z pz in
      order (shift y) (shift z)
      (λ q.
      let up = at_most_shift x (hi o) lx.small ao.high.small px.to in
      let r = rises_signed x (hi o) y z lx ao.high ly lz up q in
      best_end_ind o e b (λ w. square x y + near_on b w ≤ far_on e w + square x z) (λ t. omega arith)
      (λ t. omega arith))
      (λ q.
      let up = at_most_shift (lo o) x ao.low.small lx.small px.from in
      let r = rises_signed (lo o) x z y ao.low lx lz ly up q in
      best_end_ind o e b (λ w. square x y + near_on b w ≤ far_on e w + square x z) (λ t. omega arith)
      (λ t. omega arith))

-- the difference from the better end is the larger one
pub best_gain : (o e b : List ℤ)
    → gain e b (best_end o e b) ≡ cond (lt_z (gain e b (lo o)) (gain e b (hi o))) (gain e b (hi o)) (gain e b (lo o))
unfolding best_end
best_gain o e b = cond_ap (gain e b) (lt_z (gain e b (lo o)) (gain e b (hi o))) (hi o) (lo o)

-- what the tests of three axes show
abbrev pub Valid : List ℤ → List ℤ → List ℤ → Type 0
Valid o e b = (valid_axis o ≡ true) × ((valid_axis e ≡ true) × (valid_axis b ≡ true))

-- bounds, from any point of O
pub square_bounds : (o e b : List ℤ) → Valid o e b → (x : ℤ) → On o x
    → (far_on e x ≤ axis_bound) × (near_on b x ≤ axis_bound)
square_bounds o e b v x p =
    let l = limited_on (axis o v.0) p in
    (farthest_bound e x (axis e v.1.0) l, closest_bound b x (axis b v.1.1) l)
