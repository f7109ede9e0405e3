use Prim.Native.Nat.{ℕ, ◌+◌, ◌≤◌, ◌<◌}
use mathlib.Core.Bool.{true}
use mathlib.Core.List.{List}
use mathlib.Core.Path.{◌≡◌}
use native.Mathlib.Omega.{arith}
use lib.IntN.{ℤ}
use mir.Facts.{to_z-of_z}
use mir.Syntax.{w32}
use mir.Val.{SFits}
use borrow.Author.Rules.{sfits_of}
use Rattle.geometry.specs.Axes.{axis_at, coordinate, sum}
use Rattle.geometry.specs.Box.{valid_axis, within_limits}
use Rattle.geometry.specs.Claims.{axis_bound}
use Rattle.geometry.specs.Distance.{square, closest}
use Rattle.geometry.proofs.ByAxis.{valid_at, min-dist-sum}
use Rattle.geometry.proofs.OneAxis.{axis, closest_bound}
use Rattle.geometry.proofs.Shift.{limited}
use Rattle.geometry.proofs.distance.min_dist_within.Goals as goal
use Rattle.geometry.proofs.distance.min_dist_within.Goals.{After-min_square-2, After-min_square-then-axes-eq-HEIGHT}
use Rattle.geometry.proofs.distance.min_dist_within.Goals.{Start}

-- an axis and a coordinate, and the square between them
valid : (s : Start) (i : ℕ) → i < s.args.axes
    → (valid_axis (axis_at s.args.b i) ≡ true) × (within_limits (coordinate s.args.p i) ≡ true)
valid s i l =
    valid_at s.args.b s.args.p s.args.axes (omega arith) (omega arith) s.requires.1.0 s.requires.1.1 i l

abbrev square-at : List (List ℤ) → List ℤ → ℕ → ℕ
square-at b p i = square (coordinate p i) (closest (axis_at b i) (coordinate p i))

bounded : (s : Start) (i : ℕ) → i < s.args.axes → square-at s.args.b s.args.p i ≤ axis_bound
bounded s i l =
    let v = valid s i l in
    closest_bound (axis_at s.args.b i) (coordinate s.args.p i) (axis (axis_at s.args.b i) v.0)
    (limited (coordinate s.args.p i) v.1)

plan : (c : After-min_square-2) → c.min_square.result + c.min_square-2.result
    ≡ square-at c.args.b c.args.p 0 + square-at c.args.b c.args.p 1
plan c =
    let px : SFits w32 (coordinate c.args.p 0) = sfits_of c.min_square-arg-2-1.given in
    let py : SFits w32 (coordinate c.args.p 1) = sfits_of c.min_square-arg-4-1.given in
    let ex : c.min_square.result
    ≡ square-at c.args.b c.args.p 0 = simp (to_z-of_z {w = w32} px) at c.min_square.ensures in
    let ey : c.min_square-2.result
    ≡ square-at c.args.b c.args.p 1 = simp (to_z-of_z {w = w32} py) at c.min_square-2.ensures in
    omega arith

height : (c : After-min_square-then-axes-eq-HEIGHT) → c.min_square-then-axes-eq-HEIGHT.result
    ≡ square-at c.args.b c.args.p 2
height c =
    let pz : SFits w32 (coordinate c.args.p 2) = sfits_of c.min_square-arg-then-axes-eq-HEIGHT-2-1.given in
    simp (to_z-of_z {w = w32} pz) at c.min_square-then-axes-eq-HEIGHT.ensures

pub min_square-requires : goal.min_square-requires
min_square-requires c =
    let v = valid (goal.at.min_square-requires c).Start 0 (omega arith) in
    let fits : SFits w32 (coordinate c.args.p 0) = sfits_of c.min_square-arg-2-1.given in
    (v.0, rw (to_z-of_z {w = w32} fits) v.1)

pub min_square-requires-2 : goal.min_square-requires-2
min_square-requires-2 c =
    let v = valid (goal.at.min_square-requires-2 c).Start 1 (omega arith) in
    let fits : SFits w32 (coordinate c.args.p 1) = sfits_of c.min_square-arg-4-1.given in
    (v.0, rw (to_z-of_z {w = w32} fits) v.1)

pub overflow_add-plan : goal.overflow_add-plan
overflow_add-plan c =
    omega (
      arith,
      plan c,
      bounded (goal.at.overflow_add-plan c).Start 0 (omega arith),
      bounded (goal.at.overflow_add-plan c).Start 1 (omega arith),
    )

pub min_square-requires-then-axes-eq-HEIGHT : goal.min_square-requires-then-axes-eq-HEIGHT
min_square-requires-then-axes-eq-HEIGHT c =
    let v = valid (goal.at.min_square-requires-then-axes-eq-HEIGHT c).Start 2 (omega arith) in
    let fits : SFits w32 (coordinate c.args.p 2) = sfits_of c.min_square-arg-then-axes-eq-HEIGHT-2-1.given in
    (v.0, rw (to_z-of_z {w = w32} fits) v.1)

pub overflow_add-result : goal.overflow_add-result
overflow_add-result c =
    let b = bounded (goal.at.overflow_add-result c).Start 0 (omega arith) in
    let d = bounded (goal.at.overflow_add-result c).Start 1 (omega arith) in
    let e = bounded (goal.at.overflow_add-result c).Start 2 (omega arith) in
    omega (arith, plan (goal.at.overflow_add-result c).After-min_square-2, height c)

pub returns-then-axes-eq-HEIGHT : goal.returns-then-axes-eq-HEIGHT
unfolding sum
returns-then-axes-eq-HEIGHT c =
    let h : c.args.axes ≡ 3 = omega arith in
    rw h (omega (
      arith,
      plan (goal.at.returns-then-axes-eq-HEIGHT c).After-min_square-2,
      height c,
      min-dist-sum c.args.b c.args.p 3
          (omega arith) (omega arith),
    ))

pub returns-else-axes-eq-HEIGHT : goal.returns-else-axes-eq-HEIGHT
unfolding sum
returns-else-axes-eq-HEIGHT c =
    let h : c.args.axes ≡ 2 = omega arith in
    rw h (omega (
      arith,
      plan (goal.at.returns-else-axes-eq-HEIGHT c).After-min_square-2,
      min-dist-sum c.args.b c.args.p 2
          (omega arith) (omega arith),
    ))
