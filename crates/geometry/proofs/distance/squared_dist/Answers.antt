use Prim.Native.Nat.{ℕ, ◌+◌, ◌≤◌, ◌<◌}
use mathlib.Core.Bool.{true}
use mathlib.Core.List.{List}
use mathlib.Core.Path.{◌≡◌}
use native.Mathlib.Omega.{arith}
use lib.IntN.{ℤ}
use mir.Facts.{to_z-of_z}
use mir.Syntax.{w32}
use mir.Val.{SFits}
use borrow.Author.Rules.{sfits_of}
use Rattle.geometry.specs.Axes.{coordinate, sum}
use Rattle.geometry.specs.Box.{within_limits}
use Rattle.geometry.specs.Claims.{axis_bound}
use Rattle.geometry.specs.Distance.{square}
use Rattle.geometry.proofs.ByAxis.{within_at, dist-sum}
use Rattle.geometry.proofs.Shift.{limited, square_bound}
use Rattle.geometry.proofs.distance.squared_dist.Goals as goal
use Rattle.geometry.proofs.distance.squared_dist.Goals.{After-square-2, After-square-then-axes-eq-HEIGHT, Start}

-- two coordinates, and the square between them
valid : (s : Start) (i : ℕ) → i < s.args.axes
    → (within_limits (coordinate s.args.p i) ≡ true) × (within_limits (coordinate s.args.q i) ≡ true)
valid s i l = (
  within_at s.args.p s.args.axes (omega arith) s.requires.1.0 i l,
  within_at s.args.q s.args.axes (omega arith) s.requires.1.1 i l,
)

abbrev square-at : List ℤ → List ℤ → ℕ → ℕ
square-at p q i = square (coordinate p i) (coordinate q i)

bounded : (s : Start) (i : ℕ) → i < s.args.axes → square-at s.args.p s.args.q i ≤ axis_bound
bounded s i l =
    let v = valid s i l in
    let x = coordinate s.args.p i in
    let y = coordinate s.args.q i in
    square_bound x y (limited x v.0) (limited y v.1)

plan : (c : After-square-2) → c.square.result + c.square-2.result
    ≡ square-at c.args.p c.args.q 0 + square-at c.args.p c.args.q 1
plan c =
    let px : SFits w32 (coordinate c.args.p 0) = sfits_of c.square-arg-1.given in
    let qx : SFits w32 (coordinate c.args.q 0) = sfits_of c.square-arg-2-1.given in
    let py : SFits w32 (coordinate c.args.p 1) = sfits_of c.square-arg-3-1.given in
    let qy : SFits w32 (coordinate c.args.q 1) = sfits_of c.square-arg-4-1.given in
    let ex : c.square.result
    ≡ square-at c.args.p c.args.q 0 = simp (to_z-of_z {w = w32} px, to_z-of_z {w = w32} qx) at c.square.ensures in
    let ey : c.square-2.result
    ≡ square-at c.args.p c.args.q 1 = simp (to_z-of_z {w = w32} py, to_z-of_z {w = w32} qy) at c.square-2.ensures in
    omega arith

height : (c : After-square-then-axes-eq-HEIGHT) → c.square-then-axes-eq-HEIGHT.result ≡ square-at c.args.p c.args.q 2
height c =
    let pz : SFits w32 (coordinate c.args.p 2) = sfits_of c.square-arg-then-axes-eq-HEIGHT-1.given in
    let qz : SFits w32 (coordinate c.args.q 2) = sfits_of c.square-arg-then-axes-eq-HEIGHT-2-1.given in
    simp (to_z-of_z {w = w32} pz, to_z-of_z {w = w32} qz) at c.square-then-axes-eq-HEIGHT.ensures

pub square-requires : goal.square-requires
square-requires c =
    let p : SFits w32 (coordinate c.args.p 0) = sfits_of c.square-arg-1.given in
    let q : SFits w32 (coordinate c.args.q 0) = sfits_of c.square-arg-2-1.given in
    rw (to_z-of_z {w = w32} p, to_z-of_z {w = w32} q) (valid (goal.at.square-requires c).Start 0 (omega arith))

pub square-requires-2 : goal.square-requires-2
square-requires-2 c =
    let p : SFits w32 (coordinate c.args.p 1) = sfits_of c.square-arg-3-1.given in
    let q : SFits w32 (coordinate c.args.q 1) = sfits_of c.square-arg-4-1.given in
    rw (to_z-of_z {w = w32} p, to_z-of_z {w = w32} q) (valid (goal.at.square-requires-2 c).Start 1 (omega arith))

pub overflow_add-plan : goal.overflow_add-plan
overflow_add-plan c =
    omega (
      arith,
      plan c,
      bounded (goal.at.overflow_add-plan c).Start 0 (omega arith),
      bounded (goal.at.overflow_add-plan c).Start 1 (omega arith),
    )

pub square-requires-then-axes-eq-HEIGHT : goal.square-requires-then-axes-eq-HEIGHT
square-requires-then-axes-eq-HEIGHT c =
    let p : SFits w32 (coordinate c.args.p 2) = sfits_of c.square-arg-then-axes-eq-HEIGHT-1.given in
    let q : SFits w32 (coordinate c.args.q 2) = sfits_of c.square-arg-then-axes-eq-HEIGHT-2-1.given in
    rw (to_z-of_z {w = w32} p, to_z-of_z {w = w32} q)
    (valid (goal.at.square-requires-then-axes-eq-HEIGHT c).Start 2 (omega arith))

pub overflow_add-result : goal.overflow_add-result
overflow_add-result c =
    let b = bounded (goal.at.overflow_add-result c).Start 0 (omega arith) in
    let d = bounded (goal.at.overflow_add-result c).Start 1 (omega arith) in
    let e = bounded (goal.at.overflow_add-result c).Start 2 (omega arith) in
    omega (arith, plan (goal.at.overflow_add-result c).After-square-2, height c)

pub returns-then-axes-eq-HEIGHT : goal.returns-then-axes-eq-HEIGHT
unfolding sum
returns-then-axes-eq-HEIGHT c =
    let h : c.args.axes ≡ 3 = omega arith in
    rw h (omega (
      arith,
      plan (goal.at.returns-then-axes-eq-HEIGHT c).After-square-2,
      height c,
      dist-sum c.args.p c.args.q 3
          (omega arith) (omega arith),
    ))

pub returns-else-axes-eq-HEIGHT : goal.returns-else-axes-eq-HEIGHT
unfolding sum
returns-else-axes-eq-HEIGHT c =
    let h : c.args.axes ≡ 2 = omega arith in
    rw h (omega (
      arith,
      plan (goal.at.returns-else-axes-eq-HEIGHT c).After-square-2,
      dist-sum c.args.p c.args.q 2 (omega arith)
          (omega arith),
    ))
