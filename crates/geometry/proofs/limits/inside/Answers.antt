use mathlib.Core.Path.{◌≡◌}
use native.Mathlib.Omega.{arith}
use mir.Facts.{to_z-of_z}
use mir.Syntax.{w32}
use mir.Val.{SFits}
use borrow.Author.Rules.{sfits_of, rules}
use Rattle.base.specs.Every.{every}
use Rattle.geometry.specs.Axes.{axis_at, coordinate}
use Rattle.geometry.specs.Box.{on_axis}
use Rattle.geometry.proofs.ByAxis.{inside-every}
use Rattle.geometry.proofs.limits.inside.Goals as goal
use Rattle.geometry.proofs.limits.inside.Goals.{After-both-plan}

-- the axes of the plan
plan : (c : After-both-plan) → c.both-plan.result ≡ every (λ i. on_axis (axis_at c.args.b i) (coordinate c.args.p i)) 2
unfolding every
plan c =
    let px : SFits w32 (coordinate c.args.p 0) = sfits_of c.on_axis-arg-2-1.given in
    let py : SFits w32 (coordinate c.args.p 1) = sfits_of c.on_axis-arg-4-1.given in
    simp (c.both-plan.ensures, c.on_axis-2.ensures, c.on_axis.ensures, to_z-of_z {w = w32} px, to_z-of_z {w = w32} py)

pub returns-then-axes-eq-HEIGHT : goal.returns-then-axes-eq-HEIGHT
unfolding every
returns-then-axes-eq-HEIGHT c =
    let pz : SFits w32 (coordinate c.args.p 2) = sfits_of c.on_axis-arg-then-axes-eq-HEIGHT-2-1.given in
    let h : c.args.axes ≡ 3 = omega arith in
    rw h
    (simp (
      c.both.ensures,
      c.on_axis-then-axes-eq-HEIGHT.ensures,
      plan search,
      inside-every c.args.b c.args.p 3 (search rules) (search rules),
      to_z-of_z {w = w32} pz,
    ))

pub returns-else-axes-eq-HEIGHT : goal.returns-else-axes-eq-HEIGHT
returns-else-axes-eq-HEIGHT c =
    let h : c.args.axes ≡ 2 = omega arith in
    rw h (simp (plan search, inside-every c.args.b c.args.p 2 (search rules) (search rules)))
