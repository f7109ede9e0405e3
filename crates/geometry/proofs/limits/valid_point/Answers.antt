use mathlib.Core.Path.{◌≡◌}
use native.Mathlib.Omega.{arith}
use mir.Facts.{to_z-of_z}
use mir.Syntax.{w32}
use mir.Val.{SFits}
use borrow.Author.Rules.{sfits_of, rules}
use Rattle.base.specs.Every.{every}
use Rattle.geometry.specs.Axes.{coordinate}
use Rattle.geometry.specs.Box.{within_limits}
use Rattle.geometry.proofs.ByAxis.{valid_point_every}
use Rattle.geometry.proofs.limits.valid_point.Goals as goal
use Rattle.geometry.proofs.limits.valid_point.Goals.{After-both-plan}

-- the axes of the plan
plan : (c : After-both-plan) → c.both-plan.result ≡ every (λ i. within_limits (coordinate c.args.p i)) 2
unfolding every
plan c =
    let px : SFits w32 (coordinate c.args.p 0) = sfits_of c.within_limits-arg-1.given in
    let py : SFits w32 (coordinate c.args.p 1) = sfits_of c.within_limits-arg-2-1.given in
    simp (
      c.both-plan.ensures,
      c.within_limits-2.ensures,
      c.within_limits.ensures,
      to_z-of_z {w = w32} px,
      to_z-of_z {w = w32} py,
    )

pub returns-then-axes-eq-HEIGHT : goal.returns-then-axes-eq-HEIGHT
unfolding every
returns-then-axes-eq-HEIGHT c =
    let pz : SFits w32 (coordinate c.args.p 2) = sfits_of c.within_limits-arg-then-axes-eq-HEIGHT-1.given in
    let h : c.args.axes ≡ 3 = omega arith in
    rw h
    (simp (
      c.both.ensures,
      c.within_limits-then-axes-eq-HEIGHT.ensures,
      plan search,
      valid_point_every c.args.p 3 (search rules),
      to_z-of_z {w = w32} pz,
    ))

pub returns-else-axes-eq-HEIGHT : goal.returns-else-axes-eq-HEIGHT
returns-else-axes-eq-HEIGHT c =
    let h : c.args.axes ≡ 2 = omega arith in
    rw h (simp (plan search, valid_point_every c.args.p 2 (omega arith)))
