use mathlib.Core.Path.{◌≡◌}
use native.Mathlib.Omega.{arith}
use borrow.Author.Rules.{rules}
use Rattle.base.specs.Every.{every}
use Rattle.geometry.specs.Axes.{axis_at}
use Rattle.geometry.specs.Box.{valid_axis}
use Rattle.geometry.proofs.ByAxis.{valid-box-every}
use Rattle.geometry.proofs.limits.valid_box.Goals as goal
use Rattle.geometry.proofs.limits.valid_box.Goals.{After-both-plan}

-- the axes of the plan
plan : (c : After-both-plan) → c.both-plan.result ≡ every (λ i. valid_axis (axis_at c.args.b i)) 2
unfolding every
plan c =
    simp (c.both-plan.ensures, c.valid_axis-2.ensures, c.valid_axis.ensures)

pub returns-then-axes-eq-HEIGHT : goal.returns-then-axes-eq-HEIGHT
unfolding every
returns-then-axes-eq-HEIGHT c =
    let h : c.args.axes ≡ 3 = omega arith in
    rw h
    (simp (
      c.both.ensures,
      c.valid_axis-then-axes-eq-HEIGHT.ensures,
      plan search,
      valid-box-every c.args.b 3 (search rules),
    ))

pub returns-else-axes-eq-HEIGHT : goal.returns-else-axes-eq-HEIGHT
returns-else-axes-eq-HEIGHT c =
    let h : c.args.axes ≡ 2 = omega arith in
    rw h (simp (plan search, valid-box-every c.args.b 2 (omega arith)))
