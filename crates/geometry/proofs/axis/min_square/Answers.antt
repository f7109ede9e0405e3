use mir.Syntax.{w32}
use mathlib.Core.Path.{◌≡◌, ◌∙◌}
use mir.Facts.{to_z-of_z}
use Rattle.geometry.specs.Distance.{gap, square, closest}
use Rattle.geometry.proofs.OneAxis.{axis, limited_on, closest_on}
use Rattle.geometry.proofs.Shift.{Limited, limited}
use Rattle.geometry.proofs.Subtracting.{subtract_fits, subtract_is}
use Rattle.geometry.proofs.axis.min_square.Goals as goal
use Rattle.geometry.proofs.axis.min_square.Goals.{After-closest}

-- the closest point, which is within the limits
point : (c : After-closest) → c.closest.result ≡ closest c.args.s c.args.x
point c = simp (to_z-of_z {w = w32} c.ranges.x) at c.closest.ensures

point-limited : (c : After-closest) → Limited c.closest.result
point-limited c =
    let a = axis c.args.s c.requires.0 in
    rw (point c) (limited_on a (closest_on c.args.s c.args.x a (limited c.args.x c.requires.1)))

pub overflow_sub-x : goal.overflow_sub-x
overflow_sub-x c = subtract_fits (limited c.args.x c.requires.1) (point-limited c)

pub returns : goal.returns
unfolding square gap
returns c =
    c.squared.ensures ∙ rw (
      subtract_is (limited c.args.x c.requires.1) (point-limited (goal.at.returns c).After-closest),
      point (goal.at.returns c).After-closest,
    )
