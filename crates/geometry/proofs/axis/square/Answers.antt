use mathlib.Core.Path.{◌∙◌}
use Rattle.geometry.specs.Distance.{gap, square}
use Rattle.geometry.proofs.Shift.{limited}
use Rattle.geometry.proofs.Subtracting.{subtract_fits, subtract_is}
use Rattle.geometry.proofs.axis.square.Goals as goal

pub overflow_sub-x : goal.overflow_sub-x
overflow_sub-x c = subtract_fits (limited c.args.x c.requires.0) (limited c.args.y c.requires.1)

pub returns : goal.returns
unfolding square gap
returns c =
    c.squared.ensures ∙ rw (subtract_is (limited c.args.x c.requires.0) (limited c.args.y c.requires.1))
