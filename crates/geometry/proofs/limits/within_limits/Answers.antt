use mir.Syntax.{w32}
use mir.Facts.{to_z-of_z}
use Rattle.geometry.specs.Box.{within_limits}
use Rattle.geometry.proofs.limits.within_limits.Goals as goal

pub returns : goal.returns
unfolding within_limits
returns c = simp (c.both.ensures, to_z-of_z {w = w32} c.ranges.x)
