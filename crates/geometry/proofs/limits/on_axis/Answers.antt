use mir.Facts.{to_z-of_z}
use mir.Syntax.{w32}
use mir.Val.{SFits}
use borrow.Author.Rules.{sfits_of}
use Rattle.geometry.specs.Box.{lo, hi, on_axis}
use Rattle.geometry.proofs.limits.on_axis.Goals as goal

pub returns : goal.returns
unfolding on_axis
returns c =
    let l : SFits w32 (lo c.args.s) = sfits_of c.l-1.given in
    let h : SFits w32 (hi c.args.s) = sfits_of c.h-1.given in
    simp (c.both.ensures, to_z-of_z {w = w32} c.ranges.x, to_z-of_z {w = w32} l, to_z-of_z {w = w32} h)
