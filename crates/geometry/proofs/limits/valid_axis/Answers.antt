use mathlib.Core.Path.{sym}
use mir.Facts.{to_z-of_z}
use mir.Syntax.{w32}
use mir.Val.{SFits}
use borrow.Author.Rules.{sfits_of}
use Rattle.geometry.specs.Box.{lo, hi}
use Rattle.geometry.proofs.OneAxis.{valid_axis_test}
use Rattle.geometry.proofs.limits.valid_axis.Goals as goal

pub returns : goal.returns
returns c =
    let s = c.args.s in
    let l : SFits w32 (lo s) = sfits_of c.l-1.given in
    let h : SFits w32 (hi s) = sfits_of c.h-1.given in
    simp (c.both-2.ensures, c.both.ensures, to_z-of_z {w = w32} l, to_z-of_z {w = w32} h) (sym (valid_axis_test s))
