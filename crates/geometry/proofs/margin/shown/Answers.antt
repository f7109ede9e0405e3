use mir.Facts.{to_z-of_z}
use mir.Syntax.{w64}
use mir.Val.{SFits}
use borrow.Author.Rules.{rules}
use Rattle.geometry.specs.Calls.{reached_of, reached_in}
use Rattle.geometry.proofs.margin.shown.Goals as goal

pub returns : goal.returns
unfolding reached_of reached_in
returns g c =
    let fits : SFits w64 c.args.m.margin = search rules in
    rw (to_z-of_z {w = w64} fits, c.first.ensures, c.first-2.ensures, c.first-3.ensures)
