use mir.Facts.{to_z-of_z}
use mir.Syntax.{w64}
use mir.Val.{SFits}
use borrow.Author.Rules.{sfits_of}
use Rattle.geometry.specs.Margin.{closer}
use Rattle.geometry.proofs.margin.closer_within.Goals as goal

pub returns : goal.returns
unfolding closer
returns c =
    let m : SFits w64 c.margin_within.result = sfits_of c.margin_within.type_inv in
    rw (to_z-of_z {w = w64} m, c.margin_within.ensures)
