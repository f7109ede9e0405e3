use Prim.Native.Nat.{◌%◌}
use mathlib.Core.Path.{◌∙◌}
use lib.IntN.{pos}
use lib.ListN.{get_or}
use mir.Facts.{to_z-of_z}
use mir.Syntax.{w32}
use mir.Val.{SFits}
use borrow.Author.Rules.{sfits_of}
use Rattle.geometry.proofs.Corners.{end_index}
use Rattle.geometry.proofs.corner.end_at.Goals as goal

pub returns : goal.returns
returns c =
    let fits : SFits w32 (get_or c.args.s (c.args.c % 2) (pos 0)) = sfits_of c.result-1.given in
    to_z-of_z {w = w32} fits ∙ end_index c.args.s c.args.c
