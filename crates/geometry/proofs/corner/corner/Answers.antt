use mathlib.Core.Path.{sym}
use mir.Facts.{to_z-of_z}
use mir.Syntax.{w32}
use mir.Val.{SFits}
use borrow.Author.Rules.{sfits_of, rules}
use Rattle.geometry.proofs.Corners.{corner_3}
use Rattle.geometry.proofs.corner.corner.Goals as goal

pub returns : goal.returns
returns c =
    let x : SFits w32 c.end_at.result = sfits_of c.end_at.type_inv in
    let y : SFits w32 c.end_at-2.result = sfits_of c.end_at-2.type_inv in
    let z : SFits w32 c.end_at-3.result = sfits_of c.end_at-3.type_inv in
    rw (
      to_z-of_z {w = w32} x,
      to_z-of_z {w = w32} y,
      to_z-of_z {w = w32} z,
      c.end_at.ensures,
      c.end_at-2.ensures,
      c.end_at-3.ensures,
    )
    (sym (corner_3 c.args.o c.args.c (search rules)))
