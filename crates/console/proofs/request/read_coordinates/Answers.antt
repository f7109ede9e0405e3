use mathlib.Core.Path.{refl}
use native.Mathlib.Omega.{arith}
use mir.Facts.{to_z-of_z}
use mir.Syntax.{w32}
use mir.Val.{SFits}
use borrow.Author.Rules.{sfits_of}
use Rattle.base.specs.Tabulate.{tabulate}
use Rattle.console.specs.Request.{coordinates}
use Rattle.console.proofs.RequestLaws.{stored_next}
use Rattle.console.proofs.request.read_coordinates.Goals as goal

pub loop-i-init : goal.loop-i-init
unfolding coordinates tabulate
loop-i-init c = refl

pub loop-i-preserved : goal.loop-i-preserved
loop-i-preserved c =
    let l = c.loop-i in
    let fits : SFits w32 c.i32_at.result = sfits_of c.i32_at.type_inv in
    rw (to_z-of_z {w = w32} fits, c.i32_at.ensures) (stored_next c.args.input.now c.args.at l.i c.args.out.now
    l.out (omega (arith, c.requires.1)) l.invariant)
