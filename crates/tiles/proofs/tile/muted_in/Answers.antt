use mathlib.Core.Path.{◌≡◌, refl, ap}
use native.Mathlib.Numerals.{add-one}
use native.Mathlib.Omega.{arith}
use Rattle.base.specs.HowMany.{bit, how_many}
use Rattle.base.proofs.HowMany.{bit-small, bit_byte}
use Rattle.tiles.specs.Tile.{site_in, muted_cue, muted_in}
use Rattle.tiles.proofs.tile.muted_in.Goals as goal

pub loop-slot-init : goal.loop-slot-init
unfolding muted_in how_many
loop-slot-init c = (omega arith, refl)

pub loop-slot-preserved : goal.loop-slot-preserved
unfolding muted_in how_many
loop-slot-preserved c =
    let t = muted_cue c.cue_in.result in
    let b = bit_byte t in
    let m = bit-small t in
    let a = c.args in
    let e : bit t ≡ bit (muted_cue (site_in a.axes a.s.now c.loop-slot.slot).cue) =
    ap (λ q. bit (muted_cue q)) c.cue_in.ensures in
    (omega arith, rw (add-one c.loop-slot.slot) (omega (arith, c.loop-slot.invariant.1)))
