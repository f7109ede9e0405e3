use native.Mathlib.Omega.{arith}
use Rattle.console.specs.Line.{places_text, text_at}
use Rattle.console.proofs.TextLaws.{part_none, part_more}
use Rattle.console.proofs.line.put_places.Goals as goal

pub loop-j-init : goal.loop-j-init
unfolding places_text
loop-j-init c = (omega arith, part_none _ _ _)

pub loop-j-preserved : goal.loop-j-preserved
unfolding places_text text_at
loop-j-preserved c =
    (omega arith, part_more _ c.loop-j.j c.loop-j.invariant.1 c.put_place-next.ensures.text)
