use mathlib.Core.Path.{ap, ◌∙◌}
use Rattle.search.specs.Lists.{bit}
use Rattle.base.proofs.HowMany.{bit_byte}
use Rattle.queue.proofs.Gathering.{gathering_turn, gathering_done}
use Rattle.queue.proofs.gather.gather.Goals as goal

pub loop-t-preserved : goal.loop-t-preserved
loop-t-preserved c =
    gathering_turn c.loop-t.invariant c.loop-t-test.true (bit_byte c.waits.result ∙ ap bit c.waits.ensures)

pub returns : goal.returns
returns c = gathering_done c.loop-t.invariant c.loop-t-test.false
