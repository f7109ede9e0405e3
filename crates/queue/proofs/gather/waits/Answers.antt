use Rattle.queue.specs.Inner.Keys.{waits}
use Rattle.queue.proofs.gather.waits.Goals as goal

pub returns : goal.returns
unfolding waits
returns c =
    simp (c.both.ensures, c.ranked.ensures.0)
