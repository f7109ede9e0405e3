use Rattle.plan.specs.FilePlan.{entries}
use Rattle.queue.specs.Inner.Keys.{waits}
use Rattle.queue.proofs.Gathering.{Gathering}
use Rattle.queue.proofs.gather.gather.Given as goal

abbrev pub invariant-loop-t : goal.invariant-loop-t
invariant-loop-t l = Gathering (waits (entries l.f l.h) l.marks) l.h.tiles l.initial.order l.order l.m l.t
