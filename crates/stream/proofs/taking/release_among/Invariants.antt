use Prim.Native.Nat.{◌≤◌}
use Rattle.plan.specs.Inner.Seam.{region_of}
use Rattle.stream.specs.Inner.State.{Freed}
use Rattle.stream.specs.Stream.{closer_from}
use Rattle.stream.proofs.taking.release_among.Given as goal

abbrev pub invariant-loop-b : goal.invariant-loop-b
invariant-loop-b l =
    (l.before ≤ l.least)
    × Freed (closer_from l.f l.h (region_of l.h l.o)) l.h.tiles l.keys l.t l.b
    l.initial.waits l.waits l.initial.from l.from l.before
