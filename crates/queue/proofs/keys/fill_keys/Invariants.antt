use mathlib.Core.List.{map}
use mathlib.Core.Path.{◌≡◌}
use lib.ListN.{length, drop}
use Rattle.base.specs.Over.{over}
use Rattle.plan.specs.FilePlan.{entries}
use Rattle.plan.specs.Inner.Seam.{stop_of}
use Rattle.search.specs.Plan.{near}
use Rattle.queue.proofs.keys.fill_keys.Given as goal

abbrev pub invariant-loop-j : goal.invariant-loop-j
invariant-loop-j l =
    (length l.keys ≡ length l.initial.keys)
    × (over l.keys l.j (map (near (entries l.f l.h) (stop_of l.h l.p)) (drop l.j l.order))
    ≡ over l.initial.keys 0 (map (near (entries l.f l.h) (stop_of l.h l.p)) l.order))
