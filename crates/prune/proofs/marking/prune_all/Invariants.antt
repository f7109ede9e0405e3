use Prim.Native.Nat.{◌+◌, ◌-◌, ◌≤◌}
use mathlib.Core.List.{map}
use mathlib.Core.Path.{◌≡◌}
use lib.ListN.{length}
use Rattle.base.specs.Over.{over}
use Rattle.plan.specs.FilePlan.{entries}
use Rattle.plan.specs.Inner.Seam.{region_of}
use Rattle.search.specs.Lists.{bit, range}
use Rattle.search.specs.Lists as lists
use Rattle.search.specs.Pruning.{pruned, pruned_count}
use Rattle.prune.specs.Prune.{prune_marks}
use Rattle.prune.proofs.marking.prune_all.Given as goal

abbrev pub invariant-loop-t : goal.invariant-loop-t
invariant-loop-t l =
    (l.count ≤ l.t) × (length l.marks ≡ length l.initial.marks)
    × (l.count + lists.count (pruned (entries l.f l.h) (region_of l.h l.o) l.k) (range l.t (l.h.tiles - l.t))
    ≡ pruned_count (entries l.f l.h) (region_of l.h l.o) l.k)
    × (over l.marks l.t
    (map (λ i. bit (pruned (entries l.f l.h) (region_of l.h l.o) l.k i)) (range l.t (l.h.tiles - l.t)))
    ≡ over l.initial.marks 0 (prune_marks l.f l.h (region_of l.h l.o) l.k))
