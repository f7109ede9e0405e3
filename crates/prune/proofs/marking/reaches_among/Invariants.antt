use Prim.Native.Nat.{◌+◌, ◌-◌, ◌*◌, ◌≤◌}
use mathlib.Core.Path.{◌≡◌}
use Rattle.search.specs.Plan.{slots}
use Rattle.prune.specs.Inner.Sum.{sum_below}
use Rattle.prune.proofs.marking.reaches_among.Given as goal

abbrev pub invariant-loop-e : goal.invariant-loop-e
invariant-loop-e l =
    (l.from ≤ l.e) × (l.e ≤ l.to) × (l.sum ≤ slots * l.e)
    × (l.sum + sum_below l.f l.h l.far l.near l.e (l.to - l.e) ≡ sum_below l.f l.h l.far l.near l.from (l.to - l.from))

abbrev pub decreases-loop-e : goal.decreases-loop-e
decreases-loop-e l = l.to - l.e
