use Prim.Native.Nat.{◌≤◌}
use Rattle.arrange.specs.Inner.Places.{SameElements}
use Rattle.arrange.proofs.sorting.sort.Given as goal

abbrev pub invariant-loop-gap : goal.invariant-loop-gap
invariant-loop-gap l = (l.gap ≤ l.n) × SameElements l.n l.initial.a l.a

abbrev pub decreases-loop-gap : goal.decreases-loop-gap
decreases-loop-gap l = l.gap
