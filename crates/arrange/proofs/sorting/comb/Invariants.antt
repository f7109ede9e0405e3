use Prim.Native.Nat.{◌-◌, ◌≤◌}
use Rattle.arrange.specs.Inner.Places.{SameElements}
use Rattle.arrange.proofs.sorting.comb.Given as goal

abbrev pub invariant-loop-i : goal.invariant-loop-i
invariant-loop-i l = (l.gap ≤ l.i) × SameElements l.n l.initial.a l.a

abbrev pub decreases-loop-i : goal.decreases-loop-i
decreases-loop-i l = l.n - l.i
