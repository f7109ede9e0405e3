use Prim.Native.Nat.{◌≤◌}
use Rattle.plan.specs.Inner.Seam.{stop_of}
use Rattle.places.specs.Inner.Adding.{Farther}
use Rattle.places.proofs.tile.next_within.Given as goal

-- the sites from the start to the present slot are farther than the bound
abbrev pub invariant-loop-i : goal.invariant-loop-i
invariant-loop-i l = (l.from ≤ l.i) × (l.i ≤ l.n) × Farther l.h l.s (stop_of l.h l.p) l.bound l.from l.i
