use Prim.Native.Nat.{◌*◌, ◌≤◌}
use mathlib.Core.Path.{◌≡◌}
use lib.ListN.{get_or}
use Rattle.blocks.specs.Inner.Lanes.{sum_to}
use Rattle.blocks.proofs.lanes.moment.Given as goal

abbrev pub invariant-loop-j : goal.invariant-loop-j
invariant-loop-j l = (l.sum ≤ 1785 * l.j) × (l.sum ≡ sum_to (λ k. k * get_or l.x k 0) l.j)
