use Prim.Native.Nat.{◌*◌, ◌≤◌}
use mathlib.Core.Path.{◌≡◌}
use lib.ListN.{get_or}
use Rattle.blocks.specs.Inner.Lanes.{sum_to}
use Rattle.blocks.proofs.lanes.total.Given as goal

abbrev pub invariant-loop-v : goal.invariant-loop-v
invariant-loop-v l = (l.sum ≤ 255 * l.v-index) × (l.sum ≡ sum_to (λ k. get_or l.v-items k 0) l.v-index)
