use Prim.Native.Nat.{ℕ, ◌<◌, ◌≤◌}
use mathlib.Core.Logic.{◌≢◌}
use lib.ListN.{get_or}
use Rattle.stream.specs.Inner.State.{free_mark}
use Rattle.stream.proofs.taking.first_free.Given as goal

abbrev pub invariant-loop-t : goal.invariant-loop-t
invariant-loop-t l = (b : ℕ) → l.at ≤ b → b < l.t → get_or l.waits b 0 ≢ free_mark
