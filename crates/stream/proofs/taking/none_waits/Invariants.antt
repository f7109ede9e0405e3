use Prim.Native.Nat.{ℕ, ◌+◌, ◌<◌, ◌≤◌}
use mathlib.Core.Logic.{◌≢◌}
use mathlib.Core.Path.{◌≡◌}
use lib.ListN.{get_or}
use Rattle.stream.proofs.taking.none_waits.Given as goal

abbrev pub invariant-loop-i : goal.invariant-loop-i
invariant-loop-i l =
    (l.found ≤ l.i) × (l.found ≡ 0 → (b : ℕ) → l.first ≤ b → b < l.first + l.i → get_or l.waits b 0 ≢ l.t)
