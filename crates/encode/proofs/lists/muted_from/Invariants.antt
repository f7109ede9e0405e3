use Prim.Native.Nat.{◌≤◌}
use mathlib.Core.Path.{◌≡◌}
use Rattle.encode.specs.Supply.{muted_from}
use Rattle.encode.proofs.lists.muted_from.Given as goal

abbrev pub invariant-loop-slot : goal.invariant-loop-slot
invariant-loop-slot l = (l.muted ≤ l.slot) × (l.muted ≡ muted_from l.cues l.first l.slot)
