use Prim.Native.Nat.{◌≤◌}
use mathlib.Core.Path.{◌≡◌}
use Rattle.tiles.specs.Tile.{muted_in}
use Rattle.tiles.proofs.tile.muted_in.Given as goal

abbrev pub invariant-loop-slot : goal.invariant-loop-slot
invariant-loop-slot l = (l.muted ≤ l.slot) × (l.muted ≡ muted_in l.axes l.s l.slot)
