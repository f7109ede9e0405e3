use Prim.Native.Nat.{ℕ, ◌<◌, ◌≤◌}
use mathlib.Core.Bool.{false}
use mathlib.Core.Path.{◌≡◌}
use Rattle.arrange.specs.Inner.Places.{tile_at}
use Rattle.stream.specs.Inner.State.{is_left}
use Rattle.stream.proofs.taking.first_left.Given as goal

abbrev pub invariant-loop-i : goal.invariant-loop-i
invariant-loop-i l = (j : ℕ) → l.low ≤ j → j < l.i → is_left l.waits (tile_at l.keys j) ≡ false
