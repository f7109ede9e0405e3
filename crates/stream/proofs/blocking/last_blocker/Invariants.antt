use Prim.Native.Nat.{ℕ, ◌<◌, ◌≤◌}
use mathlib.Core.Bool.{Bool, false, ◌&&◌}
use mathlib.Core.List.{List}
use mathlib.Core.Path.{◌≡◌}
use Rattle.blocks.specs.declared.header.Header.{Header}
use Rattle.corners.specs.Inner.Tables.{below_all}
use Rattle.arrange.specs.Inner.Places.{tile_at}
use Rattle.stream.specs.Inner.State.{is_left}
use Rattle.stream.proofs.blocking.last_blocker.Given as goal

-- what blocks: at a place far is below near, and the tile is left
abbrev blocking : Header → List ℕ → List ℕ → List ℕ → List ℕ → ℕ → Bool
blocking h far keys waits near i = below_all h far near i && is_left waits (tile_at keys i)

abbrev pub invariant-loop-i : goal.invariant-loop-i
invariant-loop-i l =
    (l.i ≤ l.to) × ((j : ℕ) → l.i ≤ j → l.low ≤ j → j < l.to → blocking l.h l.far l.keys l.waits l.near j ≡ false)

abbrev pub decreases-loop-i : goal.decreases-loop-i
decreases-loop-i l = l.i
