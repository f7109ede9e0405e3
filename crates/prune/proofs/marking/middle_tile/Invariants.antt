use Prim.Native.Nat.{◌+◌, ◌≤◌}
use lib.ListN.{length}
use Rattle.blocks.specs.Layout.{max_tiles}
use Rattle.prune.proofs.marking.middle_tile.Given as goal

abbrev pub invariant-loop-e : goal.invariant-loop-e
invariant-loop-e l = (l.middle ≤ l.fn.h.tiles) × (l.opposite + max_tiles ≤ length l.far)
