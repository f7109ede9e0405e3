use Prim.Native.Nat.{ℕ, ◌+◌, ◌*◌, ◌<◌}
use mathlib.Core.Path.{◌≡◌}
use lib.ListN.{get_or}
use Rattle.blocks.specs.Inner.Lanes.{lanes, sums_on}
use Rattle.blocks.proofs.ChecksumLaws.{Within}
use Rattle.blocks.proofs.lanes.add_rows.Given as goal

abbrev pub invariant-loop-row : goal.invariant-loop-row
invariant-loop-row w =
    ((j : ℕ) → j < lanes → Within w.row (get_or w.l.a j 0) (get_or w.l.c j 0))
    × (sums_on w.l w.s (w.i + lanes * w.row) ≡ sums_on w.initial.l w.s w.i)
