use Prim.Native.Nat.{◌+◌, ◌*◌}
use mathlib.Core.Path.{◌≡◌}
use Rattle.blocks.specs.Checksum.{sums}
use Rattle.blocks.specs.Inner.Lanes.{rows_size, sums_on, Reduced}
use Rattle.blocks.proofs.checksum.sums_of.Given as goal

abbrev pub invariant-loop-time : goal.invariant-loop-time
invariant-loop-time w = (sums_on w.l w.s (1 + rows_size * w.time) ≡ sums w.s) × Reduced w.l
