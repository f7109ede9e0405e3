use Prim.Native.Nat.{◌-◌, ◌%◌}
use mathlib.Core.Path.{◌≡◌}
use lib.Seq.{slice}
use Rattle.blocks.specs.Checksum.{sums_from}
use Rattle.blocks.specs.Layout.{check_at}
use Rattle.blocks.proofs.ChecksumLaws.{Within}
use Rattle.blocks.proofs.checksum.add_last.Given as goal

abbrev pub invariant-loop-i : goal.invariant-loop-i
invariant-loop-i l =
    Within (l.i - l.from) l.a l.c
    × (sums_from (l.a % 255) (l.c % 255) (slice l.i check_at l.s)
    ≡ sums_from l.initial.a l.initial.c (slice l.from check_at l.s))
