use Prim.Native.Nat.{◌+◌}
use lib.ListN.{get_or}
use Rattle.blocks.proofs.LaneLaws.{UpTo}
use Rattle.blocks.proofs.lanes.add_row.Given as goal

abbrev pub invariant-loop-j : goal.invariant-loop-j
invariant-loop-j l =
    UpTo (λ k. get_or l.initial.a k 0 + get_or l.s (l.i + k) 0) l.initial.a l.a l.j
    × UpTo (λ k. get_or l.initial.c k 0 + (get_or l.initial.a k 0 + get_or l.s (l.i + k) 0)) l.initial.c l.c l.j
