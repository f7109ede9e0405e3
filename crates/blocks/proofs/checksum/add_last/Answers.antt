use Prim.Native.Nat.{◌+◌, ◌-◌, ◌%◌}
use mathlib.Core.Path.{◌≡◌, sym, ◌∙◌}
use native.Mathlib.Omega.{arith}
use borrow.Author.Rules.{rules}
use Rattle.blocks.proofs.ChecksumLaws.{sums_turn, sums_end, within_next, within_room}
use Rattle.blocks.proofs.checksum.add_last.Goals as goal

pub overflow_add-c : goal.overflow_add-c
overflow_add-c c =
    let r = within_room (omega arith) c.loop-i.invariant.0 in
    search rules

pub loop-i-preserved : goal.loop-i-preserved
loop-i-preserved c =
    let v = c.loop-i in
    let n : v.i + 1 - c.args.from ≡ v.i - c.args.from + 1 = omega arith in (
      rw n (within_next (omega arith) v.invariant.0),
      sums_turn c.args.s.now v.i v.a v.c c.from-a.result (search rules) (search rules) (search rules) ∙ v.invariant.1,
    )

pub returns : goal.returns
returns c =
    let v = c.loop-i in
    sym (sums_end c.args.s.now v.i (v.a % 255) (v.c % 255) (search rules)) ∙ v.invariant.1
