use Prim.Native.Nat.{◌+◌, ◌-◌}
use mathlib.Core.Path.{◌≡◌, sym, ◌∙◌}
use native.Mathlib.Omega.{arith}
use Rattle.list.proofs.Gap.{gap_turn, gap_stop, gap_bottom}
use Rattle.list.proofs.make_gap.Goals as goal

pub returns-then-ranks_before-clause-filled : goal.returns-then-ranks_before-clause-filled
returns-then-ranks_before-clause-filled c =
    let left = c.loop-left.left in
    let last : c.args.at + (left - 1) ≡ c.args.at + left - 1 = omega arith in
    let gap : left - 1 + 1 ≡ left = omega arith in
    let ahead = sym c.ranks_before.ensures ∙ c.if-ranks_before.true in
    rw gap
    (gap_stop c.loop-left.invariant c.loop-left-test.true c.place_at-y.result (rw last at c.place_at-y.ensures) ahead)

pub loop-left-preserved : goal.loop-left-preserved
loop-left-preserved c =
    let left = c.loop-left.left in
    let last : c.args.at + (left - 1) ≡ c.args.at + left - 1 = omega arith in
    let gap : c.args.at + (left - 1) + 1 ≡ c.args.at + left = omega arith in
    let behind = sym c.ranks_before.ensures ∙ c.if-ranks_before.false in
    rw gap
    (gap_turn c.loop-left.invariant c.loop-left-test.true c.place_at-y.result (rw last at c.place_at-y.ensures) behind)

pub returns-clause-filled : goal.returns-clause-filled
returns-clause-filled c =
    let none : c.loop-left.left ≡ 0 = omega (arith, c.loop-left-test.false) in
    rw none at (gap_bottom c.loop-left.invariant c.loop-left-test.false)
