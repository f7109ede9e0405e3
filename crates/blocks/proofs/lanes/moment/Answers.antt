use Prim.Native.Nat.{◌*◌, ◌≤◌}
use native.Mathlib.Nat.{mul-le-mul}
use native.Mathlib.Omega.{arith}
use lib.ListN.{get_or}
use borrow.Author.Rules.{rules}
use Rattle.blocks.specs.Inner.Lanes.{sum_to, moment_of}
use Rattle.blocks.proofs.SumLaws.{sum_next, sum_end}
use Rattle.blocks.proofs.lanes.moment.Goals as goal

pub loop-j-init : goal.loop-j-init
unfolding sum_to
loop-j-init c = search rules

pub loop-j-preserved : goal.loop-j-preserved
loop-j-preserved c =
    let j = c.loop-j.j in
    let small = c.requires j (search rules) in
    let most : j * get_or c.args.x j 0 ≤ 7 * 255 =
    mul-le-mul {n₂ = 7} {m₂ = 255} (omega arith) (omega (arith, small)) in
    (search rules, sum_next (λ k. k * get_or c.args.x k 0) j c.loop-j.invariant.1)

pub returns : goal.returns
unfolding moment_of
returns c =
    (sum_end (λ k. k * get_or c.args.x k 0) c.loop-j.j c.loop-j.invariant.1 (search rules), search rules)
