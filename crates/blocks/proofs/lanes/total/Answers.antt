use lib.ListN.{get_or}
use borrow.Author.Rules.{rules}
use Rattle.blocks.specs.Inner.Lanes.{sum_to, total_of}
use Rattle.blocks.proofs.SumLaws.{sum_next, sum_end}
use Rattle.blocks.proofs.lanes.total.Goals as goal

pub loop-v-init : goal.loop-v-init
unfolding sum_to
loop-v-init c = search rules

pub loop-v-preserved : goal.loop-v-preserved
loop-v-preserved c =
    (search rules, sum_next (λ k. get_or c.args.x k 0) c.loop-v.v-index c.loop-v.invariant.1)

pub returns : goal.returns
unfolding total_of
returns c =
    (sum_end (λ k. get_or c.args.x k 0) c.loop-v.v-index c.loop-v.invariant.1 (search rules), search rules)
