use native.Mathlib.Omega.{arith}
use borrow.Author.Rules.{rules}
use Rattle.arrange.proofs.Listing.{same_self, same_then}
use Rattle.arrange.proofs.sorting.sort.Goals as goal

pub loop-gap-init : goal.loop-gap-init
loop-gap-init c = (search rules, same_self c.args.n c.args.a.now)

pub comb-requires : goal.comb-requires
comb-requires c =
    omega (arith, c.requires, c.loop-gap.invariant.1.long)

pub loop-gap-preserved : goal.loop-gap-preserved
loop-gap-preserved c =
    (search rules, same_then c.loop-gap.invariant.1 c.comb.ensures)

pub shape_of-a : goal.shape_of-a
shape_of-a c = c.loop-gap.invariant.1.long
