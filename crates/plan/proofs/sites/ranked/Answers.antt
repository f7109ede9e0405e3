use native.Mathlib.Omega.{arith}
use Rattle.search.specs.Plan.{ranked}
use Rattle.blocks.proofs.DirectoryLaws.{directory_good}
use Rattle.blocks.proofs.Theorems.{entry_of_accepted}
use Rattle.plan.proofs.Lawful.{sites-few}
use Rattle.plan.proofs.sites.ranked.Goals as goal

pub overflow_sub-result : goal.overflow_sub-result
overflow_sub-result c =
    let e = entry_of_accepted c.args.f.now c.args.h c.args.t c.requires.dir c.requires.below in
    omega (arith, e.2, c.muted_at.ensures, c.count_at.ensures)

pub returns : goal.returns
unfolding ranked
returns c =
    let e = entry_of_accepted c.args.f.now c.args.h c.args.t c.requires.dir c.requires.below in
    let m = c.muted_at.ensures in
    let n = c.count_at.ensures in
    let few = sites-few c.args.h.axes _ (directory_good _ c.requires.dir).axes e.1 in
    (rw (m, n), omega (arith, few, n))
