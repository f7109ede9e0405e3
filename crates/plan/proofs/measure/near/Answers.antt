use Rattle.blocks.proofs.DirectoryLaws.{directory_good}
use Rattle.blocks.proofs.Theorems.{entry_of_accepted}
use Rattle.plan.proofs.measure.near.Goals as goal

pub min_dist_within-requires : goal.min_dist_within-requires
min_dist_within-requires c =
    let valid = (entry_of_accepted c.args.f.now c.args.h c.args.t c.requires.0.dir c.requires.0.below).0 in
    ((directory_good _ c.requires.0.dir).axes, (rw c.box_at.ensures valid, c.requires.1.valid))
