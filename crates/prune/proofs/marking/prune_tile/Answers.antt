use mathlib.Core.Path.{◌≡◌, sym, ◌∙◌}
use Rattle.plan.specs.FilePlan.{entries}
use Rattle.plan.specs.Inner.Seam.{region_of}
use Rattle.search.specs.Pruning.{pruned}
use Rattle.prune.proofs.Summing.{sum_prunes}
use Rattle.prune.proofs.marking.prune_tile.Goals as goal
use Rattle.prune.proofs.marking.prune_tile.Goals.{After-reaches}

-- the sum decides
sums : (c : After-reaches) → c.reaches.result
    ≡ pruned (entries c.args.f.now c.args.h) (region_of c.args.h c.args.o) c.args.k c.args.t
sums c =
    let tile = c.requires.tile_of.0 in
    c.reaches.ensures ∙ sum_prunes c.args.f.now c.args.h tile.dir (region_of c.args.h c.args.o)
    c.requires.tile_of.1 c.requires.far_table c.args.t tile.below c.near_from-near.result c.near_from-near.ensures
    c.args.k

pub returns-then-reaches : goal.returns-then-reaches
returns-then-reaches c = rw (sym (sums (goal.at.returns-then-reaches c).After-reaches) ∙ c.if-reaches.true)

pub returns : goal.returns
returns c = rw (sym (sums (goal.at.returns c).After-reaches) ∙ c.if-reaches.false)
