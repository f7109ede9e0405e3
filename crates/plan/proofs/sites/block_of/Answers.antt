use mathlib.Core.Path.{ap, ◌∙◌}
use Rattle.blocks.specs.Block.{block_at}
use Rattle.plan.proofs.Openings.{opened_block}
use Rattle.plan.proofs.sites.block_of.Goals as goal

pub returns : goal.returns
returns c =
    let e = c.block_at.ensures.0 ∙ ap (block_at c.args.f.now) c.tile_position.ensures.0 in
    rw e (opened_block c.args.f.now c.args.h c.args.t c.requires.0 c.requires.1)
