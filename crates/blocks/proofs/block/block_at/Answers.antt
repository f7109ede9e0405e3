use mathlib.Core.Path.{ap, ◌∙◌}
use lib.ListN.{length}
use Rattle.blocks.proofs.BlockLaws.{part_block, length_block}
use Rattle.blocks.proofs.block.block_at.Goals as goal

pub returns : goal.returns
returns c =
    let a = c.args in
    let e = part_block a.f.now a.p in
    (e, ap length e ∙ length_block a.f.now a.p c.requires)
