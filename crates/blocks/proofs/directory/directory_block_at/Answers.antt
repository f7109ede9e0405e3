use borrow.Author.Rules.{rules}
use Rattle.blocks.specs.Block.{block_at}
use Rattle.blocks.proofs.BlockLaws.{axes_known}
use Rattle.blocks.proofs.directory.directory_block_at.Goals as goal

pub directory_block-requires : goal.directory_block-requires
directory_block-requires c =
    (search rules, search rules, rw c.requires.2 (axes_known (block_at c.args.f.now 0)))
