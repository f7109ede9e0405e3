use mathlib.Core.Path.{◌∙◌}
use native.Mathlib.Omega.{arith}
use borrow.Author.Rules.{rules}
use Rattle.blocks.specs.Directory.{muted_at}
use Rattle.blocks.proofs.DirectoryLaws.{directory_good, block_fits, entry_block, index_below}
use Rattle.blocks.proofs.directory.muted_at.Goals as goal

pub entry_block-p-requires : goal.entry_block-p-requires
entry_block-p-requires c =
    let g = directory_good c.args.f.now c.requires.0 in
    (g.axes, omega (arith, g.tiles.most, c.requires.1))

pub entry_index-i-requires : goal.entry_index-i-requires
entry_index-i-requires c =
    let g = directory_good c.args.f.now c.requires.0 in
    (g.axes, omega (arith, g.tiles.most, c.requires.1))

pub block_at-requires : goal.block_at-requires
block_at-requires c =
    let g = directory_good c.args.f.now c.requires.0 in
    rw c.entry_block-p.ensures
    (block_fits g _ (omega (arith, entry_block c.args.h g.axes c.args.t c.requires.1)))

pub entry_muted-requires : goal.entry_muted-requires
entry_muted-requires c =
    let g = directory_good c.args.f.now c.requires.0 in
    (g.axes, rw c.entry_index-i.ensures (index_below c.args.h.axes c.args.t g.axes), search rules)

pub returns : goal.returns
unfolding muted_at
returns c =
    c.entry_muted.ensures
    ∙ rw (c.block_at.ensures.0, c.entry_index-i.ensures, c.entry_block-p.ensures)
