use mathlib.Core.Path.{◌∙◌}
use Rattle.blocks.proofs.DirectoryLaws.{directory_good, count_small}
use Rattle.tiles.specs.Tile.{open_tile}
use Rattle.tiles.proofs.tile.open_tile.Goals as goal

pub tile_block-requires : goal.tile_block-requires
tile_block-requires c = (
  (directory_good _ c.requires.0).axes,
  c.block_at.ensures.1,
  c.tile_position-p.ensures.1,
  rw c.count_at-count.ensures (count_small (directory_good _ c.requires.0) c.args.t c.requires.1),
)

pub returns : goal.returns
unfolding open_tile
returns c =
    let s = c.block_at.ensures.0 in
    c.tile_block.ensures
    ∙ rw (s, c.muted_at-muted.ensures, c.count_at-count.ensures, c.box_at-bounds.ensures, c.tile_position-p.ensures.0)
