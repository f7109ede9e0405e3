use Prim.Native.Nat.{◌+◌}
use mathlib.Core.Path.{ap}
use native.Mathlib.Omega.{arith}
use Rattle.blocks.proofs.DirectoryLaws.{directory_good, block_fits}
use Rattle.tiles.specs.Tile.{tile_position}
use Rattle.tiles.proofs.tile.tile_position.Goals as goal

pub directory_blocks-requires : goal.directory_blocks-requires
directory_blocks-requires c =
    let g = directory_good _ c.requires.0 in (g.axes, omega (arith, g.tiles.most))

pub overflow_add-result : goal.overflow_add-result
overflow_add-result c = omega (arith, (directory_good _ c.requires.0).tiles.most)

pub returns : goal.returns
unfolding tile_position
returns c =
    let g = directory_good _ c.requires.0 in
    let e = c.directory_blocks.ensures in
    (ap (λ d. d + c.args.t) e.0, omega (arith, g.tiles.most), block_fits g _ (omega (arith, e.0)))
