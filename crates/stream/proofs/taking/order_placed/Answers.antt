use mathlib.Core.Path.{refl}
use native.Mathlib.Omega.{arith}
use Rattle.blocks.specs.Layout.{max_tiles}
use Rattle.corners.proofs.CornerTables.{corners-few}
use Rattle.plan.proofs.Measures.{known_axes, tiles_few}
use Rattle.stream.proofs.Standing.{all_free}
use Rattle.stream.proofs.taking.order_placed.Goals as goal

pub fill_least-requires : goal.fill_least-requires
fill_least-requires c =
    let few = corners-few c.args.h (known_axes c.args.f.now c.args.h c.requires.f_value.0) in
    let tiles = tiles_few c.args.f.now c.args.h c.requires.f_value.0 in
    (omega (arith, tiles, few.0, c.requires.far_table.long), omega (arith, tiles))

pub settle_all-requires-clause-waits_len : goal.settle_all-requires-clause-waits_len
settle_all-requires-clause-waits_len c = (refl, refl, all_free max_tiles)
