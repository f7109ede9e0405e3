use Prim.Native.Nat.{◌≤◌}
use native.Mathlib.Omega.{arith}
use Rattle.blocks.specs.Layout.{max_tiles}
use Rattle.plan.specs.Inner.Seam.{region_of}
use Rattle.corners.proofs.CornerTables.{next_far}
use Rattle.plan.proofs.Measures.{tiles_few}
use Rattle.prune.proofs.tables.fill_corners.Goals as goal
use Rattle.prune.proofs.tables.fill_corners.Goals.{Start}

most : (s : Start) → s.args.h.tiles ≤ max_tiles
most s = tiles_few s.args.f.now s.args.h s.requires.0

pub fill_tile-requires : goal.fill_tile-requires
fill_tile-requires c = (
  record { dir = c.requires.0; below = omega arith },
  c.requires.1,
  omega (arith, most (goal.at.fill_tile-requires c).Start),
  c.loop-t.invariant.long,
)

pub loop-t-preserved : goal.loop-t-preserved
loop-t-preserved c =
    next_far c.args.f.now c.args.h (region_of c.args.h c.args.o) (λ t. t)
    (omega (arith, most (goal.at.loop-t-preserved c).Start)) c.loop-t.invariant c.fill_tile.ensures
