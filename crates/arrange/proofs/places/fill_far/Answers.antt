use Prim.Native.Nat.{◌≤◌}
use native.Mathlib.Omega.{arith}
use Rattle.blocks.specs.Layout.{max_tiles}
use Rattle.plan.specs.Inner.Seam.{region_of}
use Rattle.corners.proofs.CornerTables.{next_far}
use Rattle.plan.proofs.Measures.{tiles_few}
use Rattle.arrange.specs.Inner.Places.{tile_at}
use Rattle.arrange.proofs.places.fill_far.Goals as goal
use Rattle.arrange.proofs.places.fill_far.Goals.{Start}

most : (s : Start) → s.args.h.tiles ≤ max_tiles
most s = tiles_few s.args.f.now s.args.h s.requires.f_value.0

pub tile_at-requires : goal.tile_at-requires
tile_at-requires c = omega (arith, most (goal.at.tile_at-requires c).Start, c.requires.listed.1)

pub fill_tile-requires : goal.fill_tile-requires
fill_tile-requires c = (
  record {
    dir = c.requires.f_value.0;
    below = rw c.tile_at.ensures (c.requires.listed.0.below c.loop-i.i (omega arith));
  },
  c.requires.f_value.1,
  omega (arith, most (goal.at.fill_tile-requires c).Start),
  c.loop-i.invariant.long,
)

pub loop-i-preserved : goal.loop-i-preserved
loop-i-preserved c =
    next_far c.args.f.now c.args.h (region_of c.args.h c.args.o) (tile_at c.args.keys.now)
    (omega (arith, most (goal.at.loop-i-preserved c).Start)) c.loop-i.invariant
    (rw c.tile_at.ensures at c.fill_tile.ensures)
