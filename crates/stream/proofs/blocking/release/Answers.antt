use Prim.Native.Nat.{◌≤◌}
use native.Mathlib.Omega.{arith}
use Rattle.blocks.specs.Layout.{max_tiles}
use Rattle.plan.specs.Inner.Seam.{region_of}
use Rattle.plan.proofs.Measures.{known_axes, tiles_few}
use Rattle.stream.proofs.Blockers.{released}
use Rattle.stream.proofs.blocking.release.Goals as goal
use Rattle.stream.proofs.blocking.release.Goals.{Start}

most : (s : Start) → s.args.h.tiles ≤ max_tiles
most s = tiles_few s.args.f.now s.args.h s.requires.tile_of.0.dir

pub bounds-from-b : goal.bounds-from-b
bounds-from-b c = omega (arith, most (goal.at.bounds-from-b c).Start, c.requires.tile_of.0.below, c.requires.keys_len.3)

pub settle-requires-clause-known_axes : goal.settle-requires-clause-known_axes
settle-requires-clause-known_axes c = (
  known_axes c.args.f.now c.args.h c.requires.tile_of.0.dir,
  c.requires.far_table.long,
  c.requires.stands.few,
  most (goal.at.settle-requires-clause-known_axes c).Start,
)

pub returns : goal.returns
returns c =
    released c.args.f.now c.args.h c.requires.tile_of.0.dir (region_of c.args.h c.args.o) c.requires.tile_of.1
    c.args.keys.now c.requires.keys_len.1 c.requires.far_table c.requires.tile_of.0.below c.near_from-near.result
    c.near_from-near.ensures c.requires.taken_below c.requires.stands.few c.requires.stands.rest
    c.settle.ensures
