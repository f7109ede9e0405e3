use Prim.Native.Nat.{◌≤◌}
use native.Mathlib.Omega.{arith}
use Rattle.blocks.specs.Layout.{max_tiles}
use Rattle.plan.specs.Inner.Seam.{region_of}
use Rattle.plan.proofs.Measures.{known_axes, tiles_few}
use Rattle.stream.proofs.Blockers.{none_nearer, released}
use Rattle.stream.proofs.blocking.settle_first.Goals as goal
use Rattle.stream.proofs.blocking.settle_first.Goals.{Start}

most : (s : Start) → s.args.h.tiles ≤ max_tiles
most s = tiles_few s.args.f.now s.args.h s.requires.tile_of.0.dir

pub place_before-to-requires : goal.place_before-to-requires
place_before-to-requires c =
    let few = most (goal.at.place_before-to-requires c).Start in
    (omega (arith, few, c.requires.keys_len.2), few)

pub settle-requires-clause-known_axes : goal.settle-requires-clause-known_axes
settle-requires-clause-known_axes c = (
  known_axes c.args.f.now c.args.h c.requires.tile_of.0.dir,
  c.requires.far_table.long,
  c.place_before-to.ensures.within,
  most (goal.at.settle-requires-clause-known_axes c).Start,
)

pub returns : goal.returns
returns c =
    let f = c.args.f.now in
    let h = c.args.h in
    let o = region_of h c.args.o in
    let keys = c.args.keys.now in
    let dir = c.requires.tile_of.0.dir in
    let below = c.requires.tile_of.0.below in
    let valid = c.requires.tile_of.1 in
    let listed = c.requires.keys_len.1 in
    let table = c.requires.far_table in
    let near = c.near_from-near.result in
    let from = c.near_from-near.ensures in
    released f h dir o valid keys listed table below near from (λ i l u. absurd (omega arith))
    c.place_before-to.ensures.within
    (λ i l u _. none_nearer f h dir o valid keys listed table below near from c.requires.keys_len.3
    c.place_before-to.ensures i l u)
    c.settle.ensures
