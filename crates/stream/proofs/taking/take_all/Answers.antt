use Prim.Native.Nat.{◌<◌, ◌≤◌}
use mathlib.Core.Path.{refl, ◌∙◌}
use native.Mathlib.Omega.{arith}
use lib.ListN.{length, length-set}
use Rattle.blocks.specs.Layout.{max_tiles}
use Rattle.plan.specs.Inner.Seam.{region_of}
use Rattle.plan.proofs.Measures.{tiles_few}
use Rattle.sequence.specs.Claims.{StrictOrder}
use Rattle.stream.specs.Inner.State.{taken_mark}
use Rattle.stream.specs.Stream.{closer_from, tile_order}
use Rattle.stream.proofs.Nearer.{closer-strict}
use Rattle.stream.proofs.Standing.{taken_standing}
use Rattle.stream.proofs.Turns.{running_start, running_end, first_inside, running_next}
use Rattle.stream.proofs.taking.take_all.Goals as goal
use Rattle.stream.proofs.taking.take_all.Goals.{After-first_free-t, Start}

most : (s : Start) → s.args.h.tiles ≤ max_tiles
most s = tiles_few s.args.f.now s.args.h s.requires.f_value.0

strict : (s : Start)
    → StrictOrder (closer_from s.args.f.now s.args.h (region_of s.args.h s.args.o)) s.args.h.tiles
strict s =
    closer-strict s.args.f.now s.args.h s.requires.f_value.0 (region_of s.args.h s.args.o) s.requires.f_value.1

-- what was found is a tile
inside : (c : After-first_free-t) → c.first_free-t.result < c.args.h.tiles
inside c =
    let f = c.args.f.now in
    let h = c.args.h in
    let o = region_of h c.args.o in
    first_inside (closer_from f h o) h.tiles c.args.keys.now
    (closer-strict f h c.requires.f_value.0 o c.requires.f_value.1) (tiles_few f h c.requires.f_value.0)
    c.loop-i.invariant.3 (omega arith) c.first_free-t.ensures

-- there is room for its mark
room : (c : After-first_free-t) → c.first_free-t.result < length c.loop-i.waits
room c =
    let few = tiles_few c.args.f.now c.args.h c.requires.f_value.0 in
    omega (arith, inside c, few, c.loop-i.invariant.0, c.requires.keys_len.2)

pub loop-i-init : goal.loop-i-init
unfolding tile_order
loop-i-init c =
    let start = c.requires.standing in (
      refl,
      refl,
      refl,
      running_start (closer_from c.args.f.now c.args.h (region_of c.args.h c.args.o)) c.args.h.tiles
          c.args.keys.now c.args.waits.now c.args.from.now c.args.order.now start.0 start.1,
    )

pub first_free-t-requires : goal.first_free-t-requires
first_free-t-requires c =
    let few = most (goal.at.first_free-t-requires c).Start in
    (c.loop-i.invariant.3.at_few, omega (arith, few, c.loop-i.invariant.0, c.requires.keys_len.2))

pub bounds-waits-t : goal.bounds-waits-t
bounds-waits-t c = room (goal.at.bounds-waits-t c).After-first_free-t

pub first_left-low-requires : goal.first_left-low-requires
first_left-low-requires c =
    let long = length-set c.loop-i.waits c.first_free-t.result taken_mark in
    let table = c.requires.keys_len in (
      c.loop-i.invariant.3.low_few,
      omega (arith, most (goal.at.first_left-low-requires c).Start, table.0),
      table.1,
      omega (arith, most (goal.at.first_left-low-requires c).Start, long, c.loop-i.invariant.0, table.2),
    )

pub release_all-at-requires-clause-t_lt_tiles : goal.release_all-at-requires-clause-t_lt_tiles
release_all-at-requires-clause-t_lt_tiles c =
    let at = goal.at.release_all-at-requires-clause-t_lt_tiles c in
    let closer = closer_from c.args.f.now c.args.h (region_of c.args.h c.args.o) in (
      inside at.After-first_free-t,
      taken_standing closer c.args.h.tiles c.args.keys.now c.first_free-t.result (most at.Start)
          (room at.After-first_free-t) c.loop-i.invariant.3.standing,
    )

pub loop-i-preserved : goal.loop-i-preserved
loop-i-preserved c =
    let start = (goal.at.loop-i-preserved c).Start in
    let t = c.first_free-t.result in
    let freed = c.release_all-at.ensures in
    let table = c.requires.keys_len in
    let closer = closer_from c.args.f.now c.args.h (region_of c.args.h c.args.o) in (
      freed.1.long_waits ∙ length-set c.loop-i.waits t taken_mark ∙ c.loop-i.invariant.0,
      freed.1.long_from ∙ c.loop-i.invariant.1,
      length-set c.loop-i.order c.loop-i.i t ∙ c.loop-i.invariant.2,
      running_next closer c.args.h.tiles c.args.keys.now (strict start) (most start) c.loop-i.invariant.3 (omega arith)
          c.first_free-t.ensures (omega (arith, most start, c.loop-i.invariant.0, table.2)) c.first_left-low.ensures
          freed.0 freed.1,
    )

pub returns : goal.returns
returns c =
    running_end (closer_from c.args.f.now c.args.h (region_of c.args.h c.args.o)) c.args.h.tiles
    c.args.keys.now (omega arith) c.loop-i.invariant.3
