use native.Mathlib.Omega.{arith}
use Rattle.list.proofs.Added.{added_ready}
use Rattle.places.proofs.Adding.{adding_starts, adding_lengths, adding_turn, adding_skip, adding_done}
use Rattle.places.proofs.tile.add_sites.Goals as goal

pub loop-slot-init : goal.loop-slot-init
loop-slot-init c =
    let a = c.args in
    adding_skip (adding_starts a.h a.s.now a.n a.first a.target c.requires.3) c.next_slot-slot.ensures

pub add_site-m-requires : goal.add_site-m-requires
add_site-m-requires c =
    (c.requires.0, c.loop-slot-test.true, c.requires.1, c.requires.2, c.loop-slot.invariant.ready)

pub next_slot-slot-requires-in-loop-slot : goal.next_slot-slot-requires-in-loop-slot
next_slot-slot-requires-in-loop-slot c =
    let ready = added_ready c.loop-slot.invariant.ready c.add_site-m.ensures in
    (c.requires.0, omega (arith, c.loop-slot-test.true), c.requires.2, ready.some, ready.long.0)

pub loop-slot-smaller : goal.loop-slot-smaller
loop-slot-smaller c =
    omega (arith, c.loop-slot-test.true, c.next_slot-slot-in-loop-slot.ensures.onward)

pub loop-slot-preserved : goal.loop-slot-preserved
loop-slot-preserved c =
    adding_skip (adding_turn c.loop-slot.invariant c.loop-slot-test.true c.add_site-m.ensures)
    c.next_slot-slot-in-loop-slot.ensures

pub shape_of-dist : goal.shape_of-dist
shape_of-dist c = (adding_lengths c.loop-slot.invariant).dist

pub shape_of-site : goal.shape_of-site
shape_of-site c = (adding_lengths c.loop-slot.invariant).site

pub shape_of-cue : goal.shape_of-cue
shape_of-cue c = (adding_lengths c.loop-slot.invariant).cue

pub returns : goal.returns
returns c = adding_done c.loop-slot.invariant c.loop-slot-test.false
