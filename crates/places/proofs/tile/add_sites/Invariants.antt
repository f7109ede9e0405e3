use Prim.Native.Nat.{◌-◌}
use Rattle.list.specs.Slices.{lists}
use Rattle.places.proofs.Adding.{Adding}
use Rattle.places.proofs.tile.add_sites.Given as goal

abbrev pub invariant-loop-slot : goal.invariant-loop-slot
invariant-loop-slot l =
    Adding l.h l.s l.n l.first l.target (lists l.initial.dist l.initial.site l.initial.cue) l.used
    (lists l.dist l.site l.cue) l.m l.slot

abbrev pub decreases-loop-slot : goal.decreases-loop-slot
decreases-loop-slot l = l.n - l.slot
