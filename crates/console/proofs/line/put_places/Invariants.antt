use Prim.Native.Nat.{◌+◌, ◌*◌, ◌≤◌}
use Rattle.console.specs.Inner.Room.{place_room}
use Rattle.console.specs.Line.{places_text}
use Rattle.console.specs.Text.{Wrote}
use Rattle.console.proofs.line.put_places.Given as goal

abbrev pub invariant-loop-j : goal.invariant-loop-j
invariant-loop-j l =
    (l.next ≤ l.at + place_room * l.j)
    × Wrote l.initial.out l.at (places_text l.dist l.site l.cue l.from l.j) l.out l.next
