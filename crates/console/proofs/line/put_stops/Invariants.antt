use Prim.Native.Nat.{◌+◌, ◌*◌, ◌≤◌}
use Rattle.base.specs.Tabulate.{joined}
use Rattle.console.specs.Inner.Room.{stop_room}
use Rattle.console.specs.Line.{stop_line}
use Rattle.console.specs.Text.{Wrote}
use Rattle.console.proofs.line.put_stops.Given as goal

abbrev pub invariant-loop-i : goal.invariant-loop-i
invariant-loop-i l =
    (l.next ≤ l.at + stop_room * l.i)
    × Wrote l.initial.out l.at (joined (stop_line l.dist l.site l.cue l.k l.used) 0 l.i) l.out l.next
