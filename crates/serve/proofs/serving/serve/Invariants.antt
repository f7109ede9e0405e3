use mathlib.Core.List.{map}
use mathlib.Core.Path.{◌≡◌}
use lib.ListN.{length}
use Rattle.list.specs.Slices.{lent}
use Rattle.plan.specs.Inner.Seam.{stop_of}
use Rattle.serve.proofs.StopLoop.{StopTurn}
use Rattle.serve.proofs.serving.serve.Given as goal

abbrev pub invariant-loop-i : goal.invariant-loop-i
invariant-loop-i l =
    (length l.keys ≡ length l.initial.keys)
    × StopTurn l.f l.h (map (stop_of l.h) l.stops) l.k
    (lent l.initial.dist l.initial.site l.initial.cue l.initial.marks) (lent l.dist l.site l.cue l.marks) l.i l.at
    l.used
