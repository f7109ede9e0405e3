use mathlib.Core.Path.{◌≡◌}
use lib.ListN.{length}
use Rattle.list.specs.Slices.{lent}
use Rattle.queue.specs.Inner.Keys.{Passed}
use Rattle.queue.proofs.Waiting.{living}
use Rattle.serve.proofs.TileLoop.{TileTurn}
use Rattle.serve.proofs.serving.serve_stop.Given as goal

abbrev pub invariant-loop-least : goal.invariant-loop-least
invariant-loop-least l =
    (length l.keys ≡ length l.initial.keys)
    × TileTurn l.f l.h l.order l.target (lent l.initial.dist l.initial.site l.initial.cue l.initial.marks) l.keys
    (lent l.dist l.site l.cue l.marks) l.used
    × Passed l.keys (length l.order) l.from l.bound

abbrev pub decreases-loop-least : goal.decreases-loop-least
decreases-loop-least l = length (living l.order l.keys)
