use Rattle.list.specs.Slices.{lists}
use Rattle.list.proofs.Gap.{Gap}
use Rattle.list.proofs.make_gap.Given as goal

abbrev pub invariant-loop-left : goal.invariant-loop-left
invariant-loop-left l =
    Gap (lists l.initial.dist l.initial.site l.initial.cue) l.at l.n l.x (lists l.dist l.site l.cue) l.left
