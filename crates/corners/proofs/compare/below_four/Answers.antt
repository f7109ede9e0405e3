use Prim.Native.Nat.{suc, ◌-◌}
use mathlib.Core.Bool.{Bool, true, ◌&&◌, and_assoc, and_comm}
use mathlib.Core.Path.{◌≡◌, ap, ◌∙◌}
use borrow.Author.Rules.{rules}
use Rattle.base.specs.Every.{every}
use Rattle.corners.proofs.compare.below_four.Goals as goal

-- a test taken out of those that are left
one_more : (all test rest : Bool) → all && test && rest ≡ all && (rest && test)
one_more all test rest = and_assoc all test rest ∙ ap (λ z. all && z) (and_comm test rest)

pub loop-c-preserved : goal.loop-c-preserved
unfolding every
loop-c-preserved c =
    let next : c.loop-c.c ≡ suc (c.loop-c.c - 1) = search rules in
    rw c.both-all.ensures (one_more c.loop-c.all _ _ ∙ rw next at c.loop-c.invariant)

pub returns : goal.returns
unfolding every
returns c =
    let none : c.loop-c.c ≡ 0 = search rules in
    and_comm true c.loop-c.all ∙ rw none at c.loop-c.invariant
