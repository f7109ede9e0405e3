use Prim.Native.Nat.{◌-◌, ◌≤◌}
use native.Mathlib.Omega.{arith}
use lib.ListN.{length}
use borrow.Author.Rules.{rules}
use Rattle.arrange.proofs.Listing.{same_self, same_then, same_exchange}
use Rattle.arrange.proofs.sorting.comb.Goals as goal
use Rattle.arrange.proofs.sorting.comb.Goals.{At-loop-i, else-a-i, then-a-i}

-- the table is as long as it was
room : (l : At-loop-i) → l.args.n ≤ length l.loop-i.a
room l = omega (arith, l.loop-i.invariant.1.long, l.requires)

pub loop-i-init : goal.loop-i-init
loop-i-init c = (search rules, same_self c.args.n c.args.a.now)

pub bounds-a-i : goal.bounds-a-i
bounds-a-i c = omega (arith, room (goal.at.bounds-a-i c).At-loop-i)

pub bounds-a-i-in-loop-i : goal.bounds-a-i-in-loop-i
bounds-a-i-in-loop-i c = omega (arith, room (goal.at.bounds-a-i-in-loop-i c).At-loop-i)

pub loop-i-preserved : goal.loop-i-preserved
loop-i-preserved c =
    let i = c.loop-i.i in (
      search rules,
      elim c.if-a-i.branch [
        | then-a-i w ↦
            let changed = same_exchange c.loop-i.a (i - c.args.gap) i c.args.n (search rules) (search rules)
            (room (goal.at.loop-i-preserved c).At-loop-i) in
            rw w.a-is (same_then c.loop-i.invariant.1 (rw (w.swap.ensures.by_index.3 0) changed))
        | else-a-i w ↦ rw w.a-is c.loop-i.invariant.1
      ],
    )

pub shape_of-a : goal.shape_of-a
shape_of-a c = c.loop-i.invariant.1.long
