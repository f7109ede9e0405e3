use Prim.Native.Nat.{ℕ, ◌<◌, ◌≤◌}
use native.Mathlib.Omega.{arith}
use lib.ListN.{get_or}
use Rattle.queue.specs.Inner.Keys.{none}
use Rattle.queue.proofs.Scanning.{scanning_starts, scanning_new, scanning_same, scanning_done}
use Rattle.queue.proofs.Scanning.{like_last, key_is_some, key_is_none}
use Rattle.queue.proofs.keys.next_key.Goals as goal
use Rattle.queue.proofs.keys.next_key.Goals.{then-keys-j-2, else-keys-j-2}

pub loop-j-init : goal.loop-j-init
loop-j-init c =
    let keys = c.args.keys.now in
    let small : (i : ℕ) → get_or keys i 0 ≤ none = λ i. omega (arith, c.shared_slice_known-1.given i) in
    scanning_starts keys c.args.m c.args.from c.args.bound small c.requires.1.inside

pub returns-then-keys-j : goal.returns-then-keys-j
returns-then-keys-j c =
    rw (← (like_last c.loop-j.invariant c.requires.1 c.loop-j-test.true c.if-keys-j.true)) (key_is_some _ c.requires.1.real)

pub loop-j-preserved : goal.loop-j-preserved
loop-j-preserved c =
    let keys = c.args.keys.now in
    let j = c.loop-j.j in
    let inside = c.loop-j-test.true in
    let above : c.args.bound < get_or keys j 0 = omega (arith, c.requires.1.bounded j inside, c.if-keys-j.false) in
    elim c.if-keys-j-2.branch [
      | then-keys-j-2 w ↦ rw (w.at-is, w.key-is) (scanning_new c.loop-j.invariant inside above w.if-keys-j-2.true)
      | else-keys-j-2 w ↦ rw (w.at-is, w.key-is) (scanning_same c.loop-j.invariant inside above w.if-keys-j-2.false)
    ]

pub earlier_key-least-requires : goal.earlier_key-least-requires
earlier_key-least-requires c =
    (c.requires.0, c.requires.1.inside, scanning_done c.loop-j.invariant c.loop-j-test.false)

pub returns-then-least-lt-NONE : goal.returns-then-least-lt-NONE
returns-then-least-lt-NONE c =
    rw (← c.earlier_key-least.ensures) (key_is_some _ c.if-least-lt-NONE.true)

pub returns-else-least-lt-NONE : goal.returns-else-least-lt-NONE
returns-else-least-lt-NONE c =
    rw (← c.earlier_key-least.ensures) (key_is_none _ c.if-least-lt-NONE.false)
