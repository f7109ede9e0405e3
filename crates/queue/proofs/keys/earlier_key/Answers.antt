use Prim.Native.Nat.{◌+◌, ◌-◌}
use mathlib.Core.Path.{◌≡◌}
use native.Mathlib.Omega.{arith}
use Rattle.queue.proofs.Scanning.{earlier_new, earlier_same}
use Rattle.queue.proofs.keys.earlier_key.Goals as goal

pub loop-j-preserved-then-keys-j : goal.loop-j-preserved-then-keys-j
loop-j-preserved-then-keys-j c =
    let j = c.loop-j.j in
    let i : j ≡ j - 1 + 1 = omega arith in
    earlier_new c.args.keys.now c.args.m (j - 1) _ (omega (arith, c.requires.1)) (rw i at c.loop-j.invariant)
    c.if-keys-j.true

pub loop-j-preserved : goal.loop-j-preserved
loop-j-preserved c =
    let j = c.loop-j.j in
    let i : j ≡ j - 1 + 1 = omega arith in
    earlier_same c.args.keys.now c.args.m (j - 1) _ (omega (arith, c.requires.1)) (rw i at c.loop-j.invariant)
    c.if-keys-j.false
