use Prim.Native.Nat.{◌-◌}
use mathlib.Core.Path.{◌≡◌}
use Rattle.queue.specs.Inner.Keys.{least_key}
use Rattle.queue.proofs.keys.earlier_key.Given as goal

abbrev pub invariant-loop-j : goal.invariant-loop-j
invariant-loop-j l = record { at = l.at; key = l.key } ≡ least_key l.keys l.j (l.m - l.j)
