use Rattle.queue.proofs.Scanning.{Scanning}
use Rattle.queue.proofs.keys.next_key.Given as goal

abbrev pub invariant-loop-j : goal.invariant-loop-j
invariant-loop-j l = Scanning l.keys l.m l.from l.bound (record { at = l.at; key = l.key }) l.j
