use mathlib.Core.Path.{◌≡◌}
use Rattle.encode.specs.Supply.{offset}
use Rattle.writer.proofs.supply.sum_of.Given as goal

abbrev pub invariant-loop-n : goal.invariant-loop-n
invariant-loop-n l = l.sum ≡ offset l.counts l.n-index
