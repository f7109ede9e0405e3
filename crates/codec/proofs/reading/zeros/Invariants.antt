use mathlib.Core.Path.{◌≡◌}
use Rattle.std.specs.Prelude.{min}
use Rattle.codec.specs.Zeros.{zeros}
use Rattle.codec.proofs.reading.zeros.Given as goal

abbrev pub invariant-loop-i : goal.invariant-loop-i
invariant-loop-i l = l.all ≡ zeros l.s l.from (min l.i l.to)
