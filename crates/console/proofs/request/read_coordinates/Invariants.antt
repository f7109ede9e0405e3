use mathlib.Core.List.{◌++◌}
use mathlib.Core.Path.{◌≡◌}
use lib.ListN.{drop}
use Rattle.console.specs.Request.{coordinates}
use Rattle.console.proofs.request.read_coordinates.Given as goal

abbrev pub invariant-loop-i : goal.invariant-loop-i
invariant-loop-i l = l.out ≡ coordinates l.input l.at l.i ++ drop l.i l.initial.out
