use Prim.Native.Nat.{◌≤◌}
use mathlib.Core.Path.{◌≡◌}
use lib.Dec.{eqb}
use lib.ListN.{take}
use Rattle.search.specs.Lists.{count}
use Rattle.search.specs.Run.{opened_mark}
use Rattle.serve.proofs.marks.count_opened.Given as goal

abbrev pub invariant-loop-t : goal.invariant-loop-t
invariant-loop-t l =
    (l.opened ≤ l.t) × (l.opened ≡ count (λ m. eqb m opened_mark) (take l.t l.marks))
