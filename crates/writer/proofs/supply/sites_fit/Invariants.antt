use mathlib.Core.List.{[], ◌∷◌}
use mathlib.Core.Path.{◌≡◌}
use lib.ListN.{take}
use Rattle.writer.specs.Write.{sites_fit}
use Rattle.writer.proofs.supply.sites_fit.Given as goal

abbrev pub invariant-loop-i : goal.invariant-loop-i
invariant-loop-i l = l.all ≡ sites_fit (take l.axes l.bounds) (take l.axes (l.xs ∷ l.ys ∷ l.zs ∷ [])) l.first l.i
