use Prim.Native.Nat.{◌-◌}
use mathlib.Core.List.{List, [], ◌∷◌}
use mathlib.Core.Path.{◌≡◌}
use lib.IntN.{ℤ}
use lib.ListN.{length}
use Rattle.base.specs.Over.{over}
use Rattle.geometry.specs.Around.{rows}
use Rattle.stops.specs.Stops.{stops_of}
use Rattle.stops.proofs.stop.gather_stops.Given as goal

abbrev cols : List ℤ → List ℤ → List ℤ → List (List ℤ)
cols xs ys zs = xs ∷ ys ∷ zs ∷ []

abbrev pub invariant-loop-i : goal.invariant-loop-i
invariant-loop-i l =
    over l.stops l.i (rows (cols l.xs l.ys l.zs) l.i (length l.xs - l.i))
    ≡ over l.initial.stops 0 (stops_of (cols l.xs l.ys l.zs))
