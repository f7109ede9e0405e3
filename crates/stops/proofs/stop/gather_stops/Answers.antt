use mathlib.Core.List.{List, [], ◌∷◌}
use mathlib.Core.Path.{◌∙◌}
use lib.IntN.{ℤ}
use lib.ListN.{length}
use Rattle.stops.proofs.StopLaws.{points_start, points_turn}
use Rattle.stops.proofs.stop.gather_stops.Goals as goal

abbrev cols : List ℤ → List ℤ → List ℤ → List (List ℤ)
cols xs ys zs = xs ∷ ys ∷ zs ∷ []

pub loop-i-init : goal.loop-i-init
loop-i-init c =
    let a = c.args in points_start (cols a.xs.now a.ys.now a.zs.now) a.stops.now

pub loop-i-preserved : goal.loop-i-preserved
loop-i-preserved c =
    let a = c.args in
    let i = c.loop-i.i in
    let turn = points_turn (cols a.xs.now a.ys.now a.zs.now) c.loop-i.stops i (length a.xs.now) c.loop-i-test.true in
    rw c.stop_at.ensures (turn ∙ c.loop-i.invariant)
