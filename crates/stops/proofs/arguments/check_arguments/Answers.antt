use Prim.Native.Nat.{ℕ}
use mathlib.Core.Bool.{true}
use mathlib.Core.List.{List, [], ◌∷◌}
use mathlib.Core.Path.{◌≡◌, sym, ◌∙◌}
use native.Mathlib.Omega.{arith}
use lib.IntN.{ℤ}
use lib.ListN.{take}
use Rattle.stops.specs.Arguments.{stops_due}
use Rattle.stops.proofs.ArgumentLaws.{good_k, good_stops, few-places}
use Rattle.stops.proofs.TakeLaws.{take_count, same-columns}
use Rattle.stops.proofs.arguments.check_arguments.Goals as goal
use Rattle.stops.proofs.arguments.check_arguments.Goals.{Else-not-stops_due}

-- the columns, and those of the call's axes
abbrev all : List ℤ → List ℤ → List ℤ → List (List ℤ)
all xs ys zs = xs ∷ ys ∷ zs ∷ []

abbrev cols : ℕ → List ℤ → List ℤ → List ℤ → List (List ℤ)
cols axes xs ys zs = take axes (all xs ys zs)

-- what test 12 left
stops-good : (c : Else-not-stops_due) → (stops_due (cols c.args.axes c.args.xs.now c.args.ys.now c.args.zs.now) ≡ true)
stops-good c = sym c.stops_due.ensures ∙ c.if-not-stops_due.false

pub valid_stops-requires : goal.valid_stops-requires
valid_stops-requires c =
    let a = c.args in
    let e = same-columns a.axes a.xs.now a.ys.now a.zs.now c.requires
    (good_stops (cols a.axes a.xs.now a.ys.now a.zs.now)
    (stops-good (goal.at.valid_stops-requires c).Else-not-stops_due)).1.1 in
    (c.requires.0, e.0, e.1)

pub overflow_mul-n : goal.overflow_mul-n
overflow_mul-n c =
    let a = c.args in
    let few = (good_stops (cols a.axes a.xs.now a.ys.now a.zs.now)
    (stops-good (goal.at.overflow_mul-n c).Else-not-stops_due)).1.0 in
    let count = take_count a.axes (omega (arith, c.requires.0.0)) (all a.xs.now a.ys.now a.zs.now) in
    let k = good_k a.k (sym c.valid_k.ensures ∙ c.if-not-valid_k.false) in
    omega (arith, few-places (rw count at few) k.1)
