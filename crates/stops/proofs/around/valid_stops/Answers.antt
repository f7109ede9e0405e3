use Prim.Native.Nat.{ℕ}
use mathlib.Core.List.{List, [], ◌∷◌}
use mathlib.Core.Path.{◌≡◌, refl, sym, ap, ◌∙◌}
use native.Mathlib.Nat.{sub-zero}
use native.Mathlib.Omega.{arith}
use borrow.Author.Rules.{rules}
use lib.IntN.{ℤ}
use lib.ListN.{length, take}
use Rattle.std.proofs.lemmas.Iterator.{YieldsList-from_range}
use Rattle.std.proofs.lemmas.Iterator.Search.{all_from_yields_List}
use Rattle.base.specs.Every.{every}
use Rattle.base.proofs.Every.{every_range}
use Rattle.geometry.specs.Around.{row}
use Rattle.geometry.specs.Box.{valid_point}
use Rattle.stops.specs.Arguments.{stops_valid}
use Rattle.stops.specs.Stops.{valid_stop}
use Rattle.stops.proofs.TakeLaws.{take_row, take_count}
use Rattle.stops.proofs.around.valid_stops.Goals as goal

-- the columns of a call
abbrev all : List ℤ → List ℤ → List ℤ → List (List ℤ)
all xs ys zs = xs ∷ ys ∷ zs ∷ []

-- the test of a stop with room for three axes
spot : (n : ℕ) (cols : List (List ℤ)) (i : ℕ) → valid_point (take n (row cols i)) ≡ valid_stop (take n cols) i
unfolding valid_stop
spot n cols i = ap valid_point (take_row n cols i)

pub returns : goal.returns
unfolding stops_valid
returns c =
    let a = c.args in
    let cols = all a.xs.now a.ys.now a.zs.now in
    let n = length a.xs.now in
    let tests : stops_valid (take a.axes cols) ≡ every (valid_stop (take a.axes cols)) n =
    ap (every (valid_stop (take a.axes cols))) (take_count a.axes (omega (arith, c.requires.0.0)) cols) in
    all_from_yields_List (valid_stop (take a.axes cols)) _ _ _ c.all.ensures.ran
    (YieldsList-from_range 0 n n refl (sub-zero n)) (λ x b q k. search (rules, tests, spot a.axes cols x))
    ∙ every_range _ n ∙ sym tests
