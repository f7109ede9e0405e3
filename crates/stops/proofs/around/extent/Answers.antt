use mathlib.Core.Path.{◌≡◌}
use borrow.Author.Rules.{rules}
use borrow.Author.Tests.{tests}
use lib.IntN.{pos}
use lib.ListN.{get_or}
use mir.Facts.{to_z-of_z}
use mir.Syntax.{w32}
use mir.Val.{SFits}
use Rattle.std.specs.Int.{int_min, int_max}
use Rattle.std.specs.List.{fold}
use Rattle.std.proofs.lemmas.Iterator.{YieldsList-from_slice}
use Rattle.std.proofs.lemmas.Iterator.Consumers.{fold_from_yields_List}
use Rattle.stops.proofs.StopLaws.{least_fold, greatest_fold}
use Rattle.stops.proofs.around.extent.Goals as goal

pub returns : goal.returns
returns c =
    let xs = c.args.xs.now in
    let x : SFits w32 (get_or xs 0 (pos 0)) = search rules in
    let low : c.fold-low.result ≡ fold int_min (get_or xs 0 (pos 0)) xs =
    rw (to_z-of_z {w = w32} x) at
    (fold_from_yields_List _ int_min _ _ c.fold-low.ensures.ran (YieldsList-from_slice xs cc)
    (λ a x b q k. search (rules, tests))) in
    let high : c.fold-high.result ≡ fold int_max (get_or xs 0 (pos 0)) xs =
    rw (to_z-of_z {w = w32} x) at
    (fold_from_yields_List _ int_max _ _ c.fold-high.ensures.ran (YieldsList-from_slice xs cc)
    (λ a x b q k. search (rules, tests))) in
    let k : SFits w32 c.fold-low.result = search rules in
    let l : SFits w32 c.fold-high.result = search rules in
    rw (to_z-of_z {w = w32} k, to_z-of_z {w = w32} l, low, high, least_fold xs c.requires, greatest_fold xs c.requires)
