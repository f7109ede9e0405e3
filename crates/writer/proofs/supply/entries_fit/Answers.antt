use mathlib.Core.Path.{refl, ◌∙◌}
use native.Mathlib.Nat.{sub-zero}
use lib.ListN.{length}
use borrow.Author.Rules.{rules}
use borrow.Author.Tests.{tests}
use Rattle.std.proofs.lemmas.Iterator.{YieldsList-from_range}
use Rattle.std.proofs.lemmas.Iterator.Search.{all_from_yields_List}
use Rattle.base.proofs.Every.{every_range}
use Rattle.writer.specs.Write.{entry_fits}
use Rattle.writer.proofs.supply.entries_fit.Goals as goal

pub returns : goal.returns
returns c =
    let a = c.args in
    let n = length a.counts.now in
    all_from_yields_List (entry_fits a.axes a.boxes.now a.counts.now) _ _ _ c.all.ensures.ran
    (YieldsList-from_range 0 n n refl (sub-zero n)) (λ x b q k. search (rules, tests))
    ∙ every_range _ n
