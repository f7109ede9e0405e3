use mathlib.Core.Path.{◌≡◌, sym, ◌∙◌}
use native.Mathlib.Omega.{arith}
use Rattle.search.specs.Run.{ahead_of}
use Rattle.list.specs.Slices.{lists}
use Rattle.list.proofs.Full.{not_full, full_last}
use Rattle.list.proofs.last_ahead.Goals as goal

pub returns-then-used-k : goal.returns-then-used-k
returns-then-used-k c =
    let a = c.args in
    λ cs. sym (not_full (lists a.dist.now a.site.now cs) a.at a.used a.k a.least a.tile
    c.if-used-k.true)

pub returns : goal.returns
unfolding ahead_of
returns c =
    let a = c.args in
    let full : a.used ≡ a.k = omega (arith, c.requires.1) in
    λ cs. c.ahead_of_key.ensures
    ∙ sym (full_last (lists a.dist.now a.site.now cs) a.at a.used a.k a.least a.tile
    c.requires.0 full)
