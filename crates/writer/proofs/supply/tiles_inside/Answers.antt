use Rattle.std.specs.Prelude.{ℕ, ℤ, List, ◌+◌, ◌≤◌}
use mathlib.Core.Bool.{Bool}
use mathlib.Core.List.{[], ◌∷◌}
use mathlib.Core.Path.{◌≡◌, refl, sym, ◌∙◌}
use native.Mathlib.Omega.{arith}
use lib.ListN.{get_or, length, take}
use borrow.Author.Count.{below_more}
use borrow.Author.Rules.{rules}
use Rattle.encode.specs.Supply.{offset, site_total}
use Rattle.base.proofs.Every.{every_fails, every_holds}
use Rattle.base.proofs.Tests.{passed, failed}
use Rattle.encode.proofs.SupplyLaws.{offset_next, offset_within}
use Rattle.writer.specs.Write.{tile_fits}
use Rattle.writer.proofs.WriteLaws.{tile_test}
use Rattle.writer.proofs.supply.tiles_inside.Goals as goal
use Rattle.writer.proofs.supply.tiles_inside.Goals.{After-sites_fit, After-box_of}

-- test 10 of a tile
abbrev fit : ℕ → List ℤ → List ℕ → List ℤ → List ℤ → List ℤ → ℕ → Bool
fit axes boxes counts xs ys zs = tile_fits axes boxes counts (take axes (xs ∷ ys ∷ zs ∷ []))

-- the sites of the tile lie in the lists
sites-within : (c : After-box_of) →
    c.loop-t.first + get_or c.args.counts.now c.loop-t.t 0 ≤ site_total c.args.counts.now
sites-within c =
    let counts = c.args.counts.now in
    let within = offset_within counts c.loop-t.t (length counts) (search rules) in
    omega (arith, c.loop-t.invariant.0, within)

-- what the call answers is the test of the tile
tile-tested : (c : After-sites_fit) →
    let a = c.args in
    c.sites_fit.result ≡ fit a.axes a.boxes.now a.counts.now a.xs.now a.ys.now a.zs.now c.loop-t.t
tile-tested c =
    c.sites_fit.ensures ∙ tile_test _ _ _ _ _ c.box_of.ensures c.loop-t.invariant.0 refl

pub loop-t-init : goal.loop-t-init
unfolding offset
loop-t-init c = (refl, λ i l. absurd (omega arith))

pub sites_fit-requires : goal.sites_fit-requires
sites_fit-requires c = omega (arith, sites-within (goal.at.sites_fit-requires c).After-box_of, c.requires)

pub returns-then-not-sites_fit : goal.returns-then-not-sites_fit
returns-then-not-sites_fit c =
    let a = c.args in
    let place = (goal.at.returns-then-not-sites_fit c).After-sites_fit in
    sym (every_fails (fit a.axes a.boxes.now a.counts.now a.xs.now a.ys.now a.zs.now)
    (length a.counts.now) c.loop-t.t (search rules) (failed (tile-tested place) c.if-not-sites_fit.true))

pub overflow_add-first : goal.overflow_add-first
overflow_add-first c = omega (arith, sites-within (goal.at.overflow_add-first c).After-box_of, c.requires)

pub loop-t-preserved : goal.loop-t-preserved
loop-t-preserved c =
    let place = (goal.at.loop-t-preserved c).After-sites_fit in
    let next = offset_next c.args.counts.now c.loop-t.t in (
      omega (arith, next, c.loop-t.invariant.0),
      below_more _ _ c.loop-t.invariant.1 (passed (tile-tested place) c.if-not-sites_fit.false),
    )

pub returns : goal.returns
returns c =
    let a = c.args in
    sym (every_holds (fit a.axes a.boxes.now a.counts.now a.xs.now a.ys.now a.zs.now)
    (length a.counts.now) (λ i h. c.loop-t.invariant.1 i (omega arith)))
