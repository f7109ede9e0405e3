use Prim.Native.Nat.{ℕ, ◌+◌, ◌*◌}
use mathlib.Core.Bool.{Bool}
use mathlib.Core.List.{List}
use mathlib.Core.Path.{◌≡◌, sym, ◌∙◌}
use native.Mathlib.Nat.{zero-add}
use native.Mathlib.Omega.{arith}
use lib.Dec.{ltb}
use lib.ListN.{get_or}
use borrow.Author.Rules.{rules}
use Rattle.base.specs.Every.{every}
use Rattle.blocks.specs.Layout.{max_tiles}
use Rattle.base.proofs.Every.{every-same}
use Rattle.corners.specs.Inner.Tables.{below_all}
use Rattle.corners.proofs.CornerTables.{corners-few, every_parts}
use Rattle.corners.proofs.compare.below.Goals as goal
use Rattle.corners.proofs.compare.below.Goals.{After-below_four-low}

-- the test of one corner
abbrev test : List ℕ → List ℕ → ℕ → ℕ → Bool
test far near e i = ltb (get_or far (i * max_tiles + e) 0) (get_or near i 0)

-- the first four
low : (c : After-below_four-low) → c.below_four-low.result ≡ every (test c.args.far.now c.args.near c.args.e) 4
low c =
    c.below_four-low.ensures ∙ every-same _ (test c.args.far.now c.args.near c.args.e) 4 (λ i l. rw (zero-add i))

pub below_four-low-requires : goal.below_four-low-requires
below_four-low-requires c =
    (c.requires.1, omega (arith, c.requires.2, (corners-few c.args.h c.requires.0).0), search rules)

pub returns-then-h-eq-HEIGHT : goal.returns-then-h-eq-HEIGHT
unfolding below_all
returns-then-h-eq-HEIGHT c =
    let e : c.args.h.axes ≡ 3 = omega arith in
    let l = low (goal.at.returns-then-h-eq-HEIGHT c).After-below_four-low in
    let parts = every_parts (test c.args.far.now c.args.near c.args.e) 4 4 in
    rw e (c.both.ensures ∙ rw (l, c.below_four.ensures) (sym parts))

pub returns-else-h-eq-HEIGHT : goal.returns-else-h-eq-HEIGHT
unfolding below_all
returns-else-h-eq-HEIGHT c =
    let e : c.args.h.axes ≡ 2 = omega arith in
    rw e (low (goal.at.returns-else-h-eq-HEIGHT c).After-below_four-low)
