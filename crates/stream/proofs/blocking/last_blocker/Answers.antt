use Prim.Native.Nat.{ℕ, ◌-◌, ◌*◌, ◌<◌, ◌≤◌}
use mathlib.Core.Bool.{false, ◌&&◌}
use mathlib.Core.Path.{◌≡◌, sym, ◌∙◌}
use native.Mathlib.Omega.{arith}
use lib.Dec.{eqb, ltb}
use lib.ListN.{get_or}
use borrow.Author.Tests.{ltb-true, ltb-false, eqb-true, eqb-false}
use Rattle.blocks.specs.Layout.{max_tiles}
use Rattle.corners.specs.Inner.Tables.{below_all, LastBelow}
use Rattle.plan.specs.Inner.Seam.{corner_count}
use Rattle.arrange.specs.Inner.Places.{tile_at}
use Rattle.stream.specs.Inner.State.{is_left}
use Rattle.base.proofs.Tests.{by_test}
use Rattle.corners.proofs.CornerTables.{corners-few, not_below}
use Rattle.stream.proofs.blocking.last_blocker.Goals as goal
use Rattle.stream.proofs.blocking.last_blocker.Goals.{After-corners-n, Start}

-- the corner that is tested first
few : (s : Start) → (4 ≤ corner_count s.args.h) × (corner_count s.args.h ≤ 8)
few s = corners-few s.args.h s.requires.known_axes.0

-- a place passed over does not block
passed : (c : After-corners-n) → (to i : ℕ) → LastBelow c.args.far.now ((c.corners-n.result - 1) * max_tiles)
    (get_or c.args.near (c.corners-n.result - 1) 0) c.args.low to i
    → (j : ℕ) → i ≤ j → j < to
    → below_all c.args.h c.args.far.now c.args.near j && is_left c.args.waits.now (tile_at c.args.keys.now j) ≡ false
passed c to i last j l u =
    let k = c.corners-n.result - 1 in
    let four = (corners-few c.args.h c.requires.known_axes.0).0 in
    let e : below_all c.args.h c.args.far.now c.args.near j ≡ false =
    not_below c.args.h c.args.far.now c.args.near j k (omega (arith, four, c.corners-n.ensures))
    (last.none j l u) in
    rw e

pub bounds-near-n : goal.bounds-near-n
bounds-near-n c =
    omega (arith, (few (goal.at.bounds-near-n c).Start).1, c.corners-n.ensures)

pub loop-i-init : goal.loop-i-init
loop-i-init c =
    let q = c.last_below-i.ensures in
    (q.within, λ j l _ u. passed (goal.at.loop-i-init c).After-corners-n _ _ q j l u)

pub loop-i-preserved : goal.loop-i-preserved
loop-i-preserved c =
    let q = c.last_below-i-in-loop-i.ensures in
    let i = c.loop-i.i in (
      omega (arith, q.within, c.loop-i.invariant.0),
      λ j m o u. by_test (ltb j i)
          (λ t.
          let v = ltb-true j i t in
          by_test (eqb j (i - 1))
          (λ x. let y : j ≡ i - 1 = eqb-true j (i - 1) x in rw y (sym c.blocks_at.ensures ∙ c.if-blocks_at.false))
          (λ x.
          let y = eqb-false j (i - 1) x in
          passed (goal.at.loop-i-preserved c).After-corners-n _ _ q j m (omega arith)))
          (λ t. c.loop-i.invariant.1 j (ltb-false j i t) o u),
    )
