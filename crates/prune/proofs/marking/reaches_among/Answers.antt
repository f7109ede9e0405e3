use Prim.Native.Nat.{ℕ, ◌+◌, ◌-◌, ◌*◌, ◌<◌, ◌≤◌}
use mathlib.Core.Bool.{Bool, cond}
use mathlib.Core.List.{List}
use mathlib.Core.Path.{◌≡◌, refl, ap, sym}
use native.Mathlib.Nat.{zero-add}
use native.Mathlib.Omega.{arith}
use lib.Dec.{leb}
use lib.ListN.{get_or}
use borrow.Author.Rules.{rules}
use borrow.Author.Tests.{le-leb}
use Rattle.base.specs.Refusal.{accepted}
use Rattle.blocks.specs.Directory.{directory}
use Rattle.blocks.specs.Layout.{max_tiles}
use Rattle.blocks.specs.declared.header.Header.{Header}
use Rattle.corners.specs.Inner.Tables.{below_all, FirstBelow}
use Rattle.plan.specs.FilePlan.{entries}
use Rattle.plan.specs.Inner.Seam.{corner_count}
use Rattle.search.specs.Plan.{slots, ranked}
use Rattle.corners.proofs.CornerTables.{corners-few, not_below}
use Rattle.plan.proofs.Measures.{known_axes, tiles_few}
use Rattle.prune.specs.Inner.Sum.{sum_below}
use Rattle.prune.proofs.Summing.{sum_turn, sum_skip, sum_done}
use Rattle.prune.proofs.marking.reaches_among.Goals as goal
use Rattle.prune.proofs.marking.reaches_among.Goals.{Joined-below, else-below, then-below+else-k-sum}

most : (f : List ℕ) (h : Header) → directory f ≡ accepted h → h.tiles ≤ max_tiles
most f h dir = tiles_few f h dir

-- a region has corners
room : (f : List ℕ) (h : Header) → directory f ≡ accepted h → 4 ≤ corner_count h
room f h dir = (corners-few h (known_axes f h dir)).0

module _ (f : List ℕ) (h : Header) (far near : List ℕ) (to : ℕ) where
  -- what is left to sum from a tile on
  abbrev rest : ℕ → ℕ
  rest e = sum_below f h far near e (to - e)

  -- a tile's turn, by the answer of its test
  turn : (e n : ℕ) {b : Bool} → e < to → b ≡ below_all h far near e →
      n ≡ cond b (ranked (entries f h) e) 0 → n + rest (e + 1) ≡ rest e
  turn e n l q r = rw (r, q) (sum_turn (below_all h far near) (ranked (entries f h)) e to l)

  -- the tiles passed over add nothing
  passed : directory f ≡ accepted h → {a r : ℕ} → FirstBelow far (get_or near 0 0) a to r → rest r ≡ rest a
  passed dir {a} {r} first =
      sum_skip (below_all h far near) (ranked (entries f h)) a r to first.after first.within
      (λ i l u. not_below h far near i 0 (omega (arith, room f h dir)) (rw (zero-add i) (first.none i l u)))

-- the sum behind a tile's turn
summed : (c : Joined-below) →
    let left = rest c.args.f.now c.args.h c.args.far.now c.args.near c.args.to in
    (c.if-below.sum ≤ slots * (c.loop-e.e + 1)) × (c.if-below.sum + left (c.loop-e.e + 1) ≡ left c.args.from)
summed c =
    let f = c.args.f.now in
    let h = c.args.h in
    let far = c.args.far.now in
    let near = c.args.near in
    let to = c.args.to in
    let inv = c.loop-e.invariant in
    elim c.if-below.branch [
      | then-below+else-k-sum w ↦
          let t = turn f h far near to c.loop-e.e w.ranked-sum.result (search rules) c.below.ensures
          (rw w.if-below.true w.ranked-sum.ensures.0) in
          rw w.sum-is (omega (arith, inv.2, w.ranked-sum.ensures.1), omega (arith, inv.3, t))
      | else-below w ↦
          let t = turn f h far near to c.loop-e.e 0 (search rules) c.below.ensures (rw w.if-below.false refl) in
          rw w.sum-is (omega (arith, inv.2), omega (arith, inv.3, t))
    ]

pub next_below-e-requires : goal.next_below-e-requires
next_below-e-requires c =
    let few = most c.args.f.now c.args.h c.requires.f_value.0 in
    let corners = room c.args.f.now c.args.h c.requires.f_value.0 in
    (c.requires.from_le_to.0, omega (arith, few, c.requires.f_value.1, c.requires.from_le_to.1, corners))

pub loop-e-init : goal.loop-e-init
loop-e-init c =
    let q = c.next_below-e.ensures in
    let same = passed c.args.f.now c.args.h c.args.far.now c.args.near c.args.to c.requires.f_value.0 q in
    (q.after, q.within, omega arith, omega (arith, same))

pub below-requires : goal.below-requires
below-requires c =
    let few = most c.args.f.now c.args.h c.requires.f_value.0 in
    let known = known_axes c.args.f.now c.args.h c.requires.f_value.0 in
    (known, omega (arith, few, c.requires.from_le_to.1), c.requires.f_value.1)

pub overflow_add-sum : goal.overflow_add-sum
overflow_add-sum c =
    let few = most c.args.f.now c.args.h c.requires.f_value.0 in
    omega (arith, few, c.requires.from_le_to.1, c.loop-e.invariant.2, c.ranked-sum.ensures.1)

pub returns-then-k-sum : goal.returns-then-k-sum
returns-then-k-sum c =
    let f = c.args.f.now in
    let h = c.args.h in
    let far = c.args.far.now in
    let near = c.args.near in
    let to = c.args.to in
    let t = turn f h far near to c.loop-e.e c.ranked-sum.result (search rules) c.below.ensures
    (rw c.if-below.true c.ranked-sum.ensures.0) in
    sym (le-leb c.args.k (rest f h far near to c.args.from) (omega (arith, c.loop-e.invariant.3, t, c.if-k-sum.true)))

pub next_below-e-requires-in-loop-e : goal.next_below-e-requires-in-loop-e
next_below-e-requires-in-loop-e c =
    let few = most c.args.f.now c.args.h c.requires.f_value.0 in
    let corners = room c.args.f.now c.args.h c.requires.f_value.0 in
    (search rules, omega (arith, few, c.requires.f_value.1, c.requires.from_le_to.1, corners))

pub loop-e-preserved : goal.loop-e-preserved
loop-e-preserved c =
    let q = c.next_below-e-in-loop-e.ensures in
    let t = summed (goal.at.loop-e-preserved c).Joined-below in (
      omega (arith, c.loop-e.invariant.0, q.after),
      q.within,
      omega (arith, t.0, q.after),
      omega (arith, t.1, passed c.args.f.now c.args.h c.args.far.now c.args.near c.args.to c.requires.f_value.0 q),
    )

pub returns : goal.returns
returns c =
    let p = below_all c.args.h c.args.far.now c.args.near in
    let t = sum_done p (ranked (entries c.args.f.now c.args.h)) c.loop-e.e c.args.to (search rules) in
    ap (leb c.args.k) (omega (arith, c.loop-e.invariant.3, t))
