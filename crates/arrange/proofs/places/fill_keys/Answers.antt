use Prim.Native.Nat.{◌%◌, ◌≤◌}
use mathlib.Core.Path.{◌≡◌, ap, ◌∙◌}
use native.Mathlib.Omega.{arith}
use lib.ListN.{set, length-set}
use lib.Seq.{get_or-set_same, get_or-set_other}
use borrow.Author.Count.{below_more}
use Rattle.blocks.specs.Layout.{max_tiles}
use Rattle.plan.proofs.Measures.{tiles_few}
use Rattle.arrange.specs.Inner.Places.{tile_at, tile_room}
use Rattle.arrange.proofs.Listing.{listed_first}
use Rattle.arrange.proofs.places.fill_keys.Goals as goal
use Rattle.arrange.proofs.places.fill_keys.Goals.{Start}

most : (s : Start) → s.args.h.tiles ≤ max_tiles
most s = tiles_few s.args.f.now s.args.h s.requires.0

pub bounds-keys-t : goal.bounds-keys-t
bounds-keys-t c =
    omega (arith, most (goal.at.bounds-keys-t c).Start, c.loop-t.invariant.0)

pub loop-t-preserved : goal.loop-t-preserved
loop-t-preserved c =
    let few = most (goal.at.loop-t-preserved c).Start in
    let d = c.loop-t.keys in
    let t = c.loop-t.t in
    let v = c.key_of.result in (
      length-set d t v ∙ c.loop-t.invariant.0,
      below_more (λ i. tile_at (set d t v) i ≡ i) t
          (λ i u. ap (λ z. z % tile_room) (get_or-set_other d t i v 0 (omega arith)) ∙ c.loop-t.invariant.1 i u)
          (ap (λ z. z % tile_room) (get_or-set_same d t v 0 (omega (arith, few, c.loop-t.invariant.0)))
          ∙ c.key_of.ensures),
    )

pub returns : goal.returns
returns c =
    listed_first c.args.h.tiles c.loop-t.keys (λ t u. c.loop-t.invariant.1 t (omega arith))
