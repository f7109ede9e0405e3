-- What one tile waits for: from the tables to the relation of the file's tiles. Assumes nothing.
use Prim.Native.Nat.{ℕ, ◌-◌, ◌<◌, ◌≤◌}
use mathlib.Core.Bool.{true, false}
use mathlib.Core.List.{List}
use mathlib.Core.Logic.{◌≢◌}
use mathlib.Core.Path.{◌≡◌, sym, ◌∙◌}
use native.Mathlib.Nat.{zero-add}
use native.Mathlib.Omega.{arith}
use lib.Dec.{ltb}
use lib.IntN.{ℤ}
use lib.ListN.{get_or}
use borrow.Author.Tests.{ltb-true}
use Rattle.base.specs.Refusal.{accepted}
use Rattle.blocks.specs.Directory.{directory}
use Rattle.blocks.specs.declared.header.Header.{Header}
use Rattle.corners.specs.Inner.Tables.{FarTable, NearTable, below_all}
use Rattle.plan.specs.Inner.Seam.{ValidRegion, corner_count}
use Rattle.base.proofs.Tests.{by_test}
use Rattle.corners.proofs.CornerTables.{corners-few, tells_closer, not_below}
use Rattle.plan.proofs.Measures.{known_axes, tiles_few}
use Rattle.arrange.specs.Inner.Places.{tile_at, Listed, Least, NoneFrom}
use Rattle.stream.specs.Inner.State.{taken_mark, is_left, waits_for, Settled, TakenBelow, Released}
use Rattle.stream.specs.Stream.{closer_from}
use Rattle.stream.proofs.Standing.{settled_stands}

module _ (f : List ℕ) (h : Header) (dir : directory f ≡ accepted h) (o : List (List ℤ)) (v : ValidRegion h o)
    (keys : List ℕ) (listed : Listed h.tiles keys) {far : List ℕ}
    (table : FarTable f h o (tile_at keys) h.tiles far) {b : ℕ} (below : b < h.tiles) (near : List ℕ)
    (from-b : NearTable f h o b near) where
  tells : (i : ℕ) → i < h.tiles → below_all h far near i ≡ closer_from f h o (tile_at keys i) b
  unfolding closer_from
  tells i l = tells_closer f h o dir v (tile_at keys) table b below near from-b i l (listed.below i l)

  -- from the place found by halving on no tile is nearer
  pub none_nearer : {least : List ℕ} {to : ℕ} → Least far h.tiles least
      → NoneFrom least h.tiles (get_or near 0 0) to → (i : ℕ) → to ≤ i → i < h.tiles
      → closer_from f h o (tile_at keys i) b ≡ false
  none_nearer {least} {to} low none i l u =
      let room : 0 < corner_count h = omega (arith, (corners-few h (known_axes f h dir)).0) in
      let a = none.none (omega arith) in
      let c = low to i l u in
      sym (tells i u) ∙ not_below h far near i 0 room (rw (zero-add i) (omega (arith, a, c)))

  pub released : {waits waits' from from' : List ℕ} {low to : ℕ}
      → TakenBelow (closer_from f h o) h.tiles keys waits low → to ≤ h.tiles
      → ((i : ℕ) → to ≤ i → i < h.tiles → is_left waits (tile_at keys i) ≡ true
      → closer_from f h o (tile_at keys i) b ≡ false)
      → Settled (below_all h far near) keys low to b waits waits' from from'
      → Released (closer_from f h o) h.tiles keys b waits waits' from from'
  released {waits} {low = low} gone few rest s = record {
    w = waits_for keys low s.place;
    r = s.place;
    waits_set = s.waits_set;
    from_set = s.from_set;
    left = not_taken;
    stands = settled_stands (closer_from f h o) h.tiles keys (tiles_few f h dir) listed tells gone few rest s.last;
  }
    where
      -- a tile has another number, and so has the mark of a free one
      not_taken : waits_for keys low s.place ≢ taken_mark
      not_taken e = by_test (ltb low s.place)
          (λ t.
          let l = ltb-true low s.place t in
          let q : tile_at keys (s.place - 1) ≡ taken_mark = rw t at e in
          omega (arith, listed.below (s.place - 1) (omega (arith, s.last.within)), tiles_few f h dir))
          (λ t. let q = rw t at e in omega arith)
