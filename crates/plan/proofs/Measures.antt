-- Tiles measured from the corners of a region, the bound on near, and how many tiles there are.
use Prim.Native.Nat.{ℕ, ◌<◌, ◌≤◌}
use mathlib.Core.Path.{◌≡◌, ◌∙◌, sym}
use native.Mathlib.Omega.{arith}
use lib.Dec.{ltb}
use lib.IntN.{ℤ}
use mathlib.Core.List.{List}
use lib.ListN.{length}
use Rattle.base.specs.Every.{every}
use Rattle.base.specs.Refusal.{accepted}
use Rattle.blocks.specs.Directory.{directory, box_at}
use Rattle.blocks.specs.Layout.{max_tiles}
use Rattle.blocks.specs.declared.header.Header.{Header}
use Rattle.geometry.specs.Axes.{KnownAxes}
use Rattle.geometry.specs.Margin.{closer}
use Rattle.search.specs.Plan.{near}
use Rattle.blocks.proofs.DirectoryLaws.{directory_good}
use Rattle.blocks.proofs.Theorems.{entry_of_accepted}
use Rattle.geometry.proofs.Theorems.{closer-corners, min_at_most_max, max-dist_bounded}
use Rattle.plan.specs.FilePlan.{entries}
use Rattle.plan.specs.Inner.Seam.{TileOf, ValidStop, ValidRegion, far, corner_of, corner_count}
use Rattle.plan.proofs.Lawful.{box_axes}

module _ (f : List ℕ) (h : Header) (dir : directory f ≡ accepted h) where
  -- tile e is closer than tile b from a region exactly when from each corner far of e is below near of b
  pub closer_by_corners : {o : List (List ℤ)} → ValidRegion h o → (e b : ℕ) → e < h.tiles → b < h.tiles
      → closer o (box_at f h e) (box_at f h b)
      ≡ every (λ c. ltb (far f h (corner_of o c) e) (near (entries f h) (corner_of o c) b)) (corner_count h)
  unfolding far
  closer_by_corners {o} v e b i j =
      let n : (t : ℕ) → length (box_at f h t) ≡ length o = λ t. box_axes f h t ∙ sym v.axes in
      rw v.axes at (closer-corners o (box_at f h e) (box_at f h b) v.valid (entry_of_accepted f h e dir i).0
      (entry_of_accepted f h b dir j).0 (n e) (n b))

  pub known_axes : KnownAxes h.axes
  known_axes = (directory_good f dir).axes

  pub near_bounded : {p : List ℤ} → ValidStop h p → (t : ℕ) → t < h.tiles → near (entries f h) p t ≤ 12000000000000
  near_bounded {p} v t l =
      let same : length p ≡ length (box_at f h t) = v.axes ∙ sym (box_axes f h t) in
      let valid = (entry_of_accepted f h t dir l).0 in
      let m = min_at_most_max (box_at f h t) p valid v.valid same in
      let few : length p ≤ 3 = rw v.axes known_axes.1 in
      omega (arith, max-dist_bounded (box_at f h t) p valid v.valid same)

  pub tiles_few : h.tiles ≤ max_tiles
  tiles_few = (directory_good f dir).tiles.most

pub tile_few : {f : List ℕ} {h : Header} {t : ℕ} → TileOf f h t → t < max_tiles
tile_few {f} {h} tile = let few = tiles_few f h tile.dir in omega (arith, tile.below)
