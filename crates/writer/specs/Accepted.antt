-- What the writer's tests show of its lists. The theorems say that they show exactly this.
use Rattle.std.specs.Prelude.{ℕ, ◌+◌, ◌*◌, ◌<◌, ◌≤◌, true, ◌≡◌, length}
use Rattle.base.specs.Lists.{All}
use Rattle.blocks.specs.Layout.{max_sites, max_tiles}
use Rattle.encode.specs.Supply.{Supply, axes_of, tiles_of, numbers_per_box, box_of, count_of, offset, site_total}
use Rattle.geometry.specs.Around.{row}
use Rattle.geometry.specs.Box as geometry

pub record GoodSupply (s : Supply) : Type 0 where
  pub least : 1 ≤ tiles_of s
  pub most : tiles_of s ≤ max_tiles
  pub numbers : length s.boxes ≡ numbers_per_box (axes_of s) * tiles_of s
  pub boxes : (t : ℕ) → t < tiles_of s → geometry.valid_box (box_of (axes_of s) s.boxes t) ≡ true
  pub counts : (t : ℕ) → t < tiles_of s → count_of s.counts t ≤ max_sites (axes_of s)
  pub spots : All (λ column. length column ≡ site_total s.counts) s.spots
  pub cues : length s.cues ≡ site_total s.counts
  pub inside : (t slot : ℕ) → t < tiles_of s → slot < count_of s.counts t →
      geometry.inside (box_of (axes_of s) s.boxes t) (row s.spots (offset s.counts t + slot)) ≡ true
