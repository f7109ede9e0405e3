-- Document 01, "Striking", with 02.1: a tile is pruned from a box O, for k.
use Rattle.std.specs.Prelude.{ℕ, Bool, leb}
use Rattle.search.specs.Lists.{range, count, total}
use Rattle.search.specs.Plan.{Geometry, Directory, ranked}

module _ {G : Geometry} (E : Directory G) (O : G.Box) (k : ℕ) where
  open G use {closer}
  open E use {tiles, box}

  -- "tile B is struck exactly when the counts of all tiles nearer than B from O add up to at least k"; 02.1: "Striking
  -- adds up sounding sites only"
  unfoldable pub pruned : ℕ → Bool
  pruned b = leb k (total (λ e. closer O (box e) (box b)) (ranked E) (range 0 tiles))

  -- "the number struck"
  unfoldable pub pruned_count : ℕ
  pruned_count = count pruned (range 0 tiles)
