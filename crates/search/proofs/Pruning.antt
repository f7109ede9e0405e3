-- A pruned tile has k sites of unpruned tiles closer than it.
use Prim.Native.Nat.{ℕ, zero, suc, ◌≤◌, ◌<◌}
use mathlib.Core.Bool.{Bool, true, false, not, ◌&&◌}
use mathlib.Core.List.{List, Memᴰ}
use mathlib.Core.Logic.{◌⊎◌, inl, inr}
use mathlib.Core.Path.{◌≡◌}
use native.Mathlib.Omega.{arith}
use borrow.Author.Tests.{leb-true}
use Rattle.base.proofs.Tests.{clash, and_both}
use Rattle.search.specs.Lists.{range, count, total, All}
use Rattle.search.specs.Plan.{Geometry, Directory, Lawful, ranked}
use Rattle.search.specs.Pruning.{pruned}
use Rattle.search.proofs.Lists.{all_map, all_mem, count_lt, total_le, find, range_below}

wider : (s n m : Bool) → (n ≡ true → m ≡ true) → (not s && n) ≡ true → (not s && m) ≡ true
wider true n m f e = e
wider false n m f e = f e

spared : (s n : Bool) → (s && n) ≡ false → n ≡ true → (not s && n) ≡ true
spared true n i o = clash o i
spared false n i o = o

module _ {G : Geometry} (E : Directory G) where
  open E use {tiles}

  abbrev pub all_tiles : List ℕ
  all_tiles = range 0 tiles

  pub tiles_below : All (λ t. t < tiles) all_tiles
  tiles_below = range_below 0 tiles tiles (omega arith)

module _ {G : Geometry} (E : Directory G) (O : G.Box) (k : ℕ) where
  open G use {closer}
  open E use {tiles, box}

  -- tile e is closer than tile b; and is not pruned itself
  abbrev pub closer_than : ℕ → ℕ → Bool
  closer_than b e = closer O (box e) (box b)

  abbrev pub free_closer : ℕ → ℕ → Bool
  free_closer b e = not (pruned E O k e) && closer_than b e

  module _ (L : Lawful E O) where
    -- what is closer than c is closer than b, if c is
    deeper : (c b : ℕ) → c < tiles → b < tiles → closer_than b c ≡ true
        → All (λ e. closer_than c e ≡ true → closer_than b e ≡ true) (all_tiles E)
    deeper c b hc hb n = all_map (all_tiles E) (λ e he f. L.closer_trans e c b he hc hb f n) (tiles_below E)

    step : (b : ℕ) → b < tiles → pruned E O k b ≡ true
        → ((c : ℕ) → c < tiles → count (closer_than c) (all_tiles E) < count (closer_than b) (all_tiles E)
        → pruned E O k c ≡ true
        → k ≤ total (free_closer c) (ranked E) (all_tiles E)) → k ≤ total (free_closer b) (ranked E) (all_tiles E)
    unfolding pruned
    step b hb s rec = go (find (λ c. pruned E O k c && closer_than b c) (all_tiles E))
      where
        go : ((c : ℕ) × Memᴰ c (all_tiles E) × ((pruned E O k c && closer_than b c) ≡ true)) ⊎ All
            (λ c. (pruned E O k c && closer_than b c) ≡ false) (all_tiles E)
            → k ≤ total (free_closer b) (ranked E) (all_tiles E)
        go (inl f) =
            let c = f.0 in
            let both = and_both (pruned E O k c) (closer_than b c) f.2 in
            let hc : c < tiles = all_mem (λ t. t < tiles) (tiles_below E) f.1 in
            let d = deeper c b hc hb both.1 in
            let r = rec c hc (count_lt (closer_than c) (closer_than b) d f.1 (L.closer_irrefl c hc) both.1)
            both.0 in
            let w = total_le (free_closer c) (free_closer b) (ranked E) (all_tiles E)
            (all_map (all_tiles E) (λ e i o. wider (pruned E O k e) (closer_than c e) (closer_than b e) i o) d) in
            omega arith
        go (inr a) =
            let w = total_le (closer_than b) (free_closer b) (ranked E) (all_tiles E)
            (all_map (all_tiles E) (λ e i o. spared (pruned E O k e) (closer_than b e) i o) a) in
            let r = leb-true k (total (closer_than b) (ranked E) (all_tiles E)) s in
            omega arith

    free-from : (n b : ℕ) → b < tiles → count (closer_than b) (all_tiles E) ≤ n → pruned E O k b ≡ true
        → k ≤ total (free_closer b) (ranked E) (all_tiles E)
    free-from zero b hb h s = step b hb s (λ c hc i sc. absurd (omega arith))
    free-from (suc n) b hb h s = step b hb s (λ c hc i sc. free-from n c hc (omega arith) sc)

    -- The counts of the unpruned tiles closer than a pruned tile add up to k.
    pub pruned_by_free : (b : ℕ) → b < tiles → pruned E O k b ≡ true
        → k ≤ total (free_closer b) (ranked E) (all_tiles E)
    pruned_by_free b hb s = free-from (count (closer_than b) (all_tiles E)) b hb (omega arith) s
