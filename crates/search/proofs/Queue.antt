-- The tiles of a stop by key: each candidate once, none sooner than one that stands ahead of it.
use Prim.Native.Nat.{ℕ, ◌<◌}
use mathlib.Core.Bool.{true, false, not}
use mathlib.Core.List.Permᴰ
use mathlib.Core.List.{Memᴰ}
use mathlib.Core.Path.{◌≡◌}
use native.Mathlib.Omega.{arith}
use borrow.Author.Tests.{ltb-true, not-true}
use Rattle.base.proofs.Tests.{and_both}
use Rattle.search.specs.Inner.Cut.{Sorted}
use Rattle.search.specs.Lists.{range, filter, All, Distinct}
use Rattle.search.specs.Plan.{Geometry, Directory, ranked}
use Rattle.search.specs.Pruning.{pruned}
use Rattle.search.specs.Run.{candidate, by_key, queue}
use Rattle.search.proofs.Lists.{all_both, all_perm, mem_perm, filter-all, filter_passes, filter_mem}
use Rattle.search.proofs.Lists.{filter-distinct, range_mem, range-distinct, distinct_perm}
use Rattle.search.proofs.Places.{by_key_order}
use Rattle.search.proofs.Pruning.{tiles_below}
use Rattle.search.proofs.Sort.{sort_is_perm, sort_sorted}

module _ {G : Geometry} (E : Directory G) (O : G.Box) (k : ℕ) where
  open G use {Stop}
  open E use {tiles}

  pub candidate_unpruned : (t : ℕ) → candidate E O k t ≡ true → pruned E O k t ≡ false
  unfolding candidate
  candidate_unpruned t e = not-true (pruned E O k t) (and_both _ _ e).0

  pub candidate_some : (t : ℕ) → candidate E O k t ≡ true → 0 < ranked E t
  unfolding candidate
  candidate_some t e = ltb-true 0 (ranked E t) (and_both (not (pruned E O k t)) _ e).1

  -- a tile of the directory that is taken by key
  abbrev pub Chosen : ℕ → Type 0
  Chosen t = (t < tiles) × (candidate E O k t ≡ true)

  module _ (p : Stop) where
    queue-all : (P : ℕ → Type 0) → All P (filter (candidate E O k) (range 0 tiles)) → All P (queue E O k p)
    unfolding queue
    queue-all P h = all_perm P (Permᴰ.symm (sort_is_perm (by_key E p) _)) h

    queue-candidates : All (λ t. candidate E O k t ≡ true) (queue E O k p)
    queue-candidates = queue-all (λ t. candidate E O k t ≡ true) (filter_passes (candidate E O k) (range 0 tiles))

    pub queue_tiles : All (λ t. t < tiles) (queue E O k p)
    queue_tiles =
        queue-all (λ t. t < tiles) (filter-all (λ t. t < tiles) (candidate E O k) (range 0 tiles) (tiles_below E))

    pub queue_chosen : All Chosen (queue E O k p)
    queue_chosen =
        all_both (λ t. t < tiles) (λ t. candidate E O k t ≡ true) Chosen (queue E O k p)
        (λ t h c. (h, c)) queue_tiles queue-candidates

    pub queue_sorted : Sorted (by_key E p) (queue E O k p)
    unfolding queue
    queue_sorted = sort_sorted (by_key E p) (by_key_order E p) (filter (candidate E O k) (range 0 tiles))

    pub queue_distinct : Distinct (queue E O k p)
    unfolding queue
    queue_distinct = distinct_perm (Permᴰ.symm (sort_is_perm (by_key E p) _))
        (filter-distinct (candidate E O k) (range 0 tiles) (range-distinct 0 tiles))

    pub queue_mem : (t : ℕ) → t < tiles → candidate E O k t ≡ true → Memᴰ t (queue E O k p)
    unfolding queue
    queue_mem t h c =
        mem_perm t (Permᴰ.symm (sort_is_perm (by_key E p) _))
        (filter_mem (candidate E O k) (range_mem t 0 tiles (omega arith) (omega arith)) c)
