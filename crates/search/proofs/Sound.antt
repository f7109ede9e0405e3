-- In a town that agrees with the directory, the tiles that a stop's walk takes decide the first k sites of the town.
use Prim.Native.Nat.{ℕ, ◌≤◌, ◌<◌}
use mathlib.Core.Bool.{Bool, true, false, not}
use mathlib.Core.List.{List, [], ◌∷◌, ◌++◌, Permᴰ}
use mathlib.Core.Path.{◌≡◌, refl, sym, ◌∙◌}
use native.Mathlib.Omega.{arith}
use lib.Dec.{ltb}
use lib.ListN.{length}
use borrow.Author.Tests.{ltb-false}
use Rattle.base.proofs.Tests.{clash, by_test}
use Rattle.search.specs.FullSearch.{first_of}
use Rattle.search.specs.Inner.Cut.{Sorted}
use Rattle.search.specs.Lists.{range, count, total, filter, All}
use Rattle.search.specs.Order.{sort}
use Rattle.search.specs.Plan.{Geometry, Directory, Lawful, ranked, Town, Agrees}
use Rattle.search.specs.Pruning.{pruned}
use Rattle.search.specs.Run.{tile_places, Place, rank, places_of, nearest, candidate, by_key, queue}
use Rattle.search.proofs.Lists.{all_map, all_both, all_empty, all_right, count-append, count-all, count_perm}
use Rattle.search.proofs.Lists.{filter-all, filter_passes, filter_split}
use Rattle.search.proofs.Pairs.{lex_less}
use Rattle.search.proofs.Places.{by_key_order, places_of_perm, places_of_all, Filled, tile_length, Known, known}
use Rattle.search.proofs.Places.{later_behind, nearest_front}
use Rattle.search.proofs.Pruning.{all_tiles, tiles_below, closer_than, free_closer, pruned_by_free}
use Rattle.search.proofs.Queue.{queue_tiles, queue_sorted}
use Rattle.search.proofs.Sort.{sort_is_perm, sorted_right, order_irrefl}
use Rattle.search.proofs.Walk.{Enough, Walked}

module _ {G : Geometry} (E : Directory G) where
  open E use {tiles}

  pub agrees_filled : (g : Town G) → Agrees E g → (ts : List ℕ) → All (λ t. t < tiles) ts → All (Filled E g) ts
  agrees_filled g ag ts h = all_map ts (λ t ht. (ht, ag t ht)) h

module _ {G : Geometry} (E : Directory G) (O : G.Box) (k : ℕ) where
  open G use {Stop, Within}
  open E use {tiles}

  -- the tiles that no walk takes: pruned or empty
  unfoldable pub others : List ℕ
  others = filter (λ t. not (candidate E O k t)) (range 0 tiles)

  others_tiles : All (λ t. t < tiles) others
  unfolding others
  others_tiles = filter-all (λ t. t < tiles) (λ t. not (candidate E O k t)) (range 0 tiles) (tiles_below E)

  others_not : All (λ t. not (candidate E O k t) ≡ true) others
  unfolding others
  others_not = filter_passes (λ t. not (candidate E O k t)) (range 0 tiles)

  pub tiles_perm : (p : Stop) → Permᴰ (range 0 tiles) (queue E O k p ++ others)
  unfolding others queue
  tiles_perm p = mathlib.Core.List.Permᴰ.trans (filter_split (candidate E O k) (range 0 tiles))
      (mathlib.Core.List.Permᴰ.trans (mathlib.Core.List.Permᴰ.append_left others
      (mathlib.Core.List.Permᴰ.symm (sort_is_perm (by_key E p) (filter (candidate E O k) (range 0 tiles)))))
      (mathlib.Core.List.Permᴰ.append_comm others (sort (by_key E p) (filter (candidate E O k) (range 0 tiles)))))

  module _ (L : Lawful E O) (p : Stop) (home : Within O p) (g : Town G) (ag : Agrees E g) where
    -- the unpruned tiles closer than b hold their counts of places that pass a test
    total-count : (r : Place → Bool) (b : ℕ) (l : List ℕ) → All (λ t. t < tiles) l
        → ((t : ℕ) → t < tiles → closer_than E O k b t ≡ true → All (λ a. r a ≡ true) (tile_places G p t (g t)))
        → total (free_closer E O k b) (ranked E) l ≤ count r (places_of G p g (filter (candidate E O k) l))
    unfolding total filter places_of candidate
    total-count r b [] h f = omega arith
    total-count r b (t ∷ l) h f =
        let ih = total-count r b l h.1 f in
        by_test (pruned E O k t)
        (λ s. rw s (omega arith))
        (λ s. by_test (ltb 0 (ranked E t))
        (λ n.
        let here = tile_places G p t (g t) in
        let d = count-append r here (places_of G p g (filter (candidate E O k) l)) in
        by_test (closer_than E O k b t)
        (λ m. rw (s, n, m) (let c = count-all r here (f t h.0 m) in let e = tile_length E p g t (ag t h.0) in
        omega arith))
        (λ m. rw (s, n, m) (omega arith)))
        (λ n.
        let v = ltb-false 0 (ranked E t) n in
        by_test (closer_than E O k b t) (λ m. rw (s, n, m) (omega arith)) (λ m. rw (s, n, m) (omega arith))))

    closer-rank : (t b : ℕ) (x y : Place) → t < tiles → b < tiles → closer_than E O k b t ≡ true → Known E p g t x
        → Known E p g b y → rank x y ≡ true
    unfolding rank
    closer-rank t b x y ht hb m j i = lex_less x.site y.site
        (let d = L.closer_less p t b j.at i.at home ht hb m j.at_inside i.at_inside in
        omega (arith, j.at_dist, i.at_dist))

    -- a test that every place of the tiles closer than a pruned tile passes: k places of the queue's tiles pass it
    pub pruned_passes : (r : Place → Bool) (b : ℕ) → b < tiles → pruned E O k b ≡ true
        → ((t : ℕ) (x : Place) → t < tiles → closer_than E O k b t ≡ true → Known E p g t x → r x ≡ true)
        → k ≤ count r (places_of G p g (queue E O k p))
    unfolding queue
    pruned_passes r b hb s f =
        let w = pruned_by_free E O k L b hb s in
        let c = total-count r b (all_tiles E) (tiles_below E)
        (λ t ht m. all_map (tile_places G p t (g t)) (λ x j. f t x ht m j) (known E L p home g t (ht, ag t ht))) in
        let q = count_perm r (places_of_perm E p g
        (sort_is_perm (by_key E p) (filter (candidate E O k) (range 0 tiles)))) in
        omega arith

    -- a place of a pruned tile is behind k places of the queue's tiles
    pub pruned_behind : (b : ℕ) → b < tiles → pruned E O k b ≡ true → (y : Place) → Known E p g b y
        → k ≤ count (λ x. rank x y) (places_of G p g (queue E O k p))
    pruned_behind b hb s y i = pruned_passes (λ x. rank x y) b hb s (λ t x ht m j. closer-rank t b x y ht hb m j i)

    empty-tile : (t : ℕ) → t < tiles → pruned E O k t ≡ false → not (candidate E O k t) ≡ true
        → length (tile_places G p t (g t)) ≡ 0
    unfolding candidate
    empty-tile t ht s e = by_test (ltb 0 (ranked E t))
        (λ n. clash (rw (s, n) at e) refl)
        (λ n. let u = ltb-false 0 (ranked E t) n in let v = tile_length E p g t (ag t ht) in omega arith)

    -- so what holds of all places of pruned tiles holds of the places of all tiles that no walk takes
    pub others_places : (P : Place → Type 0) → ((b : ℕ) (y : Place) → b < tiles → pruned E O k b ≡ true
        → Known E p g b y → P y)
        → All P (places_of G p g others)
    others_places P f =
        let here : (t : ℕ) → t < tiles → not (candidate E O k t) ≡ true → All P (tile_places G p t (g t)) =
        λ t ht e. by_test (pruned E O k t)
        (λ s. all_map (tile_places G p t (g t)) (λ y i. f t y ht s i) (known E L p home g t (ht, ag t ht)))
        (λ s. all_empty P (tile_places G p t (g t)) (empty-tile t ht s e)) in
        places_of_all E P p g others (all_both (λ t. t < tiles)
        (λ t. not (candidate E O k t) ≡ true) _ others here others_tiles others_not)

    -- the tiles behind the end of a walk
    rest-behind : (rest : List ℕ) (l : List Place) → Sorted (by_key E p) rest → All (λ t. t < tiles) rest
        → Enough E k p rest l
        → All (λ y. k ≤ count (λ x. rank x y) l) (places_of G p g rest)
    unfolding places_of
    rest-behind [] l s h e = tt
    rest-behind (t ∷ ts) l s h e =
        later_behind E L p home g k t (t ∷ ts) l (agrees_filled E g ag (t ∷ ts) h)
        (order_irrefl (by_key E p) (by_key_order E p) t, s.0) e

    -- neither the pruned and the empty tiles nor those left unread change the first k
    pub walk_first : (w : Walked E k p g (queue E O k p) []) → nearest G k p g w.pre ≡ first_of E k p g
    unfolding first_of
    walk_first w =
        let all = agrees_filled E g ag (range 0 tiles) (tiles_below E) in
        let hq = agrees_filled E g ag (queue E O k p) (queue_tiles E O k p) in
        let ht = all_right _ w.pre w.rest (rw w.split at (queue_tiles E O k p)) in
        let sq = sorted_right (by_key E p) w.pre w.rest (rw w.split at (queue_sorted E O k p)) in
        let others-behind = others_places _ (λ b y hb s i. pruned_behind b hb s y i) in
        let unread-behind = rest-behind w.rest (places_of G p g w.pre) sq ht w.filled in
        let d : Permᴰ (queue E O k p) (w.pre ++ w.rest) = rw w.split (mathlib.Core.List.Permᴰ.refl (w.pre ++ w.rest)) in
        sym (nearest_front E L p home g k (range 0 tiles) (queue E O k p) others (tiles_perm p) all others-behind
        ∙ nearest_front E L p home g k (queue E O k p) w.pre w.rest d hq unread-behind)
