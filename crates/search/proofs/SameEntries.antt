-- Two directories with the same entries below T prune and run alike: what one holds past T counts for nothing.
use Prim.Native.Nat.{ℕ, ◌<◌, min}
use mathlib.Core.Bool.{Bool}
use mathlib.Core.List.Permᴰ
use mathlib.Core.List.{List, [], ◌∷◌, ◌++◌, map}
use mathlib.Core.Path.{◌≡◌, refl, ap, ◌∙◌}
use native.Mathlib.Omega.{arith}
use lib.Dec.{leb}
use Rattle.search.specs.Lists.{range, count, total, All}
use Rattle.search.specs.Order.{lex, insert, sort}
use Rattle.search.specs.Plan.{Geometry, Directory, near, ranked}
use Rattle.search.specs.Pruning.{pruned, pruned_count}
use Rattle.search.specs.Run.{Reading, Place, ahead_of, places_of, candidate, candidates, by_key, queue, ahead}
use Rattle.search.specs.Run.{enough}
use Rattle.search.specs.Run.{contents, serve, run, join, places_used, mark, marks}
use Rattle.search.proofs.Lists.{all_map, all_perm, filter-all, filter_same, range_below}
use Rattle.search.proofs.Marks.{count_same}
use Rattle.search.proofs.Queue.{queue_tiles}
use Rattle.search.proofs.Sort.{sort_is_perm}

-- ---- words for lists, of functions that agree on the elements

pub total-same : {A : Type 0} (p q : A → Bool) (w v : A → ℕ) (l : List A) → All (λ a. (p a ≡ q a) × (w a ≡ v a)) l
    → total p w l ≡ total q v l
unfolding total
total-same p q w v [] h = refl
total-same p q w v (x ∷ l) h = rw (h.0.0, h.0.1, total-same p q w v l h.1)

pub map_same : {A B : Type 0} (f g : A → B) (l : List A) → All (λ a. f a ≡ g a) l → map f l ≡ map g l
map_same f g [] h = refl
map_same f g (x ∷ l) h = rw (h.0, map_same f g l h.1)

module _ {A : Type 0} (lt mt : A → A → Bool) (P : A → Type 0) (same : (a b : A) → P a → P b → lt a b ≡ mt a b) where
  insert-same : (x : A) (l : List A) → P x → All P l → insert lt x l ≡ insert mt x l
  unfolding insert
  insert-same x [] h g = refl
  insert-same x (y ∷ l) h g = rw (same y x g.0 h, insert-same x l h g.1)

  sort-same : (l : List A) → All P l → sort lt l ≡ sort mt l
  unfolding sort
  sort-same [] h = refl
  sort-same (x ∷ l) h =
      rw (sort-same l h.1) (insert-same x (sort mt l) h.0 (all_perm P (Permᴰ.symm (sort_is_perm mt l)) h.1))

-- ---- the directory with other entries

module _ {G : Geometry} (E : Directory G) (box' : ℕ → G.Box) (size' muted' : ℕ → ℕ)
    (same : (t : ℕ) → t < E.tiles → (box' t ≡ E.box t) × (size' t ≡ E.size t) × (muted' t ≡ E.muted t)) where
  open G use {Stop}
  open E use {tiles}

  abbrev F : Directory G
  F = record { tiles = tiles; box = box'; size = size'; muted = muted' }

  same_ranked : (t : ℕ) → t < tiles → ranked F t ≡ ranked E t
  unfolding ranked
  same_ranked t h = rw ((same t h).1, (same t h).2)

  -- what holds of every tile, of the list of all tiles
  each : (P : ℕ → Type 0) → ((t : ℕ) → t < tiles → P t) → All P (range 0 tiles)
  each P f = all_map (range 0 tiles) f (range_below 0 tiles tiles (omega arith))

  pub same_used : (k : ℕ) → places_used F k ≡ places_used E k
  unfolding places_used
  same_used k = ap (min k) (total-same _ _ _ _ (range 0 tiles) (each _ (λ t h. (refl, same_ranked t h))))

  module _ (O : G.Box) (k : ℕ) where
    pub same_pruned : (b : ℕ) → b < tiles → pruned F O k b ≡ pruned E O k b
    unfolding pruned
    same_pruned b h = ap (leb k) (total-same _ _ _ _ (range 0 tiles)
        (each _ (λ e l. (rw ((same e l).0, (same b h).0), same_ranked e l))))

    pub same_pruned_count : pruned_count F O k ≡ pruned_count E O k
    unfolding pruned_count
    same_pruned_count = count_same _ _ (range 0 tiles) (each _ same_pruned)

    pub same_marks : (opened : List ℕ) → marks F O k opened ≡ marks E O k opened
    unfolding marks mark
    same_marks opened = map_same _ _ (range 0 tiles) (each _ (λ t h. rw (same_pruned t h)))

    -- ---- the run

    same-candidate : (t : ℕ) → t < tiles → candidate F O k t ≡ candidate E O k t
    unfolding candidate
    same-candidate t h = rw (same_pruned t h, same_ranked t h)

    same_key : (p : Stop) (t u : ℕ) → t < tiles → u < tiles → by_key F p t u ≡ by_key E p t u
    unfolding by_key
    same_key p t u h g =
        ap (λ (b : G.Box). lex (G.min_dist p b) t (near F p u) u) (same t h).0
        ∙ ap (λ (b : G.Box). lex (near E p t) t (G.min_dist p b) u) (same u g).0

    same_queue : (p : Stop) → queue F O k p ≡ queue E O k p
    unfolding queue
    same_queue p =
        ap (sort (by_key F p)) (filter_same _ _ (range 0 tiles) (each _ same-candidate))
        ∙ sort-same (by_key F p) (by_key E p) (λ t. t < tiles) (same_key p)
        (candidates E O k) (filter-all (λ t. t < tiles) (candidate E O k) (range 0 tiles) (each _ (λ t h. h)))

    same-enough : (p : Stop) (t : ℕ) (found : List Place) → t < tiles → enough F k p t found ≡ enough E k p t found
    unfolding enough ahead
    same-enough p t found h =
        ap (λ (b : G.Box). leb k (count (λ a. ahead_of a (G.min_dist p b) t) found)) (same t h).0

    module _ (read : Reading G) where
      same-serve : (p : Stop) (ts opened : List ℕ) → All (λ t. t < tiles) ts
          → serve F k read p ts opened ≡ serve E k read p ts opened
      unfolding serve
      same-serve p [] opened h = refl
      same-serve p (t ∷ ts) opened h =
          rw (
            same-enough p t (places_of G p (contents G read) opened) h.0,
            same-serve p ts opened h.1,
            same-serve p ts (opened ++ t ∷ []) h.1,
          )

      same_run : (ps : List Stop) (opened : List ℕ)
          → run F k (queue F O k) read ps opened ≡ run E k (queue E O k) read ps opened
      unfolding run
      same_run [] opened = refl
      same_run (p ∷ ps) opened =
          rw (same_queue p, same-serve p (queue E O k p) opened (queue_tiles E O k p), same_run ps)

      pub same-join : (ps : List Stop) → join F O k read ps ≡ join E O k read ps
      unfolding join
      same-join ps = same_run ps []
