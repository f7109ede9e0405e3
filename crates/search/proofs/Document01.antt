-- Where the directory has no muted site, all is given that document 01 alone gives.
use Prim.Native.Nat.{ℕ, suc, ◌<◌, min}
use mathlib.Core.Bool.{Bool, true, not}
use mathlib.Core.List.{List, [], ◌∷◌, ◌++◌}
use mathlib.Core.Path.{◌≡◌, refl, ap, ◌∙◌}
use native.Mathlib.Nat.{sub-zero}
use native.Mathlib.Omega.{arith}
use lib.Dec.{leb}
use lib.ListN.{take}
use Rattle.base.proofs.Outcomes.{by_outcome}
use Rattle.base.proofs.Tests.{by_test}
use Rattle.search.specs.FullSearch.{first_of, fullSearch}
use Rattle.search.specs.Lists.{range, count, All}
use Rattle.search.specs.Order.{sort}
use Rattle.search.specs.Plan.{Geometry, Directory, Town, ranked}
use Rattle.search.specs.Pruning.{pruned, pruned_count}
use Rattle.search.specs.Run.{Reading, Checked, rank, listing, places_of, nearest, contents, opening}
use Rattle.search.specs.Run.{candidate, by_key, ahead, queue, enough, serve, run, join, padded, places_used, mark}
use Rattle.search.specs.Run.{marks}
use Rattle.search.specs.Document01.{geometry01, entries01, AllRank, LikeDocument01}
use Rattle.search.proofs.Lists.{all_append, all_map, filter_same, range_below}
use Rattle.search.proofs.Marks.{count_same}
use Rattle.search.proofs.Queue.{queue_tiles}
use Rattle.search.proofs.Run.{served, served_all}
use Rattle.search.proofs.SameEntries.{total-same, map_same}

-- none that does not rank: all rank
none_muted : {A : Type 0} (p : A → Bool) (l : List A) → count (λ a. not (p a)) l ≡ 0 → All (λ a. p a ≡ true) l
unfolding count
none_muted p [] e = tt
none_muted p (x ∷ l) e =
    by_test (p x)
    (λ t. (t, none_muted p l (omega (arith, rw t at e))))
    (λ t. absurd (omega (arith, rw t at e)))

-- ---- lists of places

module _ (G : Geometry) (p : G.Stop) where
  listing_like_01 : (a : ℕ) (f : List G.Site) → AllRank G f → listing G p a f ≡ listing (geometry01 G) p a f
  unfolding listing
  listing_like_01 a [] h = refl
  listing_like_01 a (s ∷ f) h = rw (h.0, listing_like_01 (suc a) f h.1)

  -- of towns that agree on some tiles, where all sites rank
  places_like_01 : (g h : Town G) (ts : List ℕ) → All (λ t. (g t ≡ h t) × AllRank G (g t)) ts
      → places_of G p g ts ≡ places_of (geometry01 G) p h ts
  unfolding places_of
  places_like_01 g h [] e = refl
  places_like_01 g h (t ∷ ts) e =
      rw (listing_like_01 _ (g t) e.0.1, e.0.0, places_like_01 g h ts e.1)

module _ {G : Geometry} (E : Directory G) where
  open G use {Stop, Site}
  open E use {tiles}

  abbrev F : Directory (geometry01 G)
  F = entries01 E

  each : (P : ℕ → Type 0) → ((t : ℕ) → t < tiles → P t) → All P (range 0 tiles)
  each P f = all_map (range 0 tiles) f (range_below 0 tiles tiles (omega arith))

  search_like_01 : (k : ℕ) (p : Stop) (g : Town G) → ((t : ℕ) → t < tiles → AllRank G (g t))
      → fullSearch E k p g ≡ fullSearch F k p g
  unfolding fullSearch first_of nearest
  search_like_01 k p g h =
      ap (λ l. padded k (take k (sort rank l)))
      (places_like_01 G p g g (range 0 tiles) (each _ (λ t l. (refl, h t l))))

  module _ (none : (t : ℕ) → t < tiles → E.muted t ≡ 0) where
    all_rank : (t : ℕ) → t < tiles → ranked E t ≡ E.size t
    unfolding ranked
    all_rank t l = rw (none t l) (sub-zero _)

    ranked-like-01 : (t : ℕ) → t < tiles → ranked E t ≡ ranked F t
    unfolding ranked
    ranked-like-01 t l = rw (none t l)

    used-like-01 : (k : ℕ) → places_used E k ≡ places_used F k
    unfolding places_used
    used-like-01 k = ap (min k) (total-same _ _ _ _ (range 0 tiles) (each _ (λ t h. (refl, ranked-like-01 t h))))

    module _ (O : G.Box) (k : ℕ) where
      pruned-like-01 : (b : ℕ) → pruned E O k b ≡ pruned F O k b
      unfolding pruned
      pruned-like-01 b =
          ap (leb k) (total-same _ _ _ _ (range 0 tiles) (each _ (λ e l. (refl, ranked-like-01 e l))))

      pruned-count-like-01 : pruned_count E O k ≡ pruned_count F O k
      unfolding pruned_count
      pruned-count-like-01 = count_same _ _ (range 0 tiles) (each _ (λ t l. pruned-like-01 t))

      marks-like-01 : (opened : List ℕ) → marks E O k opened ≡ marks F O k opened
      unfolding marks mark
      marks-like-01 opened = map_same _ _ (range 0 tiles) (each _ (λ t l. rw (pruned-like-01 t)))

      -- ---- the run

      queue-like-01 : (p : Stop) → queue E O k p ≡ queue F O k p
      unfolding queue candidate by_key
      queue-like-01 p =
          ap (sort (by_key E p)) (filter_same _ _ (range 0 tiles)
          (each _ (λ t l. rw (pruned-like-01 t, ranked-like-01 t l))))

      module _ (read : Reading G) (checked : Checked E read) where
        -- what was opened has sites that rank only
        opened-like-01 : (t : ℕ) → t < tiles
            → (contents G read t ≡ contents (geometry01 G) read t) × AllRank G (contents G read t)
        unfolding contents
        opened-like-01 t l = by_outcome (read t)
            (λ f e. rw e (refl, none_muted G.ranks f ((checked t f l e).muted_counted ∙ none t l)))
            (λ n b e. rw e (refl, tt))

        found : (p : Stop) (opened : List ℕ) → All (λ t. t < tiles) opened
            → places_of G p (contents G read) opened ≡ places_of (geometry01 G) p (contents (geometry01 G) read) opened
        found p opened h =
            places_like_01 G p (contents G read) (contents (geometry01 G) read) opened (all_map opened opened-like-01 h)

        serve-like-01 : (p : Stop) (ts opened : List ℕ) → All (λ t. t < tiles) ts → All (λ t. t < tiles) opened
            → serve E k read p ts opened ≡ serve F k read p ts opened
        unfolding serve nearest enough ahead opening
        serve-like-01 p [] opened h o = rw (found p opened o)
        serve-like-01 p (t ∷ ts) opened h o =
            rw (
              found p opened o,
              serve-like-01 p ts opened h.1 o,
              serve-like-01 p ts (opened ++ t ∷ []) h.1 (all_append _ opened (t ∷ []) o (h.0, tt)),
            )

        run_like_01 : (ps : List Stop) (opened : List ℕ) → All (λ t. t < tiles) opened
            → run E k (queue E O k) read ps opened ≡ run F k (queue F O k) read ps opened
        unfolding run
        run_like_01 [] opened o = refl
        run_like_01 (p ∷ ps) opened o =
            let q = queue E O k p in
            let s = serve-like-01 p q opened (queue_tiles E O k p) o in
            let l = served_all E k read (λ t. t < tiles) (served E k read p q opened) (queue_tiles E O k p) o in
            rw (← queue-like-01 p, ← s, run_like_01 ps (serve E k read p q opened).openings l)

      pub like_document_01 : LikeDocument01 E O k
      unfolding join
      like_document_01 = record {
        all_rank = all_rank;
        used = used-like-01 k;
        pruned_alike = λ t l. pruned-like-01 t;
        pruned_number = pruned-count-like-01;
        marked = marks-like-01;
        searched = search_like_01 k;
        ran = λ read checked ps. run_like_01 read checked ps [] tt;
      }
