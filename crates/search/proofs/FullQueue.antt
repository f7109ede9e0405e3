-- Pruning changes no run: a stop that came to a pruned tile would end there, since k sites of the tiles closer than it
-- are ahead of its key, and of every later key.
use Prim.Native.Nat.{ℕ, ◌/◌, ◌≤◌, ◌<◌}
use mathlib.Core.Bool.{Bool, true, false, not}
use mathlib.Core.List.Permᴰ
use mathlib.Core.List.{List, [], ◌∷◌, ◌++◌}
use mathlib.Core.Path.{◌≡◌, refl, sym, ap, ◌∙◌}
use native.Mathlib.Omega.{arith}
use lib.Dec.{ltb}
use borrow.Author.Tests.{le-leb}
use Rattle.base.specs.Refusal.{accepted}
use Rattle.base.proofs.Outcomes.{by_outcome}
use Rattle.base.proofs.Tests.{by_test}
use Rattle.search.specs.Inner.Cut.{Sorted}
use Rattle.search.specs.Lists.{range, count, filter, member, All}
use Rattle.search.specs.Order.{sort}
use Rattle.search.specs.Plan.{Geometry, Directory, Lawful, slots, near, ranked, Town, Agrees}
use Rattle.search.specs.Pruning.{pruned}
use Rattle.search.specs.Run.{Reading, Place, Checked, places_of, contents, candidate, by_key, queue}
use Rattle.search.specs.Run.{full_queue, ahead, ahead_of, enough, answer, opening, serve, follow, run, join}
use Rattle.search.proofs.Answered.{filling_for}
use Rattle.search.proofs.Equation.{Open, extra, open_perm, more_passed, new_passed, new_open, pass_one}
use Rattle.search.proofs.Equation.{still_open}
use Rattle.search.proofs.Lists.{all_map, all_any, all_right, count-append, count_le, count_none, count_perm}
use Rattle.search.proofs.Lists.{all_perm, filter-all, filter-filter}
use Rattle.search.proofs.Pairs.{lex_less, lex_trans}
use Rattle.search.proofs.Places.{by_key_order, places_of_append, places_of_perm, places_of_same, Known, later_none}
use Rattle.search.proofs.Pruning.{tiles_below, closer_than}
use Rattle.search.proofs.Queue.{queue_tiles}
use Rattle.search.proofs.Run.{contents_accepted, enoughFor}
use Rattle.search.proofs.Sort.{sort_is_perm, sort_sorted, sort-filter, order_irrefl}
use Rattle.search.proofs.Sound.{agrees_filled, pruned_passes}

module _ {G : Geometry} (E : Directory G) (O : G.Box) (k : ℕ) where
  open G use {Site, Stop, Within}
  open E use {tiles}

  abbrev free : ℕ → Bool
  free t = not (pruned E O k t)

  -- the queue is what is left of all tiles that are not empty
  full_free : (p : Stop) → filter free (full_queue E p) ≡ queue E O k p
  unfolding full_queue queue candidate
  full_free p =
      sort-filter (by_key E p) (by_key_order E p) free (filter (λ t. ltb 0 (ranked E t)) (range 0 tiles))
      ∙ ap (sort (by_key E p)) (filter-filter free (λ t. ltb 0 (ranked E t)) (range 0 tiles))

  full_sorted : (p : Stop) → Sorted (by_key E p) (full_queue E p)
  unfolding full_queue
  full_sorted p = sort_sorted (by_key E p) (by_key_order E p) (filter (λ t. ltb 0 (ranked E t)) (range 0 tiles))

  full_tiles : (p : Stop) → All (λ t. t < tiles) (full_queue E p)
  unfolding full_queue
  full_tiles p =
      all_perm (λ t. t < tiles) (Permᴰ.symm (sort_is_perm (by_key E p) _))
      (filter-all (λ t. t < tiles) (λ t. ltb 0 (ranked E t)) (range 0 tiles) (tiles_below E))

  module _ (L : Lawful E O) (read : Reading G) (checked : Checked E read) where
    abbrev PassedOpen : List ℕ → List ℕ → Type 0
    PassedOpen opened pre = All (λ t. member t opened ≡ true) pre

    module _ (p : Stop) (home : Within O p) where
      -- a place of a tile closer than b is ahead of b's key
      closer-ahead : (g : Town G) (b t : ℕ) (x : Place) → b < tiles → t < tiles → closer_than E O k b t ≡ true
          → Known E p g t x → ahead E p b x ≡ true
      unfolding ahead ahead_of
      closer-ahead g b t x hb ht m j =
          let q = L.min_dist_reached p b 0 home hb in
          let d = L.closer_less p t b j.at q.0 home ht hb m j.at_inside q.1 in
          lex_less (x.site / slots) b (omega (arith, j.at_dist, q.2))

      -- what is ahead of a key is ahead of a later one
      later-ahead : (b u : ℕ) (l : List Place) → by_key E p u b ≡ false → count (ahead E p b) l ≤ count (ahead E p u) l
      unfolding ahead ahead_of by_key
      later-ahead b u l f = count_le (ahead E p b) (ahead E p u) l
          (all_any _ l (λ x e. lex_trans x.dist (x.site / slots) (near E p b) b (near E p u) u e f))

      -- k sites of open tiles are ahead of the key of a pruned tile, where the tiles passed are open and all that wait
      -- come later
      pruned-ahead : (pre ts opened : List ℕ) → queue E O k p ≡ pre ++ ts → Open E O k L read checked opened
          → PassedOpen opened pre → (b : ℕ) → b < tiles → pruned E O k b ≡ true → All (λ u. by_key E p u b ≡ false) ts
          → k ≤ count (ahead E p b) (places_of G p (contents G read) opened)
      pruned-ahead pre ts opened e o h b hb s late =
          let fill = filling_for L k read checked p home in
          let g : Town G = λ t. (fill t).0 in
          let ag : Agrees E g = λ t ht. (fill t).1 ht in
          let r = ahead E p b in
          let x = extra E O k L read checked p pre ts opened e o h in
          let same = places_of_same E p (contents G read) g opened
          (all_map opened (λ t a. contents_accepted E k read t a.0 a.1 ∙ (fill t).2 a.0 a.1) o.good) in
          let all = pruned_passes E O k L p home g ag r b hb s (λ t y ht m j. closer-ahead g b t y hb ht m j) in
          let split = ap (λ l. count r (places_of G p g l)) e ∙ ap (count r) (places_of_append E p g pre ts)
          ∙ count-append r (places_of G p g pre) (places_of G p g ts) in
          let wait = count_none r (places_of G p g ts) (later_none E L p home g b ts
          (agrees_filled E g ag ts (all_right _ pre ts (rw e at (queue_tiles E O k p)))) late) in
          let found = count_perm r (places_of_perm E p g (open_perm E O k L read checked p pre ts opened e o h))
          ∙ ap (count r) (places_of_append E p g pre x)
          ∙ count-append r (places_of G p g pre) (places_of G p g x) in
          rw same (omega arith)

      -- a stop ends where k sites are ahead of the key of a tile that comes before all that wait
      ends-before : (b : ℕ) (ts opened : List ℕ) → All (λ u. by_key E p u b ≡ false) ts
          → k ≤ count (ahead E p b) (places_of G p (contents G read) opened)
          → serve E k read p ts opened ≡ answer E k read p opened
      unfolding serve enough
      ends-before b [] opened late n = refl
      ends-before b (u ∷ ts) opened late n =
          let found = places_of G p (contents G read) opened in
          let m = later-ahead b u found late.0 in
          rw (le-leb k (count (ahead E p u) found) (omega arith))

      -- a tile before two rests that are served alike
      serve-cons : (t : ℕ) (ts us opened : List ℕ)
          → (member t opened ≡ true → serve E k read p ts opened ≡ serve E k read p us opened)
          → ((f : List Site) → member t opened ≡ false → read t ≡ accepted f
          → serve E k read p ts (opened ++ t ∷ []) ≡ serve E k read p us (opened ++ t ∷ []))
          → serve E k read p (t ∷ ts) opened ≡ serve E k read p (t ∷ us) opened
      unfolding serve opening
      serve-cons t ts us opened old new = by_test (enoughFor E k read p t opened)
          (λ n. rw n)
          (λ n. by_test (member t opened)
          (λ m. rw (n, m) (old m))
          (λ m. by_outcome (read t) (λ f a. rw (n, m, a) (new f m a)) (λ x b a. rw (n, m, a))))

      -- the tiles that wait, with the pruned ones and without
      serve-alike : (pre ts opened : List ℕ) → queue E O k p ≡ pre ++ filter free ts → Sorted (by_key E p) ts
          → All (λ t. t < tiles) ts → Open E O k L read checked opened → PassedOpen opened pre
          → serve E k read p ts opened ≡ serve E k read p (filter free ts) opened
      unfolding filter
      serve-alike pre [] opened e s b o h = refl
      serve-alike pre (t ∷ ts) opened e s b o h = by_test (pruned E O k t)
          (λ c.
          let late = filter-all (λ u. by_key E p u t ≡ false) free ts s.0 in
          let n = pruned-ahead pre (filter free ts) opened (rw c at e) o h t b.0 c late in
          rw c (ends-before t (t ∷ ts) opened (order_irrefl (by_key E p) (by_key_order E p) t, s.0) n
          ∙ sym (ends-before t (filter free ts) opened late n)))
          (λ c.
          let i : queue E O k p ≡ pre ++ t ∷ filter free ts = rw c at e in
          let next = pass_one E O k L read checked pre t (filter free ts) (queue E O k p) i in
          rw c (serve-cons t ts (filter free ts) opened
          (λ m. serve-alike (pre ++ t ∷ []) ts opened next s.1 b.1 o
          (more_passed E O k L read checked t pre opened h m))
          (λ f m a. serve-alike (pre ++ t ∷ []) ts (opened ++ t ∷ []) next s.1 b.1
          (new_open E O k L read checked p pre t (filter free ts) opened f i o m a)
          (new_passed E O k L read checked t pre opened h))))

    -- all stops
    run-alike : (ps : List Stop) → All (Within O) ps → (opened : List ℕ) → Open E O k L read checked opened
        → run E k (full_queue E) read ps opened ≡ run E k (queue E O k) read ps opened
    unfolding run follow
    run-alike [] hs opened o = refl
    run-alike (p ∷ ps) hs opened o =
        let e = serve-alike p hs.0 [] (full_queue E p) opened (sym (full_free p))
        (full_sorted p) (full_tiles p) o tt in
        rw (e, full_free p) (by_outcome (serve E k read p (queue E O k p) opened).outcome
        (λ l i.
        let u = still_open E O k L read checked p opened l i o in
        rw (i, run-alike ps hs.1 (serve E k read p (queue E O k p) opened).openings u))
        (λ n b i. rw i))

    -- The run over all tiles that are not empty is the join.
    pub full_alike : (ps : List Stop) → All (Within O) ps → run E k (full_queue E) read ps [] ≡ join E O k read ps
    unfolding join
    full_alike ps hs = run-alike ps hs [] (record { once = tt; chosen = tt; good = tt })
