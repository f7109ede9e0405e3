-- A tile that a stop's walk asks for has another filling that changes the full search for that stop: fewer than k sites
-- of the town are ahead of its key, so a site at its least distance, with another cue, gets a place.
use Prim.Native.Nat.{ℕ, suc, ◌+◌, ◌*◌, ◌/◌, ◌%◌, ◌≤◌, ◌<◌}
use mathlib.Core.Bool.{true, false}
use mathlib.Core.List.{List, [], ◌∷◌, ◌++◌, append_assoc, append-nil, append_cancel_left, head-eq_of_cons-eq, Memᴰ}
use mathlib.Core.List.Memᴰ
use mathlib.Core.List.Permᴰ
use mathlib.Core.Logic.{inl, inr, ◌≢◌}
use mathlib.Core.Option.{some}
use mathlib.Core.Path.{◌≡◌, refl, sym, ap, ◌∙◌, subst}
use native.Mathlib.Nat.{add-zero}
use native.Mathlib.Omega.{arith}
use lib.Dec.{eqb}
use lib.ListN.{length, get_elem?, length-append}
use borrow.Author.Tests.{leb-false, eqb-true, eqb-false}
use Rattle.base.specs.Refusal.{accepted}
use Rattle.base.proofs.Tests.{by_test}
use Rattle.search.specs.FullSearch.{refill, first_of}
use Rattle.search.specs.Inner.Walk.{walk_by}
use Rattle.search.specs.Lists.{range, count, All}
use Rattle.search.specs.Order.{lex, sort}
use Rattle.search.specs.Plan.{Geometry, Directory, Lawful, slots, Town, Agrees}
use Rattle.search.specs.Run.{tile_places, Place, rank, ahead_of, listing, places_of, nearest, by_key, queue, ahead}
use Rattle.search.specs.Run.{enough}
use Rattle.search.proofs.Fillings.{another_site, ranked_count, refit, refill_here, refill_there, refill_agrees}
use Rattle.search.proofs.Lists.{all_map, all_any, all_both, all_right, all_take, all_mem, all_perm, count-append}
use Rattle.search.proofs.Lists.{count_le, count_none, count_perm, range_mem}
use Rattle.search.proofs.Pairs.{Ahead, lex-ahead, lex_less, lex-same, lex_not_less, lex_coarse}
use Rattle.search.proofs.Places.{rank_order, by_key_order, places_of_append, places_of_perm, Known, known}
use Rattle.search.proofs.Places.{listing_from, place_of, Own, own_tight, own_places, later_none}
use Rattle.search.proofs.Pruning.{tiles_below}
use Rattle.search.proofs.Queue.{queue_tiles, queue_sorted, Chosen, queue_chosen, candidate_some}
use Rattle.search.proofs.Sort.{sort_is_perm, sorted_right, order_irrefl, listed}
use Rattle.search.proofs.Sound.{agrees_filled, others, tiles_perm, pruned_behind, others_places}
use Rattle.search.proofs.Walk.{found_adds, walk, walk_ends, walk_opens, asked_all}

at_seam : {A : Type 0} (a : List A) (x : A) (b : List A) → get_elem? (a ++ x ∷ b) (length a) ≡ some x
at_seam [] x b = refl
at_seam (y ∷ a) x b = at_seam a x b

module _ {G : Geometry} (E : Directory G) (O : G.Box) (k : ℕ) where
  open G use {Site, Stop, cue, ranks, Inside, Within, D, min_dist}
  open E use {tiles, box}

  -- ---- a tile asked for: fewer than k places are ahead of its key

  -- where it stands in the queue: of what was found and of the tiles taken sooner
  record Short (p : Stop) (g : Town G) (ts : List ℕ) (found : List Place) (t : ℕ) : Type 0 where
    sooner : List ℕ
    later : List ℕ
    split : ts ≡ sooner ++ t ∷ later
    few : count (ahead E p t) (found ++ places_of G p g sooner) < k

  asked_short : (p : Stop) (g : Town G) (ts : List ℕ) (found : List Place) (t : ℕ)
      → Memᴰ t (walk E k (λ u. accepted (g u)) p ts found).asked → Short p g ts found t
  unfolding walk_by places_of enough
  asked_short p g [] found t m = elim m [ ]
  asked_short p g (w ∷ ts) found t m = by_test (enough E k p w found)
      (λ e. elim (rw (walk_ends (enough E k p) (found_adds E k p) (λ u. accepted (g u)) w ts found e) at m) [ ])
      (λ e. go e (rw (walk_opens (enough E k p) (found_adds E k p) (λ u. accepted (g u)) w ts found (g w) e refl) at m)
      (λ n. asked_short p g ts (found ++ here) t n))
    where
      here : List Place
      here = tile_places G p w (g w)

      go : enough E k p w found ≡ false → Memᴰ t (w ∷ (walk E k (λ u. accepted (g u)) p ts (found ++ here)).asked)
          → (Memᴰ t (walk E k (λ u. accepted (g u)) p ts (found ++ here)).asked → Short p g ts (found ++ here) t)
          → Short p g (w ∷ ts) found t
      go e (Memᴰ.head f) rec =
          record { sooner = []; later = ts; split = rw f; few = rw (append-nil found, f) (leb-false k _ e) }
      go e (Memᴰ.tail n) rec =
          let r = rec n in
          record {
            sooner = w ∷ r.sooner;
            later = r.later;
            split = ap (λ l. w ∷ l) r.split;
            few = rw (← (append_assoc found here (places_of G p g r.sooner))) r.few;
          }

  module _ (L : Lawful E O) (p : Stop) (home : Within O p) (g : Town G) (ag : Agrees E g) where
    short-queue : (t : ℕ) (u v : List ℕ) → queue E O k p ≡ u ++ t ∷ v → count (ahead E p t) (places_of G p g u) < k
        → count (ahead E p t) (places_of G p g (queue E O k p)) < k
    short-queue t u v e h =
        let hq = agrees_filled E g ag (t ∷ v) (all_right _ u (t ∷ v) (rw e at (queue_tiles E O k p))) in
        let sq = sorted_right (by_key E p) u (t ∷ v) (rw e at (queue_sorted E O k p)) in
        let i = order_irrefl (by_key E p) (by_key_order E p) t in
        let n = count_none (ahead E p t) (places_of G p g (t ∷ v)) (later_none E L p home g t (t ∷ v) hq (i, sq.0)) in
        let c = count-append (ahead E p t) (places_of G p g u) (places_of G p g (t ∷ v)) in
        rw (e, places_of_append E p g u (t ∷ v)) (omega arith)

    rank-ahead : (t : ℕ) (x y : Place) → ahead E p t y ≡ true → rank x y ≡ true → ahead E p t x ≡ true
    unfolding ahead ahead_of rank
    rank-ahead t x y e f = lex_coarse x.dist x.site y.dist y.site (min_dist p (box t)) t f e

    few-before : (t : ℕ) → count (ahead E p t) (places_of G p g (queue E O k p)) < k
        → (y : Place) → ahead E p t y ≡ true
        → count (λ x. rank x y) (places_of G p g (queue E O k p)) < k
    few-before t h y a =
        let here = places_of G p g (queue E O k p) in
        let c = count_le (λ x. rank x y) (ahead E p t) here (all_any _ here (λ x f. rank-ahead t x y a f)) in
        omega arith

    others-none : (t : ℕ) → count (ahead E p t) (places_of G p g (queue E O k p)) < k
        → All (λ y. ahead E p t y ≡ false) (places_of G p g (others E O k))
    others-none t h =
        others_places E O k L p home g ag (λ y. ahead E p t y ≡ false) (λ b y hb s i. by_test (ahead E p t y)
        (λ a. absurd (let l = few-before t h y a in let d = pruned_behind E O k L p home g ag b hb s y i in
        omega arith))
        (λ a. a))

    short-town : (t : ℕ) → count (ahead E p t) (places_of G p g (queue E O k p)) < k
        → count (ahead E p t) (places_of G p g (range 0 tiles)) < k
    short-town t h =
        let n = count_none (ahead E p t) (places_of G p g (others E O k)) (others-none t h) in
        let c = count_perm (ahead E p t) (places_of_perm E p g (tiles_perm E O k p)) in
        let a = count-append (ahead E p t) (places_of G p g (queue E O k p)) (places_of G p g (others E O k)) in
        let q = ap (count (ahead E p t)) (places_of_append E p g (queue E O k p) (others E O k)) in
        omega arith

  -- ---- the first site of a tile that ranks

  record First (l : List Site) : Type 0 where
    earlier : List Site
    it : Site
    later : List Site
    parts : l ≡ earlier ++ it ∷ later
    unranked : All (λ s. ranks s ≡ false) earlier
    ranking : ranks it ≡ true

  first : (l : List Site) → 0 < count ranks l → First l
  unfolding count
  first [] h = absurd (omega arith)
  first (s ∷ l) h = by_test (ranks s)
      (λ e. record { earlier = []; it = s; later = l; parts = refl; unranked = tt; ranking = e })
      (λ e.
      let r = first l (let g = rw e at h in omega arith) in
      record {
        earlier = s ∷ r.earlier;
        it = r.it;
        later = r.later;
        parts = ap (λ m. s ∷ m) r.parts;
        unranked = (e, r.unranked);
        ranking = r.ranking;
      })

  -- sites that do not rank take numbers and no places
  listing_unranked : (p : Stop) (a : ℕ) (f₀ f : List Site) → All (λ s. ranks s ≡ false) f₀
      → listing G p a (f₀ ++ f) ≡ listing G p (a + length f₀) f
  unfolding listing
  listing_unranked p a [] f h = rw (add-zero a)
  listing_unranked p a (s ∷ f₀) f h =
      let e : suc a + length f₀ ≡ a + suc (length f₀) = omega arith in
      rw (h.0, ← e) (listing_unranked p (suc a) f₀ f h.1)

  -- it has a place
  first_listed : (p : Stop) (g : Town G) (t : ℕ) (f₀ : List Site) (q : Site) (f : List Site) (ts : List ℕ)
      → g t ≡ f₀ ++ q ∷ f
      → All (λ s. ranks s ≡ false) f₀ → ranks q ≡ true → Memᴰ t ts
      → Memᴰ (record { dist = D p q; site = t * slots + length f₀; cue = cue q }) (places_of G p g ts)
  unfolding places_of listing
  first_listed p g t f₀ q f ts e h l (Memᴰ.head i) =
      rw (← i, e, listing_unranked p (t * slots) f₀ (q ∷ f) h, l) (Memᴰ.head refl)
  first_listed p g t f₀ q f ts e h l (Memᴰ.tail {x = w} {xs = us} m) =
      Memᴰ.append_right (tile_places G p w (g w)) (first_listed p g t f₀ q f us e h l m)

  -- a filling that changes the first k of a stop
  pub record Differs (p : Stop) (g : Town G) (t : ℕ) : Type 0 where
    pub filling : List Site
    pub another : filling ≡ g t → ⊥
    pub agrees : Agrees E (refill G g t filling)
    pub differs : first_of E k p (refill G g t filling) ≡ first_of E k p g → ⊥

  -- ---- another filling of such a tile

  module _ (L : Lawful E O) (p : Stop) (home : Within O p) (g : Town G) (ag : Agrees E g) (t : ℕ)
      (ht : t < tiles) (b : First (g t))
      (short : count (ahead E p t) (places_of G p g (range 0 tiles)) < k) where
    slot : ℕ
    slot = length b.earlier

    other : (q : Site) × Inside (box t) q × (D p q ≡ min_dist p (box t)) × (cue q ≡ cue b.it → ⊥) × (ranks q ≡ true)
    other = another_site E L p home t ht (cue b.it)

    q : Site
    q = other.0

    fresh : List Site
    fresh = b.earlier ++ q ∷ b.later

    g' : Town G
    g' = refill G g t fresh

    slot_small : slot < slots
    unfolding slot
    slot_small =
        let a = (ag t ht).counted in
        let c = ap length b.parts in
        let d = length-append b.earlier (b.it ∷ b.later) in
        let e = L.size_small t ht in
        omega arith

    ag' : Agrees E g'
    unfolding g' fresh q
    ag' =
        refill_agrees E g t fresh ag
        (refit E t b.earlier b.later b.it q (rw b.parts at (ag t ht)) b.ranking
        other.4 other.1)

    -- the place that it has now
    now : Place
    now = record { dist = D p q; site = t * slots + slot; cue = cue q }

    here-none : All (λ x. rank x now ≡ false) (tile_places G p t (g' t))
    unfolding g' now rank fresh slot q
    here-none = all_both (λ x. t * slots + length b.earlier ≤ x.site) (Known E p g' t) _ (tile_places G p t (g' t))
        (λ x i j. lex_not_less (rw other.2 j.least) i)
        (rw (refill_here E g t fresh, listing_unranked p (t * slots) b.earlier (q ∷ b.later) b.unranked)
        (listing_from E p (t * slots + length b.earlier) (q ∷ b.later)))
        (known E L p home g' t (ht, ag' t ht))

    there-ahead : (u : ℕ) (x : Place) → eqb u t ≡ false → Known E p g u x → rank x now ≡ true → ahead E p t x ≡ true
    unfolding rank ahead ahead_of now q
    there-ahead u x e i h = go (lex-ahead x.dist x.site (D p q) (t * slots + slot) h)
      where
        go : Ahead x.dist x.site (D p q) (t * slots + slot)
            → lex x.dist (x.site / slots) (min_dist p (box t)) t ≡ true
        go (inl h) = rw (← other.2) (lex_less (x.site / slots) t h)
        go (inr h) = rw (← other.2) (lex-same h.0
            (let v = i.tile in let d : u ≢ t = eqb-false u t e in let c = slot_small in omega arith))

    -- in the new town no more places rank before it than were ahead of the key
    few-here : (u : ℕ) → u < tiles → count (λ x. rank x now) (tile_places G p u (g' u)) ≤ count (ahead E p t)
        (tile_places G p u (g u))
    unfolding g'
    few-here u hu =
        let same : eqb u t ≡ false
        → All (λ x. rank x now ≡ true → ahead E p t x ≡ true) (tile_places G p u (g u)) = λ e.
        all_map (tile_places G p u (g u)) (λ x i. there-ahead u x e i) (known E L p home g u (hu, ag u hu)) in
        by_test (eqb u t)
        (λ e. rw (eqb-true u t e) (let n = count_none (λ x. rank x now) (tile_places G p t (g' t)) here-none in
        omega arith))
        (λ e. rw (refill_there E g t fresh u e) (count_le (λ x. rank x now) (ahead E p t) (tile_places G p u (g u))
        (same e)))

    few : (ts : List ℕ) → All (λ u. u < tiles) ts
        → count (λ x. rank x now) (places_of G p g' ts) ≤ count (ahead E p t) (places_of G p g ts)
    unfolding places_of count
    few [] h = omega arith
    few (u ∷ ts) h =
        let ih = few ts h.1 in
        let a = count-append (λ x. rank x now) (tile_places G p u (g' u)) (places_of G p g' ts) in
        let d = count-append (ahead E p t) (tile_places G p u (g u)) (places_of G p g ts) in
        let c = few-here u h.0 in
        omega arith

    now-listed : Memᴰ now (first_of E k p g')
    unfolding first_of nearest now g' fresh slot q
    now-listed = listed rank rank_order (Own E p g') (own_tight E p g') k now (places_of G p g' (range 0 tiles))
        (own_places E L p home g' (range 0 tiles) (agrees_filled E g' ag' (range 0 tiles) (tiles_below E)))
        (first_listed p g' t b.earlier q b.later (range 0 tiles) (refill_here E g t fresh) b.unranked
        other.4
        (range_mem t 0 tiles (omega arith) (omega arith)))
        (let c = few (range 0 tiles) (tiles_below E) in omega arith)

    -- in the town as it was, the place of that number has another cue
    now-new : Memᴰ now (first_of E k p g) → ⊥
    unfolding first_of nearest now Own place_of slot q
    now-new m =
        let l = places_of G p g (range 0 tiles) in
        let h = all_take (Own E p g) k (sort rank l)
        (all_perm (Own E p g) (Permᴰ.symm (sort_is_perm rank l))
        (own_places E L p home g (range 0 tiles) (agrees_filled E g ag (range 0 tiles) (tiles_below E)))) in
        let e : place_of E p g (t * slots + slot) ≡ some now = all_mem (Own E p g) h m in
        let c = slot_small in
        let d : (t * slots + slot) / slots ≡ t = omega arith in
        let r : (t * slots + slot) % slots ≡ slot = omega arith in
        let w : get_elem? (g t) slot ≡ some b.it = rw b.parts (at_seam b.earlier b.it b.later) in
        let v : some (record { dist = D p b.it; site = t * slots + slot; cue = cue b.it }) ≡ some now =
        rw (d, r, w) at e in
        let u : record { dist = D p b.it; site = t * slots + slot; cue = cue b.it } ≡ now = cc in
        other.3 (sym (ap (λ (a : Place). a.cue) u))

    changed : Differs p g t
    unfolding g' fresh q
    changed = record {
      filling = fresh;
      another = λ e. other.3 (ap cue (head-eq_of_cons-eq
          (append_cancel_left b.earlier (q ∷ b.later) (b.it ∷ b.later) (e ∙ b.parts))));
      agrees = ag';
      differs = λ e. now-new (subst (λ l. Memᴰ now l) e now-listed);
    }

  -- A tile that the walk asks for has such a filling.
  pub asked_differs : (L : Lawful E O) (p : Stop) → Within O p → (g : Town G) → Agrees E g → (t : ℕ)
      → Memᴰ t (walk E k (λ u. accepted (g u)) p (queue E O k p) []).asked → Differs p g t
  asked_differs L p home g ag t m =
      let a = asked_short p g (queue E O k p) [] t m in
      let short = short-town L p home g ag t (short-queue L p home g ag t a.sooner a.later a.split a.few) in
      let chosen = asked_all (enough E k p) (found_adds E k p) (λ u. accepted (g u)) (Chosen E O k) (queue E O k p) []
      (queue_chosen E O k p) in
      let c = all_mem (Chosen E O k) chosen m in
      let ht = c.0 in
      let n = candidate_some E O k t c.1 in
      let e = ranked_count E t (g t) (ag t ht) in
      changed L p home g ag t ht (first (g t) (omega arith)) short
