-- The places of tiles for a stop: what is known of each, their order against the tiles' keys, and which tiles decide
-- the first k.
use Prim.Native.Nat.{ℕ, suc, ◌+◌, ◌*◌, ◌/◌, ◌%◌, ◌≤◌, ◌<◌}
use mathlib.Core.Bool.{true, false}
use mathlib.Core.List.Permᴰ
use mathlib.Core.List.{List, [], ◌∷◌, ◌++◌, append_assoc, Permᴰ}
use mathlib.Core.Option.{Option, none, some}
use mathlib.Core.Path.{◌≡◌, refl, sym, ap, ◌∙◌}
use native.Mathlib.Nat.{add-zero, zero-add, le_trans, le-suc, le_refl}
use native.Mathlib.Omega.{arith}
use lib.ListN.{length, take, get_elem?, length-append}
use Rattle.base.proofs.Tests.{by_test}
use Rattle.search.specs.Lists.{count, total, All}
use Rattle.search.specs.Order.{sort}
use Rattle.search.specs.Plan.{Geometry, Directory, Lawful, slots, ranked, Town, Fills}
use Rattle.search.specs.Run.{tile_places, Place, rank, ahead_of, listing, places_of, nearest, by_key, ahead}
use Rattle.search.proofs.Fillings.{ranked_count}
use Rattle.search.proofs.Lists.{all_map, all_any, all_both, all_append, count_le}
use Rattle.search.proofs.Pairs.{lex_asym, lex_negtrans, lex_trans, lex-tight, lex_fine, lex_not_less}
use Rattle.search.proofs.Sort.{Order, Tight, sort_perm, behind}

pub rank_order : Order rank
unfolding rank
rank_order = record {
  asym = λ a b. lex_asym a.dist a.site b.dist b.site;
  negtrans = λ a b c. lex_negtrans a.dist a.site b.dist b.site c.dist c.site;
}

front : {A : Type 0} (a b c : List A) → Permᴰ (a ++ (b ++ c)) (b ++ (a ++ c))
front a b c = rw (← (append_assoc a b c), ← (append_assoc b a c)) (Permᴰ.append_right c (Permᴰ.append_comm a b))

module _ {G : Geometry} (E : Directory G) where
  open G use {Site, Stop, cue, ranks, Inside, Within, D, min_dist}
  open E use {tiles, box}

  pub by_key_order : (p : Stop) → Order (by_key E p)
  unfolding by_key
  by_key_order p = record {
    asym = λ a b. lex_asym (min_dist p (box a)) a (min_dist p (box b)) b;
    negtrans = λ a b c. lex_negtrans (min_dist p (box a)) a (min_dist p (box b)) b (min_dist p (box c)) c;
  }

  -- ---- the places of a list of tiles

  pub places_of_append : (p : Stop) (g : Town G) (ts us : List ℕ)
      → places_of G p g (ts ++ us) ≡ places_of G p g ts ++ places_of G p g us
  unfolding places_of
  places_of_append p g [] us = refl
  places_of_append p g (t ∷ ts) us =
      ap (λ r. tile_places G p t (g t) ++ r) (places_of_append p g ts us)
      ∙ sym (append_assoc (tile_places G p t (g t)) (places_of G p g ts) (places_of G p g us))

  pub places_of_perm : (p : Stop) (g : Town G) {ts us : List ℕ} → Permᴰ ts us
      → Permᴰ (places_of G p g ts) (places_of G p g us)
  unfolding places_of
  places_of_perm p g Permᴰ.nil = Permᴰ.nil
  places_of_perm p g (Permᴰ.cons {a = t} e d) =
      rw (← e) (Permᴰ.append_left (tile_places G p t (g t)) (places_of_perm p g d))
  places_of_perm p g (Permᴰ.swap {a = t} {b = u} {l = l} e f) =
      rw (← e, ← f) (front (tile_places G p t (g t)) (tile_places G p u (g u)) (places_of G p g l))
  places_of_perm p g (Permᴰ.trans d e) = Permᴰ.trans (places_of_perm p g d) (places_of_perm p g e)

  pub places_of_all : (P : Place → Type 0) (p : Stop) (g : Town G) (ts : List ℕ)
      → All (λ t. All P (tile_places G p t (g t))) ts → All P (places_of G p g ts)
  unfolding places_of
  places_of_all P p g [] h = tt
  places_of_all P p g (t ∷ ts) h = all_append P (tile_places G p t (g t)) (places_of G p g ts) h.0
      (places_of_all P p g ts h.1)

  -- towns that agree on the tiles
  pub places_of_same : (p : Stop) (g h : Town G) (ts : List ℕ) → All (λ t. g t ≡ h t) ts
      → places_of G p g ts ≡ places_of G p h ts
  unfolding places_of
  places_of_same p g h [] e = refl
  places_of_same p g h (t ∷ ts) e = rw (e.0, places_of_same p g h ts e.1)

  listing_length : (p : Stop) (a : ℕ) (f : List Site) → length (listing G p a f) ≡ count ranks f
  unfolding listing count
  listing_length p a [] = refl
  listing_length p a (s ∷ f) =
      let ih = listing_length p (suc a) f in
      by_test (ranks s) (λ e. rw e (omega arith)) (λ e. rw e (omega arith))

  -- numbered from a on
  pub listing_from : (p : Stop) (a : ℕ) (f : List Site) → All (λ y. a ≤ y.site) (listing G p a f)
  unfolding listing
  listing_from p a [] = tt
  listing_from p a (s ∷ f) =
      let ih = all_map (listing G p (suc a) f) (λ y h. le_trans (le-suc a) h) (listing_from p (suc a) f) in
      by_test (ranks s) (λ e. rw e (le_refl a, ih)) (λ e. rw e ih)

  -- a tile of the directory, filled as its entry says
  abbrev pub Filled : Town G → ℕ → Type 0
  Filled g t = (t < tiles) × Fills E t (g t)

  pub tile_length : (p : Stop) (g : Town G) (t : ℕ) → Fills E t (g t) → length (tile_places G p t (g t)) ≡ ranked E t
  tile_length p g t h = listing_length p (t * slots) (g t) ∙ ranked_count E t (g t) h

  pub places_of_length : (p : Stop) (g : Town G) (ts : List ℕ) → All (Filled g) ts
      → length (places_of G p g ts) ≡ total (λ t. true) (ranked E) ts
  unfolding places_of total
  places_of_length p g [] h = refl
  places_of_length p g (t ∷ ts) h =
      let ih = places_of_length p g ts h.1 in
      let a = length-append (tile_places G p t (g t)) (places_of G p g ts) in
      let b = tile_length p g t h.0.1 in
      omega arith

  -- ---- the place of a site number, if the town has that site

  put : Stop → ℕ → Option Site → Option Place
  put p i none = none
  put p i (some s) = some (record { dist = D p s; site = i; cue = cue s })

  unfoldable pub place_of : Stop → Town G → ℕ → Option Place
  unfolding put
  place_of p g i = put p i (get_elem? (g (i / slots)) (i % slots))

  unfoldable pub Own : Stop → Town G → Place → Type 0
  Own p g a = place_of p g a.site ≡ some a

  -- so no two tie
  pub own_tight : (p : Stop) (g : Town G) → Tight rank (Own p g)
  unfolding rank Own
  own_tight p g a b ha hb e f =
      let q = ap (place_of p g) (lex-tight a.dist a.site b.dist b.site e f).1 in
      let r : some a ≡ some b = sym ha ∙ q ∙ hb in
      cc

  -- what is known of a place of tile t
  pub record Known (p : Stop) (g : Town G) (t : ℕ) (a : Place) : Type 0 where
    pub tile : a.site / slots ≡ t
    pub own : Own p g a
    pub at : Site
    pub at_inside : Inside (box t) at
    pub at_dist : a.dist ≡ D p at
    pub least : min_dist p (box t) ≤ a.dist

  module _ {O : G.Box} (L : Lawful E O) (p : Stop) (home : Within O p) (g : Town G) where
    known_from : (t j a : ℕ) (f : List Site) → t < tiles → a ≡ t * slots + j → j + length f ≤ slots
        → ((i : ℕ) → get_elem? (g t) (j + i) ≡ get_elem? f i) → All (Inside (box t)) f
        → All (Known p g t) (listing G p a f)
    unfolding listing place_of Own
    known_from t j a [] ht e h same ins = tt
    known_from t j a (s ∷ f) ht e h same ins =
        let q : a / slots ≡ t = omega arith in
        let r : a % slots ≡ j = omega arith in
        let here : get_elem? (g (a / slots)) (a % slots) ≡ some s =
        rw (q, r) (ap (get_elem? (g t)) (sym (add-zero j)) ∙ same 0) in
        let rest = known_from t (suc j) (suc a) f ht (omega arith) (omega arith)
        (λ i. let u : suc j + i ≡ j + suc i = omega arith in ap (get_elem? (g t)) u ∙ same (suc i)) ins.1 in
        by_test (ranks s)
        (λ y. rw y (
          record {
            tile = q;
            own = rw here;
            at = s;
            at_inside = ins.0;
            at_dist = refl;
            least = L.min_dist_le p t s home ht ins.0;
          },
          rest,
        ))
        (λ y. rw y rest)

    pub known : (t : ℕ) → Filled g t → All (Known p g t) (tile_places G p t (g t))
    known t h =
        known_from t 0 (t * slots) (g t) h.0 (omega arith)
        (let u = L.size_small t h.0 in let v = h.1.counted in omega arith)
        (λ i. ap (get_elem? (g t)) (zero-add i)) h.1.inside

    -- what holds of each place that is known holds of all
    pub places_of_known : (P : Place → Type 0) (Q : ℕ → Type 0) (ts : List ℕ) → All (Filled g) ts → All Q ts
        → ((t : ℕ) (y : Place) → Q t → Known p g t y → P y) → All P (places_of G p g ts)
    places_of_known P Q ts h q f =
        let here : (t : ℕ) → Filled g t → Q t → All P (tile_places G p t (g t)) =
        λ t a b. all_map (tile_places G p t (g t)) (λ y i. f t y b i) (known t a) in
        places_of_all P p g ts (all_both (Filled g) Q _ ts here h q)

    pub own_places : (ts : List ℕ) → All (Filled g) ts → All (Own p g) (places_of G p g ts)
    own_places ts h = places_of_known (Own p g) (Filled g) ts h h (λ t y f i. i.own)

    -- ---- places against keys

    -- no place of a tile whose key is not sooner is ahead of a key
    not-ahead : (t u : ℕ) (y : Place) → by_key E p u t ≡ false → Known p g u y → ahead E p t y ≡ false
    unfolding ahead ahead_of by_key
    not-ahead t u y f i =
        lex_negtrans y.dist (y.site / slots) (min_dist p (box u)) u (min_dist p (box t)) t
        (rw i.tile (lex_not_less i.least (omega arith))) f

    pub later_none : (t : ℕ) (ts : List ℕ) → All (Filled g) ts → All (λ u. by_key E p u t ≡ false) ts
        → All (λ y. ahead E p t y ≡ false) (places_of G p g ts)
    later_none t ts h late = places_of_known _ (λ u. by_key E p u t ≡ false) ts h late (λ u y s i. not-ahead t u y s i)

    -- what is ahead of a key is ahead of the places of a tile whose key is not sooner
    ahead-rank : (t u : ℕ) (x y : Place) → ahead E p t x ≡ true → by_key E p u t ≡ false → Known p g u y
        → rank x y ≡ true
    unfolding ahead ahead_of rank
    ahead-rank t u x y e f i =
        lex_fine x.dist x.site y.dist y.site
        (lex_trans x.dist (x.site / slots) (min_dist p (box t)) t y.dist (y.site / slots) e
        (not-ahead t u y f i))

    pub later_behind : (k t : ℕ) (ts : List ℕ) (l : List Place) → All (Filled g) ts
        → All (λ u. by_key E p u t ≡ false) ts
        → k ≤ count (ahead E p t) l → All (λ y. k ≤ count (λ x. rank x y) l) (places_of G p g ts)
    later_behind k t ts l h late e =
        let more : (u : ℕ) (y : Place) → by_key E p u t ≡ false → Known p g u y
        → count (ahead E p t) l ≤ count (λ x. rank x y) l =
        λ u y s i. count_le (ahead E p t) (λ x. rank x y) l (all_any _ l (λ x a. ahead-rank t u x y a s i)) in
        places_of_known _ (λ u. by_key E p u t ≡ false) ts h late (λ u y s i. let m = more u y s i in omega arith)

    -- tiles whose places are all behind k places of the others decide nothing
    pub nearest_front : (k : ℕ) (ts pre rest : List ℕ) → Permᴰ ts (pre ++ rest) → All (Filled g) ts
        → All (λ y. k ≤ count (λ x. rank x y) (places_of G p g pre)) (places_of G p g rest)
        → nearest G k p g ts ≡ nearest G k p g pre
    unfolding nearest
    nearest_front k ts pre rest d h b =
        let q = Permᴰ.trans d (Permᴰ.append_comm pre rest) in
        ap (take k) (sort_perm rank rank_order (Own p g) (own_tight p g) (places_of_perm p g q) (own_places ts h))
        ∙ ap (λ l. take k (sort rank l)) (places_of_append p g rest pre)
        ∙ behind rank rank_order k (places_of G p g rest) (places_of G p g pre) b
