-- The full search as a ranking: the town's sites, each once, in strict order, and the sites left out behind every
-- listed one.
use Prim.Native.Nat.{ℕ, zero, suc, ◌+◌, ◌*◌, ◌/◌, ◌≤◌, ◌<◌, min}
use mathlib.Core.Bool.{Bool, true, false}
use mathlib.Core.List.Memᴰ
use mathlib.Core.List.{List, [], ◌∷◌, ◌++◌, map, Memᴰ}
use mathlib.Core.List.Permᴰ
use mathlib.Core.Logic.{◌⊎◌, inl, inr, ◌↔◌}
use mathlib.Core.Option.{some}
use mathlib.Core.Path.{◌≡◌, refl, sym, ap, ◌∙◌, subst}
use native.Mathlib.Nat.{add-zero, zero-add}
use native.Mathlib.Omega.{arith}
use lib.ListN.{length, drop, get_elem?, length-take, take-append-drop}
use Rattle.base.proofs.Tests.{clash, by_test}
use Rattle.search.specs.FullSearch.{first_of, SiteOf, ByDistanceTileSlot}
use Rattle.search.specs.Lists.{range, All, Distinct}
use Rattle.search.specs.Order.{sort, Strict}
use Rattle.search.specs.Plan.{Geometry, Directory, Lawful, slots, Town, Agrees}
use Rattle.search.specs.Run.{tile_places, Place, rank, listing, places_of, nearest, places_used}
use Rattle.search.proofs.Lists.{all_map, all_append, all_left, all_mem, all_perm, mem_perm, range_below}
use Rattle.search.proofs.Lists.{range_above, range_mem, distinct_perm}
use Rattle.search.proofs.Pairs.{lex_tile_slot}
use Rattle.search.proofs.Places.{rank_order, places_of_all, places_of_length, known, listing_from, places_of_known}
use Rattle.search.proofs.Places.{place_of, Own, own_tight, own_places}
use Rattle.search.proofs.Pruning.{tiles_below}
use Rattle.search.proofs.Sort.{sort_is_perm, sort_sorted, sort-length, order_irrefl, strictly}
use Rattle.search.proofs.Sound.{agrees_filled}

distinct_append : {A : Type 0} (l m : List A) → Distinct l → Distinct m → All (λ x. All (λ y. y ≡ x → ⊥) m) l
    → Distinct (l ++ m)
distinct_append [] m d e h = e
distinct_append (x ∷ l) m d e h = (all_append (λ y. y ≡ x → ⊥) l m d.0 h.0, distinct_append l m d.1 e h.1)

strict_left : {A : Type 0} (lt : A → A → Bool) (l m : List A) → Strict lt (l ++ m) → Strict lt l
strict_left lt [] m s = tt
strict_left lt (x ∷ l) m s = (all_left (λ y. lt x y ≡ true) l m s.0, strict_left lt l m s.1)

strict_across : {A : Type 0} (lt : A → A → Bool) {x y : A} (l m : List A) → Strict lt (l ++ m) → Memᴰ x l
    → Memᴰ y m
    → lt x y ≡ true
strict_across lt {x} {y} l m s (Memᴰ.head {x = z} {xs = k} e) n =
    rw e (all_mem (λ w. lt z w ≡ true) s.0 (Memᴰ.append_right k n))
strict_across lt l m s (Memᴰ.tail {xs = k} h) n = strict_across lt k m s.1 h n

get_elem_below : {A : Type 0} (l : List A) (i : ℕ) {x : A} → get_elem? l i ≡ some x → i < length l
get_elem_below [] i e = absurd (let z : ◌≡◌ {A = ℕ} 0 1 = cc in omega arith)
get_elem_below (y ∷ l) zero e = omega arith
get_elem_below (y ∷ l) (suc i) e = let ih = get_elem_below l i e in omega arith

-- ---- the ranking of a town's sites

module _ {G : Geometry} (E : Directory G) {O : G.Box} (L : Lawful E O) where
  open G use {Stop, D}

  slot_below : {p : Stop} (g : Town G) → Agrees E g → {a : Place} (s : SiteOf E p g a) → s.slot < slots
  slot_below g ag s =
      let n = get_elem_below (g s.tile) s.slot s.there in
      omega (arith, L.size_small s.tile s.below, (ag s.tile s.below).counted)

  pub rank_exactly : (p : Stop) (g : Town G) → Agrees E g → (a b : Place) (s : SiteOf E p g a) (u : SiteOf E p g b)
      → (rank a b ≡ true) ↔ ByDistanceTileSlot E s u
  unfolding rank
  rank_exactly p g ag a b s u = rw (s.place, u.place)
      (lex_tile_slot (D p s.it) s.tile s.slot (D p u.it) u.tile u.slot
      (slot_below g ag s) (slot_below g ag u))

module _ {G : Geometry} (E : Directory G) (k : ℕ) where
  open G use {Site, Stop, cue, ranks, Within, D}
  open E use {tiles}

  -- ---- the places are the town's sites that rank

  module _ (p : Stop) (g : Town G) where
    listing-sites : (t j a : ℕ) (f : List Site) → t < tiles → a ≡ t * slots + j
        → ((i : ℕ) → get_elem? (g t) (j + i) ≡ get_elem? f i) → All (SiteOf E p g) (listing G p a f)
    unfolding listing
    listing-sites t j a [] ht e same = tt
    listing-sites t j a (s ∷ f) ht e same =
        let rest = listing-sites t (suc j) (suc a) f ht (omega arith)
        (λ i. let u : suc j + i ≡ j + suc i = omega arith in ap (get_elem? (g t)) u ∙ same (suc i)) in
        by_test (ranks s)
        (λ y. rw y (
          record {
            tile = t;
            slot = j;
            it = s;
            below = ht;
            there = ap (get_elem? (g t)) (sym (add-zero j)) ∙ same 0;
            ranked = y;
            place = λ i. record { dist = D p s; site = e i; cue = cue s };
          },
          rest,
        ))
        (λ y. rw y rest)

    places-sites : All (SiteOf E p g) (places_of G p g (range 0 tiles))
    places-sites = places_of_all E (SiteOf E p g) p g (range 0 tiles)
        (all_map (range 0 tiles) (λ t ht. listing-sites t 0 (t * slots) (g t) ht (omega arith)
        (λ i. ap (get_elem? (g t)) (zero-add i))) (tiles_below E))

    pub first_short : length (first_of E k p g) ≤ k
    unfolding first_of nearest
    first_short = let e = length-take k (sort rank (places_of G p g (range 0 tiles))) in omega arith

    listing-mem : (a j : ℕ) (f : List Site) (s : Site) → get_elem? f j ≡ some s → ranks s ≡ true
        → Memᴰ (record { dist = D p s; site = a + j; cue = cue s }) (listing G p a f)
    unfolding listing
    listing-mem a j [] s e r = absurd (let z : ◌≡◌ {A = ℕ} 0 1 = cc in omega arith)
    listing-mem a zero (x ∷ f) s e r = let i : x ≡ s = cc in rw (i, r, add-zero a) (Memᴰ.head refl)
    listing-mem a (suc j) (x ∷ f) s e r =
        let u : a + suc j ≡ suc a + j = omega arith in
        let m = listing-mem (suc a) j f s e r in
        rw u (by_test (ranks x) (λ y. rw y (Memᴰ.tail m)) (λ y. rw y m))

    placesOf-mem : (a : Place) (t : ℕ) (ts : List ℕ) → Memᴰ t ts → Memᴰ a (tile_places G p t (g t))
        → Memᴰ a (places_of G p g ts)
    unfolding places_of
    placesOf-mem a t ts (Memᴰ.head {x = u} {xs = us} e) h = Memᴰ.append_left (places_of G p g us) (rw e at h)
    placesOf-mem a t ts (Memᴰ.tail {x = u} {xs = us} m) h =
        Memᴰ.append_right (tile_places G p u (g u)) (placesOf-mem a t us m h)

    pub site_here : (a : Place) (s : SiteOf E p g a) → Memᴰ a (tile_places G p s.tile (g s.tile))
    site_here a s = subst (λ x. Memᴰ x (tile_places G p s.tile (g s.tile))) (sym s.place)
        (listing-mem (s.tile * slots) s.slot (g s.tile) s.it s.there s.ranked)

    site-placed : (a : Place) → SiteOf E p g a → Memᴰ a (places_of G p g (range 0 tiles))
    site-placed a s =
        placesOf-mem a s.tile (range 0 tiles)
        (range_mem s.tile 0 tiles (omega arith) (let h = s.below in omega arith)) (site_here a s)

    -- ---- each once

    listing-distinct : (a : ℕ) (f : List Site) → Distinct (listing G p a f)
    unfolding listing
    listing-distinct a [] = tt
    listing-distinct a (s ∷ f) = by_test (ranks s)
        (λ e. rw e (
          all_map (listing G p (suc a) f) (λ y h i. let j = ap (λ (z : Place). z.site) i in omega arith)
              (listing_from E p (suc a) f),
          listing-distinct (suc a) f,
        ))
        (λ e. rw e (listing-distinct (suc a) f))

  module _ {O : G.Box} (L : Lawful E O) (p : Stop) (home : Within O p) (g : Town G) (ag : Agrees E g) where
    later-tiles : (a n : ℕ) → a + n ≤ tiles → All (λ y. a ≤ y.site / slots) (places_of G p g (range a n))
    later-tiles a n h =
        places_of_known E L p home g (λ y. a ≤ y.site / slots) (λ t. a ≤ t) (range a n)
        (agrees_filled E g ag (range a n) (range_below a n tiles h))
        (range_above a n a (omega arith)) (λ t y l i. let e = i.tile in omega arith)

    places-distinct : (a n : ℕ) → a + n ≤ tiles → Distinct (places_of G p g (range a n))
    unfolding places_of
    places-distinct a zero h = tt
    places-distinct a (suc n) h =
        let u : a < tiles = omega arith in
        distinct_append (tile_places G p a (g a)) (places_of G p g (range (suc a) n))
        (listing-distinct p g (a * slots) (g a))
        (places-distinct (suc a) n (omega arith))
        (all_map (tile_places G p a (g a))
        (λ x i. all_map (places_of G p g (range (suc a) n))
        (λ y l e. let v = i.tile in let w = ap (λ (z : Place). z.site) e in
        absurd (clear x.site y.site a v w l))
        (later-tiles (suc a) n (omega arith)))
        (known E L p home g a (u, ag a u)))
      where
        clear : (x y a : ℕ) → x / slots ≡ a → y ≡ x → suc a ≤ y / slots → ⊥
        clear x y a v w l = let q : y / slots ≡ x / slots = ap (λ (n : ℕ). n / slots) w in omega arith

    abbrev sorted : List Place
    sorted = sort rank (places_of G p g (range 0 tiles))

    sorted-own : All (Own E p g) sorted
    sorted-own = all_perm (Own E p g) (Permᴰ.symm (sort_is_perm rank (places_of G p g (range 0 tiles))))
        (own_places E L p home g (range 0 tiles) (agrees_filled E g ag (range 0 tiles) (tiles_below E)))

    sorted-strict : Strict rank sorted
    sorted-strict = strictly rank rank_order (Own E p g) (own_tight E p g) sorted sorted-own
        (sort_sorted rank rank_order (places_of G p g (range 0 tiles)))
        (distinct_perm (Permᴰ.symm (sort_is_perm rank (places_of G p g (range 0 tiles))))
        (places-distinct 0 tiles (omega arith)))

    parts : first_of E k p g ++ drop k sorted ≡ sorted
    unfolding first_of nearest
    parts = take-append-drop k sorted

    -- ---- what a reader wants of it

    pub first_strict : Strict rank (first_of E k p g)
    first_strict = strict_left rank (first_of E k p g) (drop k sorted) (rw parts sorted-strict)

    pub first_sites : All (SiteOf E p g) (first_of E k p g)
    first_sites = all_left (SiteOf E p g) (first_of E k p g) (drop k sorted)
        (rw parts (all_perm (SiteOf E p g) (Permᴰ.symm (sort_is_perm rank (places_of G p g (range 0 tiles))))
        (places-sites p g)))

    pub first_rest : (a b : Place) → Memᴰ a (first_of E k p g) → SiteOf E p g b
        → (Memᴰ b (first_of E k p g) → ⊥)
        → rank a b ≡ true
    first_rest a b m s out = go (Memᴰ.append_cases (first_of E k p g)
        (rw parts (mem_perm b (Permᴰ.symm (sort_is_perm rank (places_of G p g (range 0 tiles))))
        (site-placed p g b s))))
      where
        go : Memᴰ b (first_of E k p g) ⊎ Memᴰ b (drop k sorted) → rank a b ≡ true
        go (inl h) = absurd (out h)
        go (inr h) = strict_across rank (first_of E k p g) (drop k sorted) (rw parts sorted-strict) m h

    -- no site number twice
    one_number : (x y : Place) → Own E p g x → Own E p g y → y.site ≡ x.site → rank x y ≡ false
    unfolding Own
    one_number x y hx hy e =
        let i : some y ≡ some x = sym hy ∙ ap (place_of E p g) e ∙ hx in
        let j : y ≡ x = cc in
        rw j (order_irrefl rank rank_order x)

    apart : (x : Place) (l : List Place) → Own E p g x → All (Own E p g) l → All (λ y. rank x y ≡ true) l
        → All (λ n. n ≡ x.site → ⊥) (map (λ a. a.site) l)
    apart x [] h o r = tt
    apart x (y ∷ l) h o r = (λ e. clash r.0 (one_number x y h o.0 e), apart x l h o.1 r.1)

    numbers : (l : List Place) → All (Own E p g) l → Strict rank l → Distinct (map (λ a. a.site) l)
    numbers [] o s = tt
    numbers (x ∷ l) o s = (apart x l o.0 o.1 s.0, numbers l o.1 s.1)

    pub first_once : Distinct (map (λ a. a.site) (first_of E k p g))
    first_once = numbers (first_of E k p g)
        (all_left (Own E p g) (first_of E k p g) (drop k sorted) (rw parts sorted-own)) first_strict

    pub first_length : length (first_of E k p g) ≡ places_used E k
    unfolding first_of nearest places_used
    first_length =
        length-take k sorted
        ∙ ap (min k) (sort-length rank (places_of G p g (range 0 tiles))
        ∙ places_of_length E p g (range 0 tiles) (agrees_filled E g ag (range 0 tiles) (tiles_below E)))
