-- Lists of places laid over three slices: what is read back, what stays, and how one follows another.
--
--   places-*         the places from an index on
--   lay_self         what stands there, laid again
--   SameLengths, same_lengths, lay_lengths   no slice gets longer or shorter
--   lay_place(s)     what was laid is read back
--   lay_before, lay_after   what stands elsewhere stays
--   lay_nil, lay_next, lay_under   nothing; one list right after another; one that covers another
--   put_last, put-lay   a place stored right behind a list
use Prim.Native.Nat.{ℕ, zero, suc, ◌+◌, ◌<◌, ◌≤◌}
use mathlib.Core.List.{List, [], ◌∷◌, ◌++◌, map, map-append}
use mathlib.Core.Path.{◌≡◌, refl, sym, ap, ◌∙◌}
use native.Mathlib.Numerals.{add-one}
use native.Mathlib.Omega.{arith}
use lib.ListN.{length, get_or, set, length-map, get_or-map}
use lib.Seq.{set-get_or, ext_get_or}
use Rattle.base.specs.Over.{over}
use Rattle.base.specs.Tabulate.{tabulate}
use Rattle.search.specs.Inner.Cut.{Sorted}
use Rattle.search.specs.Run.{no_place, rank}
use Rattle.search.specs.declared.Place.{Place}
use Rattle.base.proofs.Over.{length_over, over_nil, over-cons, get_d_before, get_d_run, get_d_after}
use Rattle.base.proofs.Over.{over_next, over_under}
use Rattle.base.proofs.Over.{over_last, set-over}
use Rattle.base.proofs.Tabulate.{length-tabulate, get_d_tabulate, tabulate_last, tabulate-same, tabulate-take}
use Rattle.search.proofs.Cut.{sorted-take}
use Rattle.list.specs.Inner.Keeping.{places, put}
use Rattle.list.specs.Slices.{Lists, lists, Long, place_at, dists, sites, cues, lay}

-- ---- one slice, which holds what `show` gives of each place
module _ (show : Place → ℕ) where
  -- what stands there, laid again
  over_self : (g : ℕ → Place) (l : List ℕ) → ((i : ℕ) → show (g i) ≡ get_or l i 0) → (at n : ℕ)
      → l ≡ over l at (map show (tabulate g at n))
  unfolding tabulate
  over_self g l e at zero = sym (over_nil l at)
  over_self g l e at (suc n) =
      let vs = map show (tabulate g (at + 1) n) in
      over_self g l e (at + 1) n
      ∙ ap (λ j. over l j vs) (add-one at)
      ∙ sym (ap (λ (z : List ℕ). over z (suc at) vs) (ap (set l at) (e at) ∙ set-get_or l at 0))
      ∙ sym (over-cons l at (show (g at)) vs)

  over_shown : show no_place ≡ 0 → (l : List ℕ) (at : ℕ) (m : List Place) (i : ℕ) → i < length m
      → at + length m ≤ length l
      → get_or (over l at (map show m)) (at + i) 0 ≡ show (get_or m i no_place)
  over_shown z l at m i h g =
      let n = length-map m show in
      get_d_run l at i (map show m) (omega arith) (omega arith) ∙ ap (get_or (map show m) i) (sym z)
      ∙ get_or-map show m i no_place

  shown_before : (l : List ℕ) (at : ℕ) (m : List Place) (i : ℕ)
      → i < at → get_or (over l at (map show m)) i 0 ≡ get_or l i 0
  shown_before l at m i h = get_d_before l at i (map show m) h

  shown_after : (l : List ℕ) (at : ℕ) (m : List Place) (i : ℕ) → at + length m ≤ i
      → get_or (over l at (map show m)) i 0 ≡ get_or l i 0
  shown_after l at m i h = let n = length-map m show in get_d_after l at i (map show m) (omega arith)

  shown_under : (l : List ℕ) (i j : ℕ) (a b : List Place) → j ≤ i → i + length a ≤ j + length b
      → over (over l i (map show a)) j (map show b) ≡ over l j (map show b)
  shown_under l i j a b h g =
      let n = length-map a show in
      let m = length-map b show in
      over_under l i j (map show a) (map show b) h (omega arith)

  shown_next : (l : List ℕ) (i : ℕ) (a b : List Place)
      → over (over l i (map show a)) (i + length a) (map show b) ≡ over l i (map show (a ++ b))
  shown_next l i a b =
      let n = length-map a show in
      over_next l i (i + length a) (map show a) (map show b) (omega arith) ∙ ap (over l i) (sym (map-append show a b))

  shown_last : (l : List ℕ) (i n : ℕ) (a : List Place) (y : Place) → n ≡ i + length a
      → over (set l n (show y)) i (map show a) ≡ over l i (map show (a ++ y ∷ []))
  shown_last l i n a y e =
      let m = length-map a show in
      sym (over_last l i n (show y) (map show a) (omega arith)) ∙ ap (over l i) (sym (map-append show a (y ∷ [])))

-- three slices alike
same : {d s c d' s' c' : List ℕ} → d ≡ d' → s ≡ s' → c ≡ c' → lists d s c ≡ lists d' s' c'
same e f g = rw (e, f, g)

-- ---- the places

pub places-length : (o : Lists) (at n : ℕ) → length (places o at n) ≡ n
unfolding places
places-length o at n = length-tabulate (place_at o) at n

pub places_last : (o : Lists) (at n : ℕ) → places o at (suc n) ≡ places o at n ++ place_at o (at + n) ∷ []
unfolding places
places_last o at n = tabulate_last (place_at o) at n

pub places_same : (o o' : Lists) (at n : ℕ) → ((i : ℕ) → at ≤ i → i < at + n → place_at o' i ≡ place_at o i)
    → places o' at n ≡ places o at n
unfolding places
places_same o o' at n e = tabulate-same (place_at o') (place_at o) at n (λ i h. e (at + i) (omega arith) (omega arith))

-- the first of sorted places are sorted
pub places-sorted : (o : Lists) (at n m : ℕ) → m ≤ n → Sorted rank (places o at n) → Sorted rank (places o at m)
unfolding places
places-sorted o at n m h s =
    rw (tabulate-take (place_at o) at n m h) at (sorted-take rank m (tabulate (place_at o) at n) s)

-- ---- a list laid

pub lay_self : (o : Lists) (at n : ℕ) → lay o at (places o at n) ≡ o
unfolding lay places
lay_self o at n = sym (same
    (over_self (λ a. a.dist) (place_at o) o.dist (λ i. refl) at n)
    (over_self (λ a. a.site) (place_at o) o.site (λ i. refl) at n)
    (over_self (λ a. a.cue) (place_at o) o.cue (λ i. refl) at n))

pub lay_nil : (o : Lists) (at : ℕ) → lay o at [] ≡ o
unfolding lay
lay_nil o at = same (over_nil o.dist at) (over_nil o.site at) (over_nil o.cue at)

pub lay_next : (o : Lists) (at : ℕ) (l m : List Place) → lay (lay o at l) (at + length l) m ≡ lay o at (l ++ m)
unfolding lay
lay_next o at l m = same
    (shown_next (λ a. a.dist) o.dist at l m)
    (shown_next (λ a. a.site) o.site at l m)
    (shown_next (λ a. a.cue) o.cue at l m)

pub lay_under : (o : Lists) (i j : ℕ) (a b : List Place) → j ≤ i → i + length a ≤ j + length b
    → lay (lay o i a) j b ≡ lay o j b
unfolding lay
lay_under o i j a b h g = same
    (shown_under (λ a. a.dist) o.dist i j a b h g)
    (shown_under (λ a. a.site) o.site i j a b h g)
    (shown_under (λ a. a.cue) o.cue i j a b h g)

-- a list with one place more: that place stored first, or last
pub put_last : (o : Lists) (i n : ℕ) (a : List Place) (y : Place) → n ≡ i + length a
    → lay (put o n y) i a ≡ lay o i (a ++ y ∷ [])
unfolding lay
put_last o i n a y e = same
    (shown_last (λ p. p.dist) o.dist i n a y e)
    (shown_last (λ p. p.site) o.site i n a y e)
    (shown_last (λ p. p.cue) o.cue i n a y e)

pub put-lay : (o : Lists) (i n : ℕ) (a : List Place) (y : Place) → n ≡ i + length a
    → put (lay o i a) n y ≡ lay o i (a ++ y ∷ [])
unfolding lay
put-lay o i n a y e =
    same (later (λ p. p.dist) o.dist) (later (λ p. p.site) o.site) (later (λ p. p.cue) o.cue)
    ∙ rw (← (put_last o i n a y e))
  where
    later : (show : Place → ℕ) (l : List ℕ) → set (over l i (map show a)) n (show y)
        ≡ over (set l n (show y)) i (map show a)
    later show l = let m = length-map a show in set-over l i n (show y) (map show a) (omega arith)

-- no slice gets longer or shorter
pub record SameLengths (o o' : Lists) : Type 0 where
  pub dist : length o.dist ≡ length o'.dist
  pub site : length o.site ≡ length o'.site
  pub cue : length o.cue ≡ length o'.cue

pub same_lengths : (o : Lists) → SameLengths o o
same_lengths o = record { dist = refl; site = refl; cue = refl }

module _ (o : Lists) (at : ℕ) (l : List Place) where
  pub lay_lengths : {o' : Lists} → SameLengths o o' → SameLengths (lay o at l) o'
  unfolding lay
  lay_lengths s = record {
    dist = length_over o.dist at (dists l) ∙ s.dist;
    site = length_over o.site at (sites l) ∙ s.site;
    cue = length_over o.cue at (cues l) ∙ s.cue;
  }

  pub lay-long : (m : ℕ) → Long o m → Long (lay o at l) m
  lay-long m h =
      let s = lay_lengths (same_lengths o) in
      (omega (arith, s.dist), (omega (arith, s.site), omega (arith, s.cue)))

  pub lay_place : Long o (at + length l) → (i : ℕ) → i < length l → place_at (lay o at l) (at + i) ≡ get_or l i no_place
  unfolding lay
  lay_place g i h = rw (
    over_shown (λ a. a.dist) refl o.dist at l i h g.0,
    over_shown (λ a. a.site) refl o.site at l i h g.1.0,
    over_shown (λ a. a.cue) refl o.cue at l i h g.1.1,
  )

  pub lay-places : Long o (at + length l) → places (lay o at l) at (length l) ≡ l
  unfolding places
  lay-places g =
      let n = length-tabulate (place_at (lay o at l)) at (length l) in
      ext_get_or no_place (tabulate (place_at (lay o at l)) at (length l)) l n
      (λ i h. get_d_tabulate (place_at (lay o at l)) no_place at (length l) i (omega arith)
      ∙ lay_place g i (omega arith))

  pub lay_before : (i : ℕ) → i < at → place_at (lay o at l) i ≡ place_at o i
  unfolding lay
  lay_before i h = rw (
    shown_before (λ a. a.dist) o.dist at l i h,
    shown_before (λ a. a.site) o.site at l i h,
    shown_before (λ a. a.cue) o.cue at l i h,
  )

  pub lay_after : (i : ℕ) → at + length l ≤ i → place_at (lay o at l) i ≡ place_at o i
  unfolding lay
  lay_after i h = rw (
    shown_after (λ a. a.dist) o.dist at l i h,
    shown_after (λ a. a.site) o.site at l i h,
    shown_after (λ a. a.cue) o.cue at l i h,
  )
