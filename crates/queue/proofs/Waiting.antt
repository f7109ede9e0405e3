-- For serving: the waiting tiles one after another. The tile at the first least key is the first of those that wait, by
-- key, and with its key put to none the rest waits on.
--
--   living         the tiles whose key is not none
--   Keyed          keys and tiles go together
--   keyed_start, living_start   keys just filled: all tiles wait
--   living_next    the first tile, and the rest
--   keyed_next, living_fewer   and they go together again, one fewer
--   living-none    no key is left: no tile waits
--   tile_in_order  what stands in the order is a tile
use Prim.Native.Nat.{ℕ, suc, ◌+◌, ◌-◌, ◌<◌, ◌≤◌}
use mathlib.Core.Bool.{cond}
use mathlib.Core.List.{List, [], ◌∷◌, map}
use mathlib.Core.Path.{◌≡◌, refl, sym, ap, ◌∙◌}
use native.Mathlib.Nat.{add-zero, zero-add}
use native.Mathlib.Omega.{arith}
use lib.Dec.{eqb, leb, ltb}
use lib.IntN.{ℤ}
use lib.ListN.{length, get_or, set, length-map, length-set}
use lib.Seq.{get_or-set_same, get_or-set_other}
use borrow.Author.Tests.{eqb-true, eqb-false, leb-true, leb-false, lt-ltb, le-ltb, ltb-true, ltb-false}
use Rattle.base.specs.Over.{over}
use Rattle.base.specs.Refusal.{accepted}
use Rattle.blocks.specs.Directory.{directory}
use Rattle.blocks.specs.declared.header.Header.{Header}
use Rattle.plan.specs.FilePlan.{entries}
use Rattle.plan.specs.Inner.Seam.{ValidStop}
use Rattle.search.specs.Lists.{All}
use Rattle.search.specs.Order.{insert, sort, Strict}
use Rattle.search.specs.Plan.{Geometry, Directory, near}
use Rattle.search.specs.Run.{by_key, in_order}
use Rattle.base.proofs.Over.{length_over, get_d_run}
use Rattle.base.proofs.Tests.{by_test}
use Rattle.plan.proofs.Measures.{near_bounded}
use Rattle.search.proofs.Lists.{all_get_d, get_d_map_lt}
use Rattle.search.proofs.Pairs.{lex_less, lex_not_less}
use Rattle.search.proofs.Sort.{sort-length, insert_skip, insert_stop}
use Rattle.queue.specs.Inner.Keys.{none, least_key}
use Rattle.queue.specs.declared.keys.Least.{Least}
use Rattle.queue.proofs.Scanning.{least_low, least_here}

-- ---- the tiles that wait

-- of tiles whose keys stand from index a on, those with a key
unfoldable pub living_at : List ℕ → ℕ → List ℕ → List ℕ
living_at keys a [] = []
living_at keys a (t ∷ ts) = cond (ltb (get_or keys a 0) none) (t ∷ living_at keys (suc a) ts)
    (living_at keys (suc a) ts)

abbrev pub living : List ℕ → List ℕ → List ℕ
living order keys = living_at keys 0 order

next_index : (a i : ℕ) → a + suc i ≡ suc a + i
next_index a i = omega arith

module _ (keys : List ℕ) where
  living_at-all : (a : ℕ) (ts : List ℕ) → ((i : ℕ) → i < length ts → get_or keys (a + i) 0 < none)
      → living_at keys a ts ≡ ts
  unfolding living_at
  living_at-all a [] h = refl
  living_at-all a (t ∷ ts) h =
      let k : get_or keys a 0 < none = rw add-zero at (h 0 (omega arith)) in
      let ih = living_at-all (suc a) ts (λ i l. rw (next_index a i) at (h (suc i) (omega arith))) in
      rw (lt-ltb (get_or keys a 0) none k) (ap (λ l. t ∷ l) ih)

  living_at-none : (a : ℕ) (ts : List ℕ) → ((i : ℕ) → i < length ts → none ≤ get_or keys (a + i) 0)
      → living_at keys a ts ≡ []
  unfolding living_at
  living_at-none a [] h = refl
  living_at-none a (t ∷ ts) h =
      let k : none ≤ get_or keys a 0 = rw add-zero at (h 0 (omega arith)) in
      let ih = living_at-none (suc a) ts (λ i l. rw (next_index a i) at (h (suc i) (omega arith))) in
      rw (le-ltb (get_or keys a 0) none k) ih

  -- a key before does not matter
  living_at_later : (v i a : ℕ) (ts : List ℕ) → i < a → living_at (set keys i v) a ts ≡ living_at keys a ts
  unfolding living_at
  living_at_later v i a [] h = refl
  living_at_later v i a (t ∷ ts) h =
      rw (get_or-set_other keys i a v 0 (λ e. omega arith), living_at_later v i (suc a) ts (omega arith))

-- the first tile has a key, or none
module _ (keys : List ℕ) (a t : ℕ) (ts : List ℕ) where
  living_at_on : get_or keys a 0 < none → living_at keys a (t ∷ ts) ≡ t ∷ living_at keys (suc a) ts
  unfolding living_at
  living_at_on h = rw (lt-ltb (get_or keys a 0) none h)

  living_at_off : none ≤ get_or keys a 0 → living_at keys a (t ∷ ts) ≡ living_at keys (suc a) ts
  unfolding living_at
  living_at_off h = rw (le-ltb (get_or keys a 0) none h)

-- ---- by key

module _ {G : Geometry} (E : Directory G) (p : G.Stop) where
  -- each key is that of its tile, or none
  abbrev OwnKeys : List ℕ → ℕ → List ℕ → Type 0
  OwnKeys keys a ts =
      (i : ℕ) → i < length ts → get_or keys (a + i) 0 < none → get_or keys (a + i) 0 ≡ near E p (get_or ts i 0)

  -- the first tile, and the rest
  abbrev First : List ℕ → ℕ → List ℕ → Least → Type 0
  First keys a ts r =
      in_order E (living_at keys a ts) p ≡ get_or ts (r.at - a) 0 ∷ in_order E (living_at (set keys r.at none) a ts) p

  sort-cons : (t : ℕ) (l : List ℕ) → in_order E (t ∷ l) p ≡ insert (by_key E p) t (in_order E l p)
  unfolding sort
  sort-cons t l = refl

  alone : (t : ℕ) → insert (by_key E p) t (in_order E [] p) ≡ t ∷ in_order E [] p
  unfolding insert sort
  alone t = refl

  -- one tile more
  module _ (keys : List ℕ) (a t : ℕ) (ts : List ℕ) (long : a + suc (length ts) ≤ length keys)
      (own : OwnKeys keys a (t ∷ ts)) (rise : Strict ltb (t ∷ ts)) where
    abbrev rest : Least
    rest = least_key keys (suc a) (length ts)

    abbrev next : ℕ
    next = get_or ts (rest.at - suc a) 0

    own_key : get_or keys a 0 < none → get_or keys a 0 ≡ near E p t
    own_key h = rw add-zero at (own 0 (omega arith) (rw (add-zero a) h))

    next-key : rest.key < none → (rest.key ≡ near E p next) × (t < next)
    next-key h =
        let b = least_here keys (suc a) (length ts) h in
        let i = rest.at - suc a in
        let l : i < length ts = omega (arith, b.0, b.1) in
        let e : a + suc i ≡ rest.at = omega (arith, b.0) in
        let k : get_or keys (a + suc i) 0 ≡ rest.key = rw e b.2 in
        (sym k ∙ own (suc i) (omega arith) (omega arith), ltb-true t next (all_get_d _ ts i 0 l rise.0))

    -- the tile itself is the first
    stay-first : get_or keys a 0 ≤ rest.key → get_or keys a 0 < none → (rest.key < none → First keys (suc a) ts rest)
        → First keys a (t ∷ ts) (record { at = a; key = get_or keys a 0 })
    unfolding by_key
    stay-first low h ih =
        let l = living_at keys (suc a) ts in
        let z : a - a ≡ 0 = omega arith in
        let off = living_at_off (set keys a none) a t ts (omega (arith, get_or-set_same keys a none 0 (omega arith)))
        ∙ living_at_later keys none a (suc a) ts (omega arith) in
        let front : insert (by_key E p) t (in_order E l p) ≡ t ∷ in_order E l p = by_test (ltb rest.key none)
        (λ e.
        let some = ltb-true rest.key none e in
        let n = next-key some in
        let k = own_key h in
        let far : near E p t ≤ near E p next = omega (arith, n.0) in
        let later : t ≤ next = omega (arith, n.1) in
        rw (ih some) (insert_stop (by_key E p) t next _ (lex_not_less far later)))
        (λ e.
        let none_left : l ≡ [] = living_at-none keys (suc a) ts (λ i b. omega (
          arith,
          ltb-false rest.key none e,
          least_low keys (suc a) (length ts) (suc a + i) (omega arith) (omega arith),
        )) in
        rw none_left (alone t)) in
        rw (living_at_on keys a t ts h, z, off) (sort-cons t l ∙ front)

    -- a later one is
    pass-first : rest.key < get_or keys a 0 → rest.key < none → First keys (suc a) ts rest → First keys a (t ∷ ts) rest
    unfolding by_key
    pass-first low h ih =
        let b = least_here keys (suc a) (length ts) h in
        let d : rest.at - a ≡ suc (rest.at - suc a) = omega (arith, b.0) in
        let keys' = set keys rest.at none in
        let same = get_or-set_other keys rest.at a none 0 (λ e. omega (arith, b.0)) in
        by_test (ltb (get_or keys a 0) none)
        (λ e.
        let on = ltb-true (get_or keys a 0) none e in
        let n = next-key h in
        let k = own_key on in
        let ahead = lex_less {a = near E p next} {c = near E p t} next t (omega (arith, n.0)) in
        rw (living_at_on keys a t ts on, living_at_on keys' a t ts (omega arith), d)
        (sort-cons t (living_at keys (suc a) ts) ∙ ap (insert (by_key E p) t) ih
        ∙ insert_skip (by_key E p) t next _ ahead
        ∙ ap (λ l. next ∷ l) (sym (sort-cons t (living_at keys' (suc a) ts)))))
        (λ e.
        let off = ltb-false (get_or keys a 0) none e in
        rw (living_at_off keys a t ts off, living_at_off keys' a t ts (omega arith), d) ih)

  living_at_first : (keys : List ℕ) (a : ℕ) (ts : List ℕ) → a + length ts ≤ length keys → OwnKeys keys a ts
      → Strict ltb ts → (least_key keys a (length ts)).key < none → First keys a ts (least_key keys a (length ts))
  unfolding least_key
  living_at_first keys a [] long own rise h = absurd (omega arith)
  living_at_first keys a (t ∷ ts) long own rise h =
      let r = least_key keys (suc a) (length ts) in
      let ih : r.key < none → First keys (suc a) ts r = living_at_first keys (suc a) ts (omega arith)
      (λ i l. rw (next_index a i) at (own (suc i) (omega arith))) rise.1 in
      let k = get_or keys a 0 in
      by_test (leb k r.key)
      (λ e. rw e (stay-first keys a t ts long own rise (leb-true k r.key e) (rw e at h) ih))
      (λ e.
      let some : r.key < none = rw e at h in
      rw e (pass-first keys a t ts long own rise (leb-false k r.key e) some (ih some)))

-- ---- what serving goes by

-- keys and tiles go together: each key is that of its tile, or none, and the tiles rise
pub record Keyed {G : Geometry} (E : Directory G) (p : G.Stop) (order keys : List ℕ) : Type 0 where
  pub long : length order ≤ length keys
  pub own : (j : ℕ) → j < length order → get_or keys j 0 < none → get_or keys j 0 ≡ near E p (get_or order j 0)
  pub rise : Strict ltb order

-- no key is left: no tile waits
pub living-none : (order keys : List ℕ) → none ≤ (least_key keys 0 (length order)).key → living order keys ≡ []
living-none order keys h = living_at-none keys 0 order
    (λ i l. omega (arith, least_low keys 0 (length order) (0 + i) (omega arith) (omega arith)))

module _ {G : Geometry} {E : Directory G} {p : G.Stop} {order keys : List ℕ} (q : Keyed E p order keys) (r : Least)
    (e : r ≡ least_key keys 0 (length order)) (h : r.key < none) where
  abbrev keys' : List ℕ
  keys' = set keys r.at none

  -- the first tile of those that wait, and the rest
  pub living_next : in_order E (living order keys) p ≡ get_or order r.at 0 ∷ in_order E (living order keys') p
  living_next =
      let z : r.at - 0 ≡ r.at = omega arith in
      let first = rw (← e) at (living_at_first E p keys 0 order (omega (arith, q.long))
      (λ i l. rw (zero-add i) (q.own i l)) q.rise (rw e at h)) in
      rw z at first

  -- keys and tiles still go together
  pub keyed_next : Keyed E p order keys'
  keyed_next = record {
    long = let n = length-set keys r.at none in omega (arith, q.long);
    own = λ j l b. by_test (eqb j r.at)
        (λ t. absurd (let same = ap (λ (i : ℕ). get_or keys' i 0) (eqb-true j r.at t) in
        let w = get_or-set_same keys r.at none 0 (omega (arith, eqb-true j r.at t, q.long)) in
        omega arith))
        (λ t. let w = get_or-set_other keys r.at j none 0 (eqb-false j r.at t) in w ∙ q.own j l (omega arith));
    rise = q.rise;
  }

  -- and one fewer waits
  pub living_fewer : length (living order keys') < length (living order keys)
  living_fewer =
      let l = ap length living_next in
      omega (arith, sort-length (by_key E p) (living order keys), sort-length (by_key E p) (living order keys'))

  -- that tile is one of the order
  pub index_at : r.at < length order
  index_at = let here = rw (← e) at (least_here keys 0 (length order) (rw e at h)) in omega (arith, here.1)

  pub tile_in_order : (P : ℕ → Type 0) → All P order → P (get_or order r.at 0)
  tile_in_order P a = all_get_d P order r.at 0 index_at a

-- keys just filled
module _ (f : List ℕ) (h : Header) (dir : directory f ≡ accepted h) {p : List ℤ} (v : ValidStop h p) (order : List ℕ)
    (tiles : All (λ t. t < h.tiles) order) (keys : List ℕ) (long : length order ≤ length keys) where
  abbrev new_keys : List ℕ
  new_keys = over keys 0 (map (near (entries f h) p) order)

  new_keys_at : (j : ℕ) → j < length order → get_or new_keys j 0 ≡ near (entries f h) p (get_or order j 0)
  new_keys_at j l =
      let g = near (entries f h) p in
      let n = length-map order g in
      let z : 0 + j ≡ j = omega arith in
      rw z at (get_d_run keys 0 j (map g order) (omega arith) (omega arith)) ∙ get_d_map_lt g order j 0 0 l

  pub keyed_start : Strict ltb order → Keyed (entries f h) p order new_keys
  keyed_start rise = record {
    long = let n = length_over keys 0 (map (near (entries f h) p) order) in omega arith;
    own = λ j l b. new_keys_at j l;
    rise = rise;
  }

  -- all tiles wait
  pub living_start : living order new_keys ≡ order
  living_start = living_at-all new_keys 0 order
      (λ i l. rw (zero-add i) (let e = new_keys_at i l in
      omega (arith, near_bounded f h dir v (get_or order i 0) (all_get_d _ order i 0 l tiles))))
