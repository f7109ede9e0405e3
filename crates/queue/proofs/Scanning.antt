-- The scan for the least key, one key at a time: up from an index, then down from it. What the least key is, and what
-- is known once it was taken.
use Prim.Native.Nat.{ℕ, zero, suc, ◌+◌, ◌-◌, ◌<◌, ◌≤◌}
use mathlib.Core.List.{List}
use mathlib.Core.Path.{◌≡◌, refl, sym, ap, ◌∙◌}
use native.Mathlib.Numerals.{add-one}
use native.Mathlib.Omega.{arith}
use lib.Dec.{eqb, leb, ltb}
use lib.ListN.{length, get_or, set}
use lib.Seq.{get_or-set_same, get_or-set_other}
use borrow.Author.Tests.{eqb-true, eqb-false, leb-true, leb-false, le-leb, lt-leb, le-ltb, lt-ltb, ltb-true, ltb-false}
use Rattle.std.proofs.Common.{Some, None}
use Rattle.base.proofs.Tests.{by_test}
use Rattle.search.proofs.Lists.{up_to_next}
use Rattle.queue.specs.Inner.Keys.{none, lower, least_key, some_key, Passed}
use Rattle.queue.specs.declared.keys.Least.{Least}

-- ---- of two

module _ (x y : Least) where
  lower_first : x.key ≤ y.key → lower x y ≡ x
  lower_first h = rw (le-leb x.key y.key h)

  lower_second : y.key < x.key → lower x y ≡ y
  lower_second h = rw (lt-leb x.key y.key h)

-- a third one between
module _ (r x y : Least) where
  third_new : x.key < r.key → lower r (lower x y) ≡ lower x y
  third_new h = by_test (leb x.key y.key)
      (λ e. rw e (lower_second r x h))
      (λ e. rw e (lower_second r y (omega (arith, leb-false x.key y.key e))))

  third_same : r.key ≤ x.key → lower r (lower x y) ≡ lower r y
  third_same h = by_test (leb x.key y.key)
      (λ e. rw e (lower_first r x h ∙ sym (lower_first r y (omega (arith, leb-true x.key y.key e)))))
      (λ e. rw e)

module _ (keys : List ℕ) where
  abbrev key_at : ℕ → Least
  key_at j = record { at = j; key = get_or keys j 0 }

  -- ---- the least of some keys

  pub least_low : (a n i : ℕ) → a ≤ i → i < a + n → (least_key keys a n).key ≤ get_or keys i 0
  unfolding least_key
  least_low a zero i h l = absurd (omega arith)
  least_low a (suc n) i h l =
      let rest = (least_key keys (suc a) n).key in
      let ih : (a ≡ i → ⊥) → rest ≤ get_or keys i 0 = λ d. least_low (suc a) n i (omega (arith, d)) (omega arith) in
      by_test (eqb a i)
      (λ e. let same = eqb-true a i e in rw (← same) (by_test (leb (get_or keys a 0) rest)
      (λ t. rw t (omega arith))
      (λ t. rw t (omega (arith, leb-false (get_or keys a 0) rest t)))))
      (λ e. let m = ih (eqb-false a i e) in by_test (leb (get_or keys a 0) rest)
      (λ t. rw t (omega (arith, leb-true (get_or keys a 0) rest t)))
      (λ t. rw t m))

  least_first : (a n i : ℕ) → a ≤ i → i < (least_key keys a n).at → (least_key keys a n).key < get_or keys i 0
  unfolding least_key
  least_first a zero i h l = absurd (omega arith)
  least_first a (suc n) i h l =
      let rest = least_key keys (suc a) n in
      by_test (leb (get_or keys a 0) rest.key)
      (λ t. absurd (let b = rw t at l in omega arith))
      (λ t. let b = rw t at l in
      rw t (by_test (eqb a i)
      (λ e. let same = eqb-true a i e in rw (← same) (leb-false (get_or keys a 0) rest.key t))
      (λ e. let d : a ≡ i → ⊥ = eqb-false a i e in least_first (suc a) n i (omega (arith, d)) b)))

  pub least_here : (a n : ℕ) → (least_key keys a n).key < none
      → (a ≤ (least_key keys a n).at) × ((least_key keys a n).at < a + n)
      × (get_or keys (least_key keys a n).at 0 ≡ (least_key keys a n).key)
  unfolding least_key
  least_here a zero h = absurd (omega arith)
  least_here a (suc n) h =
      let rest = least_key keys (suc a) n in
      by_test (leb (get_or keys a 0) rest.key)
      (λ t. rw t (omega arith, omega arith, refl))
      (λ t. let b = least_here (suc a) n (rw t at h) in rw t (omega (arith, b.0), omega (arith, b.1), b.2))

  least_floor : (v a n : ℕ) → v ≤ none → ((i : ℕ) → i < a + n → v ≤ get_or keys i 0) → v ≤ (least_key keys a n).key
  unfolding least_key
  least_floor v a zero c h = c
  least_floor v a (suc n) c h =
      let rest = (least_key keys (suc a) n).key in
      let ih = least_floor v (suc a) n c (λ i l. h i (omega arith)) in
      by_test (leb (get_or keys a 0) rest) (λ t. rw t (h a (omega arith))) (λ t. rw t ih)

  -- a key that no other is below, and that is the first of its kind
  least_is : (j a n : ℕ) → get_or keys j 0 ≤ none → a ≤ j → j < a + n
      → ((i : ℕ) → a ≤ i → i < j → get_or keys j 0 < get_or keys i 0)
      → ((i : ℕ) → i < a + n → get_or keys j 0 ≤ get_or keys i 0) → key_at j ≡ least_key keys a n
  unfolding least_key
  least_is j a zero c h l f g = absurd (omega arith)
  least_is j a (suc n) c h l f g = by_test (eqb a j)
      (λ e. let same : a ≡ j = eqb-true a j e in
      let low = least_floor (get_or keys j 0) (suc a) n c (λ i b. g i (omega arith)) in
      rw same (sym (lower_first (key_at j) (least_key keys (suc j) n) (rw same at low))))
      (λ e. let d : a ≡ j → ⊥ = eqb-false a j e in
      let ih = least_is j (suc a) n c (omega (arith, d)) (omega arith) (λ i b. f i (omega arith))
      (λ i b. g i (omega arith)) in
      let low = f a (omega arith) (omega (arith, d)) in
      ih ∙ sym (lower_second (key_at a) (least_key keys (suc a) n) (omega (arith, ap (λ (r : Least). r.key) ih))))

  -- only none
  least-none : (a n : ℕ) → ((i : ℕ) → get_or keys i 0 ≤ none) → none ≤ (least_key keys a n).key
      → record { at = a; key = none } ≡ least_key keys a n
  unfolding least_key
  least-none a zero c h = refl
  least-none a (suc n) c h =
      let rest = (least_key keys (suc a) n).key in
      by_test (leb (get_or keys a 0) rest)
      (λ t. let k = c a in
      let e : none ≡ get_or keys a 0 = omega (arith, rw t at h) in
      rw (t, ← e))
      (λ t. let k = c a in absurd (omega (arith, rw t at h, leb-false (get_or keys a 0) rest t)))

-- ---- an answer: nothing where no key is left

pub key_is_some : (r : Least) → r.key < none → Some r ≡ some_key r
unfolding some_key
key_is_some r h = rw (lt-ltb r.key none h)

pub key_is_none : (r : Least) → none ≤ r.key → None ≡ some_key r
unfolding some_key
key_is_none r h = rw (le-ltb r.key none h)

-- and back
pub some_key-some : (r x : Least) → Some x ≡ some_key r → (x ≡ r) × (x.key < none)
unfolding some_key
some_key-some r x e = by_test (ltb r.key none)
    (λ t. let q : x ≡ r = cc (rw t at e) in (q, rw q (ltb-true r.key none t)))
    (λ t. cc (rw t at e))

pub some_key-none : (r : Least) → None ≡ some_key r → none ≤ r.key
unfolding some_key
some_key-none r e = by_test (ltb r.key none) (λ t. cc (rw t at e)) (λ t. ltb-false r.key none t)

-- ---- the scan up: r is the least of the keys from `from` to before j, none of which is like the bound

pub record Scanning (keys : List ℕ) (m from bound : ℕ) (r : Least) (j : ℕ) : Type 0 where
  pub onward : from ≤ j
  pub inside : j ≤ m
  pub capped : r.key ≤ none
  pub above : (i : ℕ) → from ≤ i → i < j → bound < get_or keys i 0
  pub rest : lower r (least_key keys j (m - j)) ≡ least_key keys from (m - from)

-- one key more
least_next : (keys : List ℕ) (m j : ℕ) → j < m
    → least_key keys j (m - j) ≡ lower (key_at keys j) (least_key keys (j + 1) (m - (j + 1)))
unfolding least_key
least_next keys m j h = let e : m - j ≡ suc (m - suc j) = omega arith in rw (e, add-one j)

pub scanning_starts : (keys : List ℕ) (m from bound : ℕ) → ((i : ℕ) → get_or keys i 0 ≤ none) → from ≤ m
    → Scanning keys m from bound (record { at = from; key = none }) from
scanning_starts keys m from bound small h =
    let all = least_key keys from (m - from) in
    let start : Least = record { at = from; key = none } in
    record {
      onward = omega arith;
      inside = h;
      capped = omega arith;
      above = λ i l u. absurd (omega arith);
      rest = by_test (leb none all.key)
          (λ t. rw t (least-none keys from (m - from) small (leb-true none all.key t)))
          (λ t. rw t);
    }

module _ {keys : List ℕ} {m from bound : ℕ} {r : Least} {j : ℕ} (s : Scanning keys m from bound r j) where
  pub scanning_new : j < m → bound < get_or keys j 0 → get_or keys j 0 < r.key
      → Scanning keys m from bound (key_at keys j) (j + 1)
  scanning_new l b h = record {
    onward = omega (arith, s.onward);
    inside = omega arith;
    capped = omega (arith, s.capped);
    above = up_to_next (λ i. bound < get_or keys i 0) from j s.above b;
    rest = sym (third_new r (key_at keys j) (least_key keys (j + 1) (m - (j + 1))) h)
        ∙ ap (lower r) (sym (least_next keys m j l)) ∙ s.rest;
  }

  pub scanning_same : j < m → bound < get_or keys j 0 → r.key ≤ get_or keys j 0 → Scanning keys m from bound r (j + 1)
  scanning_same l b h = record {
    onward = omega (arith, s.onward);
    inside = omega arith;
    capped = s.capped;
    above = up_to_next (λ i. bound < get_or keys i 0) from j s.above b;
    rest = sym (third_same r (key_at keys j) (least_key keys (j + 1) (m - (j + 1))) h)
        ∙ ap (lower r) (sym (least_next keys m j l)) ∙ s.rest;
  }

  pub scanning_done : m ≤ j → r ≡ least_key keys from (m - from)
  unfolding least_key
  scanning_done h =
      let e : m - j ≡ 0 = omega arith in
      sym (lower_first r (record { at = j; key = none }) s.capped) ∙ rw e at s.rest

  -- the next key is like the last one
  pub like_last : Passed keys m from bound → j < m → get_or keys j 0 ≡ bound
      → record { at = j; key = bound } ≡ least_key keys 0 m
  like_last p l e = rw (← e) (least_is keys j 0 m (omega (arith, p.real)) (omega arith) (omega arith)
      (λ i a b. rw e (by_test (ltb i from)
      (λ t. p.behind i (ltb-true i from t))
      (λ t. s.above i (ltb-false i from t) b)))
      (λ i b. rw e (p.bounded i (omega arith))))

-- ---- the scan down

module _ (keys : List ℕ) (m j : ℕ) (r : Least) (l : j < m) (e : r ≡ least_key keys (j + 1) (m - (j + 1))) where
  pub earlier_new : get_or keys j 0 ≤ r.key → key_at keys j ≡ least_key keys j (m - j)
  earlier_new h = sym (least_next keys m j l ∙ ap (lower (key_at keys j)) (sym e) ∙ lower_first (key_at keys j) r h)

  pub earlier_same : r.key < get_or keys j 0 → r ≡ least_key keys j (m - j)
  earlier_same h = sym (least_next keys m j l ∙ ap (lower (key_at keys j)) (sym e) ∙ lower_second (key_at keys j) r h)

-- ---- what is known once a key was taken

module _ (keys : List ℕ) (m : ℕ) where
  -- before anything is taken
  pub passed_none : Passed keys m 0 0
  passed_none = record {
    inside = omega arith;
    real = omega arith;
    bounded = λ j l. omega arith;
    behind = λ j l. absurd (omega arith);
  }

  -- the least one is taken
  pub passed_next : (r : Least) → r ≡ least_key keys 0 m → r.key < none → m ≤ length keys
      → Passed (set keys r.at none) m (r.at + 1) r.key
  passed_next r e h long =
      let here = rw (← e) at (least_here keys 0 m (rw e at h)) in
      let room : r.at < length keys = omega (arith, here.1) in
      record {
        inside = omega (arith, here.1);
        real = h;
        bounded = λ j l. one_set (λ v. r.key ≤ v) r.at j room (omega arith)
            (λ n. rw (← e) at (least_low keys 0 m j (omega arith) (omega arith)));
        behind = λ j l. one_set (λ v. r.key < v) r.at j room h
            (λ n. rw (← e) at (least_first keys 0 m j (omega arith) (rw e at (below j l n))));
      }
    where
      below : (j : ℕ) → j < r.at + 1 → (j ≡ r.at → ⊥) → j < r.at
      below j l n = omega (arith, n)

      -- an element of a list in which one was replaced
      one_set : (P : ℕ → Type 0) (i j : ℕ) → i < length keys → P none → ((j ≡ i → ⊥) → P (get_or keys j 0))
          → P (get_or (set keys i none) j 0)
      one_set P i j h here others = by_test (eqb j i)
          (λ e. let q : j ≡ i = eqb-true j i e in rw (q, get_or-set_same keys i none 0 h) here)
          (λ e. let n : j ≡ i → ⊥ = eqb-false j i e in rw (get_or-set_other keys i j none 0 n) (others n))
