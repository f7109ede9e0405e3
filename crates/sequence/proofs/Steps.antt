-- The sequence over any relation: a free tile exists while any is left, what the sequence is, and that nothing else is
-- so.
use Prim.Native.Nat.{ℕ, zero, suc, ◌≤◌, ◌<◌}
use mathlib.Core.Bool.{Bool, true, false}
use mathlib.Core.List.{List, [], ◌∷◌, Memᴰ}
use mathlib.Core.Path.{◌≡◌, refl, sym, ◌∙◌}
use native.Mathlib.Omega.{arith}
use lib.Dec.{eqb}
use lib.ListN.{length, get_or, drop}
use borrow.Author.Tests.{eqb-true, eqb-false, eq-eqb}
use Rattle.search.specs.Lists.{count, filter, All, Distinct}
use Rattle.base.proofs.Tests.{clash, by_test}
use Rattle.search.proofs.Lists.{all_mem, mem_all, count_none, filter_mem}
use Rattle.sequence.specs.Claims.{StrictOrder, IsNext, IsSequence}
use Rattle.sequence.specs.Sequence.{without, lowest_of, free, next, steps}
use Rattle.sequence.proofs.Members.{not_nil, head_or, other, at_mem, mem_drop, none_counted, mem_filter}
use Rattle.sequence.proofs.Members.{lowest_mem, lowest_le}
use Rattle.sequence.proofs.Members.{mem_without, without_mem, length_without, without-distinct}

-- two lists with the same elements
abbrev pub Same : List ℕ → List ℕ → Type 0
Same l m = (x : ℕ) → (Memᴰ x l → Memᴰ x m) × (Memᴰ x m → Memᴰ x l)

module _ (closer : ℕ → ℕ → Bool) where
  -- each is the next of itself and the later ones
  abbrev pub EachNext : List ℕ → Type 0
  EachNext [] = Unit {0}
  EachNext (t ∷ l) = IsNext closer (t ∷ l) t × EachNext l

  -- the test and what it says
  pub free_is : (left : List ℕ) (b : ℕ) → free closer left b ≡ true → (a : ℕ) → Memᴰ a left → closer a b ≡ false
  unfolding free
  free_is left b e a m = none_counted (λ a. closer a b) (eqb-true (count (λ a. closer a b) left) 0 e) m

  pub is_free : (left : List ℕ) (b : ℕ) → ((a : ℕ) → Memᴰ a left → closer a b ≡ false)
      → free closer left b ≡ true
  unfolding free
  is_free left b h =
      eq-eqb (count (λ a. closer a b) left) 0 (count_none (λ a. closer a b) left (mem_all left h))

  -- where a free tile is left, the lowest is the next
  pub next_is : (left : List ℕ) (b : ℕ) → Memᴰ b left → free closer left b ≡ true
      → IsNext closer left (next closer left)
  unfolding next
  next_is left b m f =
      let all = filter (free closer left) left in
      let r = mem_filter (free closer left) left (low-mem all (filter_mem (free closer left) m f)) in
      record {
        here = r.0;
        foremost = free_is left (lowest_of all) r.1;
        least = λ c n h. lowest_le all (filter_mem (free closer left) n (is_free left c h));
      }
    where
      low-mem : (l : List ℕ) {x : ℕ} → Memᴰ x l → Memᴰ (lowest_of l) l
      low-mem [] n = not_nil n
      low-mem (y ∷ l) n = lowest_mem y l

  same_next : {l m : List ℕ} {t : ℕ} → Same l m → IsNext closer l t → IsNext closer m t
  same_next {l} {m} {t} s q = record {
    here = (s t).0 q.here;
    foremost = λ a n. q.foremost a ((s a).1 n);
    least = λ b n h. q.least b ((s b).1 n) (λ a o. h a ((s a).0 o));
  }

  -- ---- nothing else is so

  pub next_unique : {l m : List ℕ} {t u : ℕ} → Same l m → IsNext closer l t → IsNext closer m u → t ≡ u
  next_unique {l} {m} {t} {u} s p q =
      let a = p.least u ((s u).1 q.here) (λ a n. q.foremost a ((s a).0 n)) in
      let b = q.least t ((s t).0 p.here) (λ a n. p.foremost a ((s a).1 n)) in
      omega arith

  tail_in : {t u x : ℕ} {l m : List ℕ} → t ≡ u → Distinct (t ∷ l)
      → (Memᴰ x (t ∷ l) → Memᴰ x (u ∷ m)) → Memᴰ x l → Memᴰ x m
  tail_in e d f n = other (f (Memᴰ.tail n)) (λ g. all_mem (λ y. y ≡ _ → ⊥) d.0 n (g ∙ sym e))

  pub sequence_unique : (l m : List ℕ) → Distinct l → Distinct m → Same l m → EachNext l → EachNext m → l ≡ m
  sequence_unique [] [] d e s p q = refl
  sequence_unique [] (u ∷ m) d e s p q = not_nil ((s u).1 (Memᴰ.head refl))
  sequence_unique (t ∷ l) [] d e s p q = not_nil ((s t).0 (Memᴰ.head refl))
  sequence_unique (t ∷ l) (u ∷ m) d e s p q =
      let h = next_unique s p.0 q.0 in
      let ih = sequence_unique l m d.1 e.1 (λ x. (tail_in h d (s x).0, tail_in (sym h) e (s x).1))
      p.1 q.1 in
      cc

  -- ---- by place

  pub places_after : (l : List ℕ) → EachNext l → (i j : ℕ) → i < length l → j < length l
      → closer (get_or l i 0) (get_or l j 0) ≡ true → i < j
  places_after [] q i j g h e = absurd (omega arith)
  places_after (t ∷ l) q i zero g h e = clash e (q.0.foremost (get_or (t ∷ l) i 0) (at_mem (t ∷ l) i g))
  places_after (t ∷ l) q zero (suc j) g h e = omega arith
  places_after (t ∷ l) q (suc i) (suc j) g h e =
      let ih = places_after l q.1 i j (omega arith) (omega arith) e in omega arith

  pub place_next : (l : List ℕ) → EachNext l → (i : ℕ) → i < length l → IsNext closer (drop i l) (get_or l i 0)
  place_next [] q i h = absurd (omega arith)
  place_next (t ∷ l) q zero h = q.0
  place_next (t ∷ l) q (suc i) h = place_next l q.1 i (omega arith)

  -- an element stands at a place
  place_of : {x : ℕ} {l : List ℕ} → Memᴰ x l → (i : ℕ) × (i < length l) × (get_or l i 0 ≡ x)
  place_of (Memᴰ.head e) = (0, omega arith, sym e)
  place_of (Memᴰ.tail m) = let r = place_of m in (suc r.0, omega (arith, r.1), r.2)

  -- from the two sentences: each after every nearer one, and the lowest of those free
  pub each_next : (l : List ℕ)
      → ((i j : ℕ) → i < length l → j < length l → closer (get_or l i 0) (get_or l j 0) ≡ true → i < j)
      → ((i : ℕ) → i < length l → (b : ℕ) → Memᴰ b (drop i l)
      → ((a : ℕ) → Memᴰ a (drop i l) → closer a b ≡ false) → get_or l i 0 ≤ b)
      → EachNext l
  each_next [] after low = tt
  each_next (t ∷ l) after low = (
    record {
      here = Memᴰ.head refl;
      foremost = λ a m. by_test (closer a t) (λ e. first a (place_of m) e) (λ e. e);
      least = λ b m h. low 0 (omega arith) b m h;
    },
    each_next l (λ i j g h e. let k = after (suc i) (suc j) (omega arith) (omega arith) e in omega arith)
        (λ i h. low (suc i) (omega arith)),
  )
    where
      first : (a : ℕ) → (i : ℕ) × (i < length (t ∷ l)) × (get_or (t ∷ l) i 0 ≡ a) → closer a t ≡ true
          → closer a t ≡ false
      first a (i, h, q) e = absurd (let k = after i 0 h (omega arith) (rw q e) in omega arith)

  -- ---- the steps

  -- a list holds the tiles left, each once, each the next of those left
  pub record InSteps (left l : List ℕ) : Type 0 where
    pub same : Same left l
    pub once : Distinct l
    pub nexts : EachNext l

  one_more : (left : List ℕ) (t : ℕ) (l : List ℕ) → IsNext closer left t → InSteps (without t left) l
      → InSteps left (t ∷ l)
  one_more left t l q r = record {
    same = same;
    once = (mem_all l (λ y m. (mem_without t left ((r.same y).1 m)).1), r.once);
    nexts = (same_next same q, r.nexts);
  }
    where
      same : Same left (t ∷ l)
      same x = (
        λ m. by_test (eqb x t) (λ e. Memᴰ.head (eqb-true x t e))
            (λ e. Memᴰ.tail ((r.same x).0 (without_mem t left m (eqb-false x t e)))),
        λ m. head_or m (λ e. rw e q.here) (λ n. (mem_without t left ((r.same x).1 n)).0),
      )

  pub length_steps : (n : ℕ) (left : List ℕ) → length (steps closer n left) ≡ n
  unfolding steps
  length_steps zero left = refl
  length_steps (suc n) left = let ih = length_steps n (without (next closer left) left) in omega arith

  module _ (T : ℕ) (strict : StrictOrder closer T) where
    -- Some tile is free while any is left. Of the later ones b is free by induction. Where the first, x, is nearer than
    -- b, x is free: what is nearer than x would be nearer than b. Otherwise b still is.
    pub some_free : (x : ℕ) (l : List ℕ) → All (λ t. t < T) (x ∷ l)
        → (b : ℕ) × Memᴰ b (x ∷ l) × (free closer (x ∷ l) b ≡ true)
    some_free x [] h = (
      x,
      Memᴰ.head refl,
      is_free (x ∷ []) x (λ a m. head_or m (λ e. rw e (strict.irreflexive x h.0)) (λ n. not_nil n)),
    )
    some_free x (y ∷ l) h = step (some_free y l h.1)
      where
        small : {t : ℕ} → Memᴰ t (y ∷ l) → t < T
        small m = all_mem (λ t. t < T) h.1 m

        step : (b : ℕ) × Memᴰ b (y ∷ l) × (free closer (y ∷ l) b ≡ true)
            → (b : ℕ) × Memᴰ b (x ∷ y ∷ l) × (free closer (x ∷ y ∷ l) b ≡ true)
        step (b, m, f) =
            by_test (closer x b)
            (λ e. (
              x,
              Memᴰ.head refl,
              is_free (x ∷ y ∷ l) x (λ a n. head_or n
                  (λ q. rw q (strict.irreflexive x h.0))
                  (λ o. by_test (closer a x)
                  (λ c. clash (strict.transitive a x b (small o) h.0 (small m) c e) (free_is (y ∷ l) b f a o))
                  (λ c. c))),
            ))
            (λ e. (
              b,
              Memᴰ.tail m,
              is_free (x ∷ y ∷ l) b (λ a n. head_or n (λ q. rw q e) (λ o. free_is (y ∷ l) b f a o)),
            ))

    -- so any tiles left have a next one
    pub next_exists : (left : List ℕ) → 0 < length left → All (λ t. t < T) left → IsNext closer left (next closer left)
    next_exists [] e h = absurd (omega arith)
    next_exists (x ∷ l) e h = let f = some_free x l h in next_is (x ∷ l) f.0 f.1 f.2

    -- n steps from n tiles left
    pub stepped : (n : ℕ) (left : List ℕ) → length left ≡ n → All (λ t. t < T) left → Distinct left
        → InSteps left (steps closer n left)
    unfolding steps
    stepped zero [] e h d = record { same = λ x. (λ m. m, λ m. m); once = tt; nexts = tt }
    stepped zero (x ∷ l) e h d = absurd (omega arith)
    stepped (suc n) [] e h d = absurd (omega arith)
    stepped (suc n) (x ∷ l) e h d =
        let t = next closer (x ∷ l) in
        let q : IsNext closer (x ∷ l) t = next_exists (x ∷ l) (omega arith) h in
        let k = length_without t d q.here in
        one_more (x ∷ l) t (steps closer n (without t (x ∷ l))) q
        (stepped n (without t (x ∷ l)) (omega arith)
        (mem_all (without t (x ∷ l)) (λ y m. all_mem (λ t. t < T) h (mem_without t (x ∷ l) m).0))
        (without-distinct t (x ∷ l) d))

-- a relation that is the same between tiles has the same sequence
pub same_sequence : {closer closer' : ℕ → ℕ → Bool} {T : ℕ} {l : List ℕ}
    → ((a b : ℕ) → a < T → b < T → closer' a b ≡ closer a b) → IsSequence closer T l → IsSequence closer' T l
same_sequence {l = l} same s = record {
  all = s.all;
  once = s.once;
  after = λ i j g h e.
      s.after i j g h (sym (same _ _ ((s.all _).0 (at_mem l i g)) ((s.all _).0 (at_mem l j h))) ∙ e);
  lowest = λ i h b m free.
      s.lowest i h b m (λ a n.
      sym (same a b ((s.all a).0 (mem_drop i l n)) ((s.all b).0 (mem_drop i l m))) ∙ free a n);
}
