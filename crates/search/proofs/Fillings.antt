-- Fillings of a tile: how many of their sites rank, that there is one, and one with another site in a slot.
use Prim.Native.Nat.{ℕ, zero, suc, ◌+◌, ◌-◌, ◌<◌}
use mathlib.Core.Bool.{Bool, true, false, not}
use mathlib.Core.List.{List, [], ◌∷◌, ◌++◌}
use mathlib.Core.Path.{◌≡◌, refl}
use native.Mathlib.Omega.{arith}
use lib.Dec.{eqb, ltb}
use lib.ListN.{length, replicate, length-append, length-replicate}
use borrow.Author.Tests.{eqb-true, eq-eqb, ltb-true, ltb-false}
use Rattle.base.proofs.Tests.{by_test}
use Rattle.search.specs.FullSearch.{refill}
use Rattle.search.specs.Lists.{count, All}
use Rattle.search.specs.Plan.{Geometry, Directory, Lawful, ranked, Town, Fills, Agrees}
use Rattle.search.proofs.Lists.{all_append, all_left, all_right, count-append}

all_replicate : {A : Type 0} (P : A → Type 0) (n : ℕ) (x : A) → P x → All P (replicate n x)
all_replicate P zero x h = tt
all_replicate P (suc n) x h = (h, all_replicate P n x h)

-- how many pass a test, and how many do not
count_both : {A : Type 0} (p : A → Bool) (l : List A) → count p l + count (λ a. not (p a)) l ≡ length l
unfolding count
count_both p [] = refl
count_both p (x ∷ l) =
    let ih = count_both p l in
    by_test (p x) (λ e. rw e (omega arith)) (λ e. rw e (omega arith))

module _ {G : Geometry} (E : Directory G) where
  open G use {Site, Stop, cue, ranks, Inside, Within, D, min_dist}
  open E use {tiles, box, size, muted}

  abbrev mute : Site → Bool
  mute s = not (ranks s)

  pub ranked_count : (t : ℕ) (f : List Site) → Fills E t f → count ranks f ≡ ranked E t
  unfolding ranked
  ranked_count t f h = omega (arith, count_both ranks f, h.counted, h.muted_counted)

  -- another site that ranks in the slot of one
  pub refit : (t : ℕ) (a b : List Site) (s q : Site) → Fills E t (a ++ s ∷ b) → ranks s ≡ true → ranks q ≡ true
      → Inside (box t) q → Fills E t (a ++ q ∷ b)
  unfolding count
  refit t a b s q h rs rq i = record {
    counted = let u = h.counted in let v = length-append a (s ∷ b) in let w = length-append a (q ∷ b) in omega arith;
    muted_counted =
        let v = rw rs at (count-append mute a (s ∷ b)) in
        let w = rw rq at (count-append mute a (q ∷ b)) in
        omega (arith, h.muted_counted);
    inside = all_append (Inside (box t)) a (q ∷ b) (all_left (Inside (box t)) a (s ∷ b) h.inside)
        (i, (all_right (Inside (box t)) a (s ∷ b) h.inside).1);
  }

  -- so many sites that do not rank, and so many that do
  count_mute : (n : ℕ) (q : Site) → (0 < n → ranks q ≡ false) → count mute (replicate n q) ≡ n
  unfolding count
  count_mute zero q h = refl
  count_mute (suc n) q h =
      let ih = count_mute n q (λ l. h (omega arith)) in
      rw (h (omega arith)) (omega arith)

  count_loud : (n : ℕ) (q : Site) → ranks q ≡ true → count mute (replicate n q) ≡ 0
  unfolding count
  count_loud zero q h = refl
  count_loud (suc n) q h = let ih = count_loud n q h in rw h (omega arith)

  module _ {O : G.Box} (L : Lawful E O) (p : Stop) (home : Within O p) (t : ℕ) (ht : t < tiles) where
    -- a site at the least distance that ranks, with another cue
    pub another_site : (c : ℕ) → (q : Site) × Inside (box t) q × (D p q ≡ min_dist p (box t)) × (cue q ≡ c → ⊥) ×
        (ranks q ≡ true)
    another_site c = L.min_dist_reached p t c home ht

    -- m for the sites that do not rank, q for those that do
    filling : (m q : Site) → Inside (box t) m → (0 < muted t → ranks m ≡ false) → Inside (box t) q → ranks q ≡ true
        → (f : List Site) × Fills E t f
    filling m q im rm iq rq =
        let a = replicate (muted t) m in
        let b = replicate (size t - muted t) q in (
          a ++ b,
          record {
            counted = omega (
              arith,
              length-append a b,
              length-replicate (muted t) m,
              length-replicate (size t - muted t) q,
              L.muted_few t ht,
            );
            muted_counted = omega (
              arith,
              count-append mute a b,
              count_mute (muted t) m rm,
              count_loud (size t - muted t) q rq,
            );
            inside = all_append (Inside (box t)) a b (all_replicate (Inside (box t)) (muted t) m im)
                (all_replicate (Inside (box t)) (size t - muted t) q iq);
          },
        )

    pub some_filling : (f : List Site) × Fills E t f
    some_filling =
        let q = L.min_dist_reached p t 0 home ht in
        by_test (ltb 0 (muted t))
        (λ e.
        let m = L.muted_inside t ht (ltb-true 0 (muted t) e) in
        filling m.0 q.0 m.1 (λ l. m.2) q.1 q.4)
        (λ e. filling q.0 q.0 q.1 (λ l. absurd (omega (arith, ltb-false 0 (muted t) e))) q.1 q.4)

  -- ---- a town with another filling of a tile

  pub refill_here : (g : Town G) (t : ℕ) (f : List Site) → refill G g t f t ≡ f
  unfolding refill
  refill_here g t f = rw (eq-eqb t t refl)

  pub refill_there : (g : Town G) (t : ℕ) (f : List Site) (u : ℕ) → eqb u t ≡ false → refill G g t f u ≡ g u
  unfolding refill
  refill_there g t f u e = rw e

  pub refill_agrees : (g : Town G) (t : ℕ) (f : List Site) → Agrees E g → Fills E t f → Agrees E (refill G g t f)
  refill_agrees g t f ag h u hu = by_test (eqb u t)
      (λ i. let j = eqb-true u t i in rw (j, refill_here g t f) h)
      (λ i. rw (refill_there g t f u i) (ag u hu))
