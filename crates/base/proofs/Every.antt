-- Laws of a test of many numbers. Assumes nothing.
--
--   every_at, every_holds, every_fails   from all to one, from each to all, one that fails
--   every_first                          the first number taken out
--   every-same                           tests that agree
--   every_range                          the numbers of a range, as an iterator gives them
use Prim.Native.Nat.{ℕ, zero, suc, ◌+◌, ◌<◌}
use mathlib.Core.Bool.{Bool, true, false, ◌&&◌, and-true, and_assoc}
use mathlib.Core.Logic.{⊎_elim}
use mathlib.Core.Path.{◌≡◌, refl, ap, ◌∙◌}
use native.Mathlib.Nat.{add-zero, zero-add, not-suc-le-zero, eq-or-lt_of_le, le_of_suc-le-suc}
use native.Mathlib.Omega.{arith}
use Rattle.std.specs.List.{range_with_len, list_all}
use Rattle.base.specs.Every.{every}
use Rattle.base.proofs.Tests.{and_both, both_and, by_test, clash}

module _ (f : ℕ → Bool) where
  pub every_at : (n i : ℕ) → every f n ≡ true → i < n → f i ≡ true
  unfolding every
  every_at zero i e l = absurd (not-suc-le-zero l)
  every_at (suc n) i e l =
      let h = and_both (every f n) (f n) e in
      ⊎_elim (λ q. ap f q ∙ h.1) (λ k. every_at n i h.0 k) (eq-or-lt_of_le (le_of_suc-le-suc l))

  pub every_holds : (n : ℕ) → ((i : ℕ) → i < n → f i ≡ true) → every f n ≡ true
  unfolding every
  every_holds zero h = refl
  every_holds (suc n) h = both_and (every_holds n (λ i l. h i (omega arith))) (h n (omega arith))

  pub every_fails : (n i : ℕ) → i < n → f i ≡ false → every f n ≡ false
  every_fails n i l e = by_test (every f n) (λ t. clash (every_at n i t l) e) (λ q. q)

-- the first number taken out
pub every_first : (f : ℕ → Bool) (n : ℕ) → every f (suc n) ≡ f 0 && every (λ i. f (suc i)) n
unfolding every
every_first f zero = rw and-true
every_first f (suc n) = rw (every_first f n) (and_assoc (f 0) (every (λ i. f (suc i)) n) (f (suc n)))

-- tests that agree below n
pub every-same : (f g : ℕ → Bool) (n : ℕ) → ((i : ℕ) → i < n → f i ≡ g i) → every f n ≡ every g n
unfolding every
every-same f g zero h = refl
every-same f g (suc n) h = rw (every-same f g n (λ i l. h i (omega arith)), h n (omega arith))

-- the numbers of a range, as an iterator gives them
range_from : (f : ℕ → Bool) (a n : ℕ) → list_all f (range_with_len a n) ≡ every (λ i. f (a + i)) n
unfolding every
range_from f a zero = refl
range_from f a (suc n) =
    let rest = every-same (λ i. f (a + 1 + i)) (λ i. f (a + suc i)) n (λ i _. ap f (omega arith)) in
    rw (every_first (λ i. f (a + i)) n, range_from f (a + 1) n, rest, add-zero)

pub every_range : (f : ℕ → Bool) (n : ℕ) → list_all f (range_with_len 0 n) ≡ every f n
every_range f n = range_from f 0 n ∙ every-same (λ i. f (0 + i)) f n (λ i _. ap f (zero-add i))
