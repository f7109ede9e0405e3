-- Laws of bytes that are all zero. Assumes nothing.
use Prim.Native.Nat.{ℕ, suc, ◌+◌, ◌-◌, ◌<◌, ◌≤◌}
use mathlib.Core.Bool.{true, false, ◌&&◌}
use mathlib.Core.List.{List}
use mathlib.Core.Path.{◌≡◌, ap, sym, ◌∙◌}
use native.Mathlib.Omega.{arith}
use lib.Dec.{eqb}
use lib.ListN.{get_or}
use borrow.Author.Tests.{eqb-true, eq-eqb}
use Rattle.base.specs.Every.{every}
use Rattle.codec.specs.Zeros.{zeros}
use Rattle.base.proofs.Every.{every_at, every_holds}
use Rattle.base.proofs.Tests.{by_test}

module _ (s : List ℕ) (a b : ℕ) where
  pub zeros_at : zeros s a b ≡ true → (i : ℕ) → a ≤ i → i < b → get_or s i 0 ≡ 0
  unfolding zeros
  zeros_at e i h l =
      let k : a + (i - a) ≡ i = omega arith in
      let z = every_at (λ j. eqb (get_or s (a + j) 0) 0) (b - a) (i - a) e (omega arith) in
      ap (λ j. get_or s j 0) (sym k) ∙ eqb-true (get_or s (a + (i - a)) 0) 0 z

  pub zeros_hold : ((i : ℕ) → i < b → a ≤ i → get_or s i 0 ≡ 0) → zeros s a b ≡ true
  unfolding zeros
  zeros_hold h =
      every_holds (λ j. eqb (get_or s (a + j) 0) 0) (b - a)
      (λ j l. eq-eqb (get_or s (a + j) 0) 0 (h (a + j) (omega arith) (omega arith)))

  pub zeros_none : b ≤ a → zeros s a b ≡ true
  unfolding zeros
  zeros_none l = zeros_hold (λ i u v. absurd (omega arith))

  pub zeros_next : a ≤ b → zeros s a (b + 1) ≡ zeros s a b && eqb (get_or s b 0) 0
  unfolding zeros every
  zeros_next l =
      let n : b + 1 - a ≡ suc (b - a) = omega arith in
      let k : a + (b - a) ≡ b = omega arith in
      rw n (ap (λ i. every (λ j. eqb (get_or s (a + j) 0) 0) (b - a) && eqb (get_or s i 0) 0) k)

  pub zeros_fail : (i : ℕ) → a ≤ i → i < b → (get_or s i 0 ≡ 0 → ⊥) → zeros s a b ≡ false
  zeros_fail i h l n = by_test (zeros s a b) (λ t. absurd (n (zeros_at t i h l))) (λ q. q)
