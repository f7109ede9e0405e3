-- Laws of how many numbers pass a test. Assumes nothing.
--
--   bit-small, bit_byte            a test as a number
--   how_many_most, how_many_none   at most all, and none
--   how_many_first                 the first number taken out
--   how_many_same                  tests that agree
use Prim.Native.Nat.{ℕ, zero, suc, ◌+◌, ◌≤◌, ◌<◌}
use mathlib.Core.Bool.{Bool, true, false}
use mathlib.Core.Path.{◌≡◌, refl}
use native.Mathlib.Omega.{arith}
use mir.Val.{bool_byte}
use Rattle.base.specs.HowMany.{bit, how_many}
use Rattle.base.proofs.Tests.{by_test}

pub bit-small : (b : Bool) → bit b ≤ 1
bit-small true = omega arith
bit-small false = omega arith

pub bit_byte : (b : Bool) → bool_byte b ≡ bit b
bit_byte true = refl
bit_byte false = refl

pub how_many_most : (f : ℕ → Bool) (n : ℕ) → how_many f n ≤ n
unfolding how_many
how_many_most f zero = omega arith
how_many_most f (suc n) =
    let ih = how_many_most f n in
    by_test (f n) (λ e. rw e (omega arith)) (λ e. rw e (omega arith))

pub how_many_none : (f : ℕ → Bool) (n : ℕ) → ((i : ℕ) → i < n → f i ≡ false) → how_many f n ≡ 0
unfolding how_many
how_many_none f zero h = refl
how_many_none f (suc n) h = rw (how_many_none f n (λ i l. h i (omega arith)), h n (omega arith))

-- the first number taken out
pub how_many_first : (f : ℕ → Bool) (n : ℕ) → how_many f (suc n) ≡ bit (f 0) + how_many (λ i. f (suc i)) n
unfolding how_many
how_many_first f zero = omega arith
how_many_first f (suc n) = let ih = how_many_first f n in omega (arith, ih)

-- tests that agree below n
pub how_many_same : (f g : ℕ → Bool) (n : ℕ) → ((i : ℕ) → i < n → f i ≡ g i) → how_many f n ≡ how_many g n
unfolding how_many
how_many_same f g zero h = refl
how_many_same f g (suc n) h = rw (how_many_same f g n (λ i l. h i (omega arith)), h n (omega arith))
