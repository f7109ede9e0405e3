-- Laws of sums, and of numbers that are alike modulo 255. Assumes nothing.
--
--   sum_next, sum_end                  a sum with its next number; one with all lanes
--   sum_same, sum_plus                 sums of equal numbers; the sum of f j + g j
--   Alike                              the same modulo 255
--   alike_shift                        a multiple of 255 does not matter
--   alike_plus, alike_times, alike_sum   sums and multiples of numbers that are alike
use Prim.Native.Nat.{ℕ, zero, suc, ◌+◌, ◌*◌, ◌/◌, ◌%◌, ◌<◌}
use mathlib.Core.Path.{◌≡◌, refl, sym, ap, ◌∙◌}
use native.Mathlib.Numerals.{add-one}
use native.Mathlib.Omega.{arith}
use Rattle.blocks.specs.Inner.Lanes.{lanes, sum_to}

module _ (f : ℕ → ℕ) (n : ℕ) {sum : ℕ} (e : sum ≡ sum_to f n) where
  pub sum_next : sum + f n ≡ sum_to f (n + 1)
  unfolding sum_to
  sum_next = rw add-one (ap (λ s. s + f n) e)

  pub sum_end : n ≡ lanes → sum ≡ sum_to f lanes
  sum_end q = e ∙ ap (sum_to f) q

pub record Alike (x y : ℕ) : Type 0 where
  pub same : x % 255 ≡ y % 255

pub alike_shift : (x k : ℕ) → Alike (x + 255 * k) x
alike_shift x k = record { same = omega arith }

pub alike_plus : {x y z w : ℕ} → Alike x y → Alike z w → Alike (x + z) (y + w)
alike_plus a b = record { same = omega (arith, a.same, b.same) }

times : (k x : ℕ) → k * x % 255 ≡ k * (x % 255) % 255
times k x =
    let e : x ≡ x % 255 + 255 * (x / 255) = omega arith in
    let m : k * x ≡ k * (x % 255) + 255 * (k * (x / 255)) = ap (λ y. k * y) e ∙ omega arith in
    ap (λ y. y % 255) m ∙ (alike_shift (k * (x % 255)) (k * (x / 255))).same

pub alike_times : (k : ℕ) {x y : ℕ} → Alike x y → Alike (k * x) (k * y)
alike_times k {x} {y} a = record { same = times k x ∙ ap (λ z. k * z % 255) a.same ∙ sym (times k y) }

module _ (f g : ℕ → ℕ) where
  pub sum_same : (n : ℕ) → ((j : ℕ) → j < n → f j ≡ g j) → sum_to f n ≡ sum_to g n
  unfolding sum_to
  sum_same zero e = refl
  sum_same (suc n) e = rw (sum_same n (λ j l. e j (omega arith)), e n (omega arith))

  pub sum_plus : (n : ℕ) → sum_to (λ j. f j + g j) n ≡ sum_to f n + sum_to g n
  unfolding sum_to
  sum_plus zero = refl
  sum_plus (suc n) = let e = sum_plus n in omega (arith, e)

  pub alike_sum : (n : ℕ) → ((j : ℕ) → j < n → Alike (f j) (g j)) → Alike (sum_to f n) (sum_to g n)
  unfolding sum_to
  alike_sum zero e = record { same = refl }
  alike_sum (suc n) e = alike_plus (alike_sum n (λ j l. e j (omega arith))) (e n (omega arith))
