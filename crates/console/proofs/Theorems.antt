-- The theorem of this crate for the reader. The call is `answer::respond`, its definition `output` (specs/Output), as
-- its contract says for every input. The numbers in it are `decimal` (specs/Text), and `decimal_exact` says that these
-- are "in decimal" (`InDecimal`, specs/Claims). The twelve cases are computed in proofs/Cases. Assumes nothing.
use Prim.Native.Nat.{ℕ, zero, suc, ◌+◌, ◌*◌, ◌-◌, ◌/◌, ◌%◌, ◌^◌, ◌<◌}
use mathlib.Core.List.{List, [], ◌∷◌, ◌++◌}
use mathlib.Core.Path.{◌≡◌, refl, ◌∙◌}
use native.Mathlib.Nat.{pow-suc}
use native.Mathlib.Omega.{arith}
use lib.Dec.{ltb}
use lib.ListN.{length, get_or, get_or-append}
use borrow.Author.Tests.{ltb-true, ltb-false}
use Rattle.base.specs.Lists.{All}
use Rattle.base.proofs.Tests.{cond_ind, by_test}
use Rattle.search.proofs.Lists.{all_append}
use Rattle.console.specs.Claims.{Digit, InDecimal}
use Rattle.console.specs.Text.{width_up_to, width, digits, decimal, value_from}
use Rattle.console.proofs.TextLaws.{length_digits, below_power}

value_last : (a : ℕ) (l : List ℕ) (c : ℕ) → value_from a (l ++ c ∷ []) ≡ 10 * value_from a l + (c - 48)
unfolding value_from
value_last a [] c = refl
value_last a (d ∷ l) c = value_last (10 * a + (d - 48)) l c

value_digits : (w n : ℕ) → n < 10 ^ w → value_from 0 (digits w n) ≡ n
unfolding digits value_from
value_digits zero n h = omega arith
value_digits (suc w) n h =
    let rest = value_digits w (n / 10) (omega (arith, h, pow-suc 10 w)) in
    value_last 0 (digits w (n / 10)) (48 + n % 10) ∙ rw rest (omega arith)

width_enough : (more n : ℕ) → n < 10 ^ suc more → n < 10 ^ width_up_to more n
unfolding width_up_to
width_enough zero n h = h
width_enough (suc more) n h = cond_ind (ltb n 10) 1 (suc (width_up_to more (n / 10))) (λ w. n < 10 ^ w)
    (λ e. ltb-true n 10 e)
    (λ e. omega (
      arith,
      width_enough more (n / 10) (omega (arith, h, pow-suc 10 (suc more))),
      pow-suc 10 (width_up_to more (n / 10)),
    ))

-- ---- digits only, without a leading zero

last_digit : (n : ℕ) → Digit (48 + n % 10)
last_digit n = (omega arith, omega arith)

all_digits : (w n : ℕ) → All Digit (digits w n)
unfolding digits
all_digits zero n = tt
all_digits (suc w) n = all_append Digit (digits w (n / 10)) _ (all_digits w (n / 10)) (last_digit n, tt)

some_width : (more n : ℕ) → 0 < width_up_to more n
unfolding width_up_to
some_width zero n = omega arith
some_width (suc more) n =
    cond_ind (ltb n 10) 1 (suc (width_up_to more (n / 10))) (λ w. 0 < w) (λ e. omega arith) (λ e. omega arith)

-- of a number that is not 0
first_digit : (more n : ℕ) → 0 < n → n < 10 ^ suc more → 48 < get_or (digits (width_up_to more n) n) 0 0
unfolding width_up_to digits
first_digit zero n some small = omega arith
first_digit (suc more) n some small =
    let w = width_up_to more (n / 10) in
    cond_ind (ltb n 10) 1 (suc w) (λ v. 48 < get_or (digits v n) 0 0)
    (λ e. omega (arith, ltb-true n 10 e))
    (λ e.
    let rest = digits w (n / 10) in
    let long = length_digits w (n / 10) in
    let first = get_or-append rest ((48 + n % 10) ∷ []) 0 0 (omega (arith, some_width more (n / 10))) in
    let below : n / 10 < 10 ^ suc more = omega (arith, small, pow-suc 10 (suc more)) in
    rw first (first_digit more (n / 10) (omega (arith, ltb-false n 10 e)) below))

zero_alone : length (decimal 0) ≡ 1
unfolding decimal width width_up_to digits
zero_alone = refl

-- "in decimal"
pub decimal_exact : (n : ℕ) → InDecimal n (decimal n)
unfolding decimal width
decimal_exact n = record {
  some = omega (arith, length_digits (width_up_to n n) n, some_width n n);
  value = value_digits (width_up_to n n) n (width_enough n n (below_power n));
  digits = all_digits (width_up_to n n) n;
  leading = λ long. by_test (ltb 0 n)
      (λ e. first_digit n n (ltb-true 0 n e) (below_power n))
      (λ e. let none : n ≡ 0 = omega (arith, ltb-false 0 n e) in absurd (omega (arith, zero_alone, rw none at long)));
}
