-- Sums and quotients of floats that are whole numbers, in either format. Assumes nothing.
--
--   cast_exact   a whole number up to 2 ^ prec is a float, exactly
--   add_casts    the sum of two is the float of the whole numbers' sum
--   div_casts    the quotient of two is the whole numbers' fraction, rounded
use Prim.Native.Nat.{ℕ, zero, suc, ◌+◌, ◌*◌, ◌^◌, ◌≤◌, ◌<◌}
use mathlib.Core.Bool.{true, false, true≢false}
use mathlib.Core.Path.{◌≡◌, sym, ap, ◌∙◌, subst}
use native.Mathlib.Nat.{mul-pos, zero-lt-suc, zero-mul, lt_irrefl}
use native.Mathlib.Omega.{arith}
use lib.Dec.{eqb, eqb-suc-zero}
use lib.IntN.{ℤ, pos}
use lib.Ieee.{Float, nan, inf, fin, Format, prec, up, down, round, sum, add, div, of_int}
use lib.Ieee.Back.{round_whole}
use lib.Ieee.Fits.{down_pos}
use lib.Ieee.Scale.{round_same}
use Rattle.level.specs.Claims.{Is}

pub cast_exact : (f : Format) (n : ℕ) → n ≤ 2 ^ prec f → Is (of_int f (pos n)) n
unfolding of_int
cast_exact f n h = round_whole f false n h

-- two floats that are whole numbers, each x / p with x = a × p
module _ (x a p y b q : ℕ) (h : x * 1 ≡ a * p) (k : y * 1 ≡ b * q) where
  times_x : x ≡ a * p
  times_x = omega arith

  times_y : y ≡ b * q
  times_y = omega arith

  sum_cross : (x * q + y * p) * 1 ≡ (a + b) * (p * q)
  sum_cross = rw (times_x, times_y) (omega arith)

  quotient_cross : x * q * b ≡ a * (y * p)
  quotient_cross = rw (times_x, times_y) (omega arith)

-- ---- a sum is rounded once
add_rounds : (f : Format) (x y : Float) (a b : ℕ) → Is x a → Is y b → add f x y ≡ round f false (a + b) 1
unfolding add sum
add_rounds f nan y a b h k = elim h [ ]
add_rounds f (inf _) y a b h k = elim h [ ]
add_rounds f (fin true m e) y a b h k = absurd (true≢false h.0)
add_rounds f (fin false m e) nan a b h k = elim k [ ]
add_rounds f (fin false m e) (inf _) a b h k = elim k [ ]
add_rounds f (fin false m e) (fin true n d) a b h k = absurd (true≢false k.0)
add_rounds f (fin false m e) (fin false n d) a b h k =
    round_same f false (m * up e * down d + n * up d * down e) (down e * down d) (a + b) 1
    (mul-pos (down_pos e) (down_pos d)) (zero-lt-suc 0)
    (sum_cross (m * up e) a (down e) (n * up d) b (down d) h.1 k.1)

pub add_casts : (f : Format) (a b : ℕ) → a + b ≤ 2 ^ prec f
    → add f (of_int f (pos a)) (of_int f (pos b)) ≡ of_int f (pos (a + b))
unfolding of_int
add_casts f a b h =
    add_rounds f (round f false a 1) (round f false b 1) a b (round_whole f false a (omega arith))
    (round_whole f false b (omega arith))

-- ---- a quotient is rounded once
not_zero : (n : ℕ) (d : ℤ) (b : ℕ) → 0 < b → n * up d * 1 ≡ b * down d → eqb n 0 ≡ false
not_zero zero d b B h =
    let e : 0 ≡ b * down d = sym (ap (λ (z : ℕ). z * 1) (zero-mul (up d)) ∙ zero-mul 1) ∙ h in
    absurd (lt_irrefl 0 (subst (λ (z : ℕ). 0 < z) (sym e) (mul-pos B (down_pos d))))
not_zero (suc n) d b B h = eqb-suc-zero n

pos_of : (y b q : ℕ) → y * 1 ≡ b * q → 0 < b * q → 0 < y
pos_of y b q h k = omega arith

div_rounds : (f : Format) (x y : Float) (a b : ℕ) → 0 < b → Is x a → Is y b → div f x y ≡ round f false a b
unfolding div
div_rounds f nan y a b B h k = elim h [ ]
div_rounds f (inf _) y a b B h k = elim h [ ]
div_rounds f (fin true m e) y a b B h k = absurd (true≢false h.0)
div_rounds f (fin false m e) nan a b B h k = elim k [ ]
div_rounds f (fin false m e) (inf _) a b B h k = elim k [ ]
div_rounds f (fin false m e) (fin true n d) a b B h k = absurd (true≢false k.0)
div_rounds f (fin false m e) (fin false n d) a b B h k =
    let y : 0 < n * up d = pos_of (n * up d) b (down d) k.1 (mul-pos B (down_pos d)) in
    rw (not_zero n d b B k.1)
    (round_same f false (m * up e * down d) (n * up d * down e) a b (mul-pos y (down_pos e)) B
    (quotient_cross (m * up e) a (down e) (n * up d) b (down d) h.1 k.1))

pub div_casts : (f : Format) (a b : ℕ) → a ≤ 2 ^ prec f → b ≤ 2 ^ prec f → 0 < b
    → div f (of_int f (pos a)) (of_int f (pos b)) ≡ round f false a b
div_casts f a b A B p =
    div_rounds f (of_int f (pos a)) (of_int f (pos b)) a b p (cast_exact f a A) (cast_exact f b B)
