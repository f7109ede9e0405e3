-- What is shown of levels. That a float is nearest to a fraction is said by what a format holds (`fits`) and by its bit
-- patterns (`to_bits`), and by nothing of how the library rounds.
--
--   gap                  the difference of two whole numbers
--   away, part           how far a float is from a fraction
--   Nearest              a float is the value of its format nearest to a fraction, a tie to the even one
--   Is                   a float is a whole number, exactly
--   zero, half, one      0.0, 0.5 and 1.0
--   least_level          the float nearest to 1 / 101
--   Sounds               what holds where the call answers a level
--   NoLouder             the order of loudness: silence is below every level
use Rattle.std.specs.Prelude.{ℕ, ◌+◌, ◌-◌, ◌*◌, ◌%◌, ◌≤◌, false, cond, ◌⊎◌, ◌≡◌, T, pos, negsuc, Float}
use Rattle.std.specs.Float.{nan, inf, fin, Format, binary64}
use Rattle.std.specs.Float.Ieee.{up, down, fits, of_bits, to_bits, add, lt, le}
use Rattle.std.specs.Float.Ieee.Exact.{HasValue}
use Rattle.std.specs.Float.Ieee.Scale.{finite}
use Rattle.level.specs.Level.{float, Loudness, silent, level}

-- the difference of two whole numbers
abbrev pub gap : ℕ → ℕ → ℕ
gap a b = (a - b) + (b - a)

-- How far a finite float x, which is m × 2 ^ e, below 0 where s is true, is from the fraction a / c: `away x a c` over
-- c × `part x`. Of the others nothing is asked.
abbrev pub away : Float → ℕ → ℕ → ℕ
away nan a c = 0
away (inf s) a c = 0
away (fin s m e) a c = cond s (m * up e * c + a * down e) (gap (m * up e * c) (a * down e))

abbrev pub part : Float → ℕ
part nan = 1
part (inf s) = 1
part (fin s m e) = down e

-- x is the value of the format f that is nearest to a / c, with c above 0; where another is as near, the last bit of x
-- is 0
pub record Nearest (f : Format) (x : Float) (a c : ℕ) : Type 0 where
  pub holds : T (fits f x)
  pub is_finite : T (finite x)
  pub nearest : (y : Float) → T (fits f y) → T (finite y) → away x a c * part y ≤ away y a c * part x
  pub even : (y : Float) → T (fits f y) → T (finite y) → away x a c * part y ≡ away y a c * part x
      → (x ≡ y) ⊎ (to_bits f x % 2 ≡ 0)

-- x is the whole number n, exactly
abbrev pub Is : Float → ℕ → Type 0
Is x n = HasValue x false n 1

abbrev pub zero : Float
zero = fin false 0 (pos 0)

abbrev pub half : Float
half = fin false 1 (negsuc 0)

abbrev pub one : Float
one = fin false 1 (pos 0)

abbrev pub least_level : Float
least_level = of_bits binary64 0x3f84_46f8_6562_d9fb

-- where the call answers a level x
pub record Sounds (r d : ℕ) (x : Float) : Type 0 where
  -- "Both sums are exact as floats": the casts, and the float sum, which is that of the whole numbers
  pub square_exact : Is (float (r * r)) (r * r)
  pub distance_exact : Is (float d) d
  pub sum_float : add binary64 (float (r * r)) (float d) ≡ float (r * r + d)
  pub sum_exact : Is (float (r * r + d)) (r * r + d)
  -- "so the quotient is rounded only one time": x is the float nearest to the fraction itself
  pub rounded_once : Nearest binary64 x (r * r) (r * r + d)
  pub above_zero : T (lt zero x)
  pub at_least : T (le least_level x)
  pub at_most_one : T (le x one)

abbrev pub NoLouder : Loudness → Loudness → Type 0
NoLouder silent b = Unit
NoLouder (level x) silent = ⊥
NoLouder (level x) (level y) = T (le x y)
