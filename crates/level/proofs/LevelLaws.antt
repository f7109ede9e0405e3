-- Laws of levels, of a reach within its limits. Assumes nothing.
--
--   once             the level is the fraction of the whole numbers, rounded one time
--   level_at         the level where that fraction is a known one
--   sounds           all that is claimed of a level
--   falls, rises     the order of levels, by the distance and by the reach
--   falls_strict     the strict form by the distance
use Prim.Native.Nat.{ℕ, ◌+◌, ◌*◌, ◌^◌, ◌≤◌, ◌<◌}
use mathlib.Core.Bool.{true, false}
use mathlib.Core.Path.{◌≡◌, refl, sym, ◌∙◌}
use native.Mathlib.Nat.{mul-pos, mul-le-mul, mul-le-mul_left, mul-le-mul_right, mul-lt-mul_of_pos_right}
use native.Mathlib.Nat.{zero-mul, mul-one}
use native.Mathlib.Omega.{arith}
use lib.Dec.{T, lit<, leb→le, ltb→lt, lt→ltb}
use lib.Ieee.{Float, nan, inf, fin, binary64, low, prec, up, down, round, lt, le, of_bits}
use lib.Ieee.Fits.{up_pos}
use lib.Ieee.Order.{round_mono}
use lib.Ieee.Positive.{positive, positive-finite, between}
use lib.Ieee.Scale.{grid, overflow, round_same, round_under}
use Rattle.level.specs.Claims.{zero, half, one, least_level, Sounds}
use Rattle.level.specs.Level.{max_reach, last_heard, quotient, level_of}
use Rattle.level.proofs.CallLaws.{square_most}
use Rattle.level.proofs.Nearest.{round_nearest}
use Rattle.level.proofs.Strict.{Large, round_strict}
use Rattle.level.proofs.Whole.{cast_exact, add_casts, div_casts}

pub one_rounded : round binary64 false 1 1 ≡ one
unfolding round
one_rounded = refl

pub half_rounded : round binary64 false 1 2 ≡ half
unfolding round
half_rounded = refl

pub least_rounded : round binary64 false 1 101 ≡ least_level
unfolding round of_bits
least_rounded = refl

least_positive : T (positive least_level)
unfolding of_bits
least_positive = tt

positive_above : (x : Float) → T (positive x) → T (lt zero x)
unfolding lt
positive_above nan p = elim p [ ]
positive_above (inf _) p = elim p [ ]
positive_above (fin true m e) p = elim p [ ]
positive_above (fin false m e) p =
    let k : 0 < m * up e = mul-pos (ltb→lt 0 m p) (up_pos e) in
    lt→ltb (0 * down e) (m * up e * 1) (rw (zero-mul (down e), mul-one (m * up e)) k)

-- a reach within its limits, and a place that is not silent
pub record Within (r d : ℕ) : Type 0 where
  pub least : 1 ≤ r
  pub most : r ≤ max_reach
  pub near : d ≤ last_heard r

module _ (r d : ℕ) (w : Within r d) where
  square_pos : 0 < r * r
  square_pos = mul-pos w.least w.least

  sum-small : r * r + d ≤ 101_000_000_000_000
  sum-small = let h = w.near in omega (arith, square_most r w.most, h)

  pub sum_pos : 0 < r * r + d
  sum_pos = omega (arith, square_pos)

  pub once : level_of r d ≡ round binary64 false (r * r) (r * r + d)
  unfolding quotient
  once = div_casts binary64 (r * r) (r * r + d) (omega (arith, sum-small)) (omega (arith, sum-small)) sum_pos

  -- where r × r / (r × r + d) is a / c
  pub level_at : (a c : ℕ) → 0 < c → r * r * c ≡ a * (r * r + d) → level_of r d ≡ round binary64 false a c
  level_at a c C e = once ∙ round_same binary64 false (r * r) (r * r + d) a c sum_pos C e

  pub at_most_one : T (le (level_of r d) one)
  at_most_one =
      rw (once, sym one_rounded)
      (round_mono binary64 (r * r) (r * r + d) 1 1 sum_pos (lit< tt) (omega arith))

  pub at_least : T (le least_level (level_of r d))
  at_least =
      let h = w.near in
      rw (once, sym least_rounded)
      (round_mono binary64 1 101 (r * r) (r * r + d) (lit< tt) sum_pos (omega (arith, h)))

  is_positive : T (positive (level_of r d))
  is_positive = between least_level (level_of r d) one least_positive tt at_least at_most_one

  -- neither an infinity nor out of the range in which digits are dropped
  pub small : grid binary64 (r * r) (r * r + d) < overflow binary64
  small =
      round_under binary64 (r * r) (r * r + d) (rw once at (positive-finite (level_of r d) is_positive))

  pub large : Large binary64 (r * r) (r * r + d)
  large = go (2 ^ low binary64) (leb→le (2 ^ prec binary64 * 101) (2 ^ low binary64) tt)
    where
      go : (L : ℕ) → 2 ^ prec binary64 * 101 ≤ L → 2 ^ prec binary64 * (r * r + d) ≤ r * r * L
      go L l =
          let h = w.near in
          let m = mul-le-mul_left (r * r) l in
          omega (arith, m, h)

  pub sounds : Sounds r d (level_of r d)
  sounds = record {
    square_exact = cast_exact binary64 (r * r) (omega (arith, sum-small));
    distance_exact = cast_exact binary64 d (omega (arith, sum-small));
    sum_float = add_casts binary64 (r * r) d (omega (arith, sum-small));
    sum_exact = cast_exact binary64 (r * r + d) (omega (arith, sum-small));
    rounded_once = rw once (round_nearest binary64 (r * r) (r * r + d) sum_pos small);
    above_zero = positive_above (level_of r d) is_positive;
    at_least = at_least;
    at_most_one = at_most_one;
  }

pub falls : (r d e : ℕ) → Within r d → Within r e → d ≤ e → T (le (level_of r e) (level_of r d))
falls r d e v w h =
    let q : r * r * d ≤ r * r * e = mul-le-mul_left (r * r) h in
    rw (once r d v, once r e w)
    (round_mono binary64 (r * r) (r * r + e) (r * r) (r * r + d) (sum_pos r e w) (sum_pos r d v) (omega arith))

pub rises : (q r d : ℕ) → Within q d → Within r d → q ≤ r → T (le (level_of q d) (level_of r d))
rises q r d v w h =
    let s : q * q ≤ r * r = mul-le-mul h h in
    let t : q * q * d ≤ r * r * d = mul-le-mul_right d s in
    rw (once q d v, once r d w)
    (round_mono binary64 (q * q) (q * q + d) (r * r) (r * r + d) (sum_pos q d v) (sum_pos r d w) (omega arith))

-- s / (s + d) and s / (s + e) differ by more than two roundings: the sums are whole numbers far below 2 ^ 53
pub falls_strict : (r d e : ℕ) → Within r d → Within r e → d < e → T (lt (level_of r e) (level_of r d))
falls_strict r d e v w h =
    let s = sum-small r d v in
    rw (once r d v, once r e w)
    (round_strict binary64 (r * r) (r * r + d) (r * r) (r * r + e) (sum_pos r d v) (sum_pos r e w) (large r d v)
    (large r e w) (small r d v) (small r e w)
    (apart (r * r) (r * r + d) (r * r + e) (square_pos r d v) s (omega arith)))
  where
    apart : (s c e : ℕ) → 0 < s → c ≤ 101_000_000_000_000 → c < e
        → s * c * 2 ^ prec binary64 + s * c + s * e < s * e * 2 ^ prec binary64
    apart s c e S C h =
        let k : c * 2 ^ prec binary64 + c + e < e * 2 ^ prec binary64 = omega arith in
        let m : (c * 2 ^ prec binary64 + c + e) * s < e * 2 ^ prec binary64 * s = mul-lt-mul_of_pos_right k S in
        omega (arith, m)
