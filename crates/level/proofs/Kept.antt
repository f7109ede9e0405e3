-- The digits that `round` keeps of n / c, with p of them: digits × 2 ^ places. Assumes nothing.
--
--   kept_nearest    no number of at most p digits, shifted, is nearer to n / c
--   kept_relative   they are off by at most the 2 ^ p th part of n / c, where digits are dropped
--   kept_le         they are at most 2 ^ p
use Prim.Native.Nat.{ℕ, suc, ◌+◌, ◌-◌, ◌*◌, ◌/◌, ◌%◌, ◌^◌, ◌≤◌, ◌<◌, zero-le, compare}
use mathlib.Core.Bool.{Bool, true, false, not}
use mathlib.Core.Logic.{◌⊎◌, inl, inr, ⊎_elim}
use mathlib.Core.Path.{◌≡◌, sym, ap, ◌∙◌, subst}
use native.Mathlib.Nat.{mul-pos, mul-le-mul_left, mul-lt-mul_of_pos_right, mul_assoc, le_trans, le_of_eq}
use native.Mathlib.Nat.{le_of_lt, lt_irrefl, lt_of_lt_of_le, lt_of_le_of_lt, le-div_iff_mul-le}
use native.Mathlib.Nat.{div-div-eq-div-mul, pow-suc}
use native.Mathlib.Omega.{arith}
use lib.Dec.{T, ltb, ltb→lt, nltb→le}
use lib.Ieee.{size}
use lib.Ieee.Digits.{size_reaches, back}
use lib.Ieee.Fits.{nearest-le, kept-lt}
use lib.Ieee.Order.{drop, kept}
use lib.Pow.{pow-add, pow_pos, pow_mono, shl_lt}
use Rattle.level.specs.Claims.{gap}
use Rattle.level.proofs.Closest.{Closest, closest-all, half_unit}

pub kept_le : (p n c : ℕ) → kept p n c ≤ 2 ^ p
kept_le p n c =
    let u = c * 2 ^ drop p n c in
    le_trans (nearest-le (n / u) (compare (n % u * 2) u))
    (subst (λ (x : ℕ). x < 2 ^ p) (div-div-eq-div-mul n c (2 ^ drop p n c)) (kept-lt p (n / c)))

module _ (p n c : ℕ) (P : 2 ≤ p) (C : 0 < c) where
  -- the places dropped, and the digits kept
  abbrev places : ℕ
  places = drop p n c

  abbrev digits : ℕ
  digits = kept p n c

  -- h is no nearer to n / c, and where it is as near, it is the same or digits is even
  abbrev Near : ℕ → Type 0
  Near h = (gap (digits * 2 ^ places * c) n ≤ gap (h * c) n)
      × (gap (digits * 2 ^ places * c) n ≡ gap (h * c) n → (digits * 2 ^ places ≡ h) ⊎ (digits % 2 ≡ 0))

  turn : (x t : ℕ) → x * t * c ≡ x * (c * t)
  turn x t = omega arith

  near_multiple : (z : ℕ) → Near (z * 2 ^ places)
  near_multiple z =
      let a : Closest digits n (c * 2 ^ places) z = closest-all n (c * 2 ^ places) (mul-pos C (pow_pos places)) z in
      rw (turn digits (2 ^ places), turn z (2 ^ places))
      (a.0, λ e. ⊎_elim (λ h. inl (ap (λ (x : ℕ). x * 2 ^ places) h)) (λ h. inr h) (a.1 e))

  -- where j digits fewer than places are dropped, 2 ^ (p - 1 + places) lies between
  bound : (j : ℕ) → j < places → 2 ^ (p + j) ≤ 2 ^ (p - 1) * 2 ^ places
  bound j l = le_trans (pow_mono (room j places l)) (le_of_eq (pow-add 2 (p - 1) places))
    where
      room : (j i : ℕ) → j < i → p + j ≤ p - 1 + i
      room j i l = omega arith

  reached : 0 < places → 2 ^ (p - 1) * 2 ^ places * c ≤ n
  reached K =
      (le-div_iff_mul-le C).0
      (le_trans (le_of_eq (sym (pow-add 2 (p - 1) places)))
      (size_reaches (n / c) (p - 1 + places) (used (size (n / c)) K)))
    where
      used : (z : ℕ) → 0 < z - p → p - 1 + (z - p) < z
      used z K = omega arith

  apart : (g b h : ℕ) → gap (g * c) n ≤ gap (b * c) n → b * c ≤ n → h < b → gap (g * c) n < gap (h * c) n
  apart g b h a l s =
      let t : h * c < b * c = mul-lt-mul_of_pos_right s C in
      omega arith

  near_below : (m j : ℕ) → m < 2 ^ p → j < places → Near (m * 2 ^ j)
  near_below m j M l =
      let b = 2 ^ (p - 1) * 2 ^ places in
      let h : m * 2 ^ j < b = lt_of_lt_of_le (shl_lt p j M) (bound j l) in
      let a = apart (digits * 2 ^ places) b (m * 2 ^ j) (near_multiple (2 ^ (p - 1))).0
      (reached (lt_of_le_of_lt zero-le l)) h in (
        le_of_lt a,
        λ e. absurd (lt_irrefl _ (subst (λ (x : ℕ). gap (digits * 2 ^ places * c) n < x) (sym e) a)),
      )

  pub kept_nearest : (m j : ℕ) → m < 2 ^ p → Near (m * 2 ^ j)
  kept_nearest m j M = go (ltb j places) (ltb→lt j places) (nltb→le j places)
    where
      split : places ≤ j → m * 2 ^ (j - places) * 2 ^ places ≡ m * 2 ^ j
      split l =
          mul_assoc m (2 ^ (j - places)) (2 ^ places)
          ∙ ap (λ (x : ℕ). m * x) (sym (pow-add 2 (j - places) places) ∙ ap (λ (x : ℕ). 2 ^ x) (back j places l))

      go : (b : Bool) → (T b → j < places) → (T (not b) → places ≤ j) → Near (m * 2 ^ j)
      go true a b = near_below m j M (a tt)
      go false a b = subst Near (split (b tt)) (near_multiple (m * 2 ^ (j - places)))

  -- half a unit is 2 ^ p times in n / c
  pub kept_relative : 0 < places → gap (digits * 2 ^ places * c) n * 2 ^ p ≤ n
  kept_relative K =
      let e : 2 ^ p ≡ 2 ^ (p - 1) * 2 = ap (λ (x : ℕ). 2 ^ x) (up_one p P) ∙ pow-suc 2 (p - 1) in
      let h = half_unit n (c * 2 ^ places) (mul-pos C (pow_pos places)) in
      let m = mul-le-mul_left (2 ^ (p - 1)) h in
      rw (e, turn digits (2 ^ places)) (omega (arith, m, reached K))
    where
      up_one : (p : ℕ) → 2 ≤ p → p ≡ suc (p - 1)
      up_one p h = omega arith
