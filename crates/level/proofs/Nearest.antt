-- The library's `round` gives the nearest value of its format, a tie to the even one, in either format. Assumes
-- nothing.
use Prim.Native.Nat.{ℕ, zero, suc, ◌+◌, ◌*◌, ◌%◌, ◌^◌, ◌≤◌, ◌<◌}
use mathlib.Core.Bool.{Bool, true, false}
use mathlib.Core.Logic.{◌⊎◌, inl, inr, ⊎_elim}
use mathlib.Core.Path.{◌≡◌, refl, sym, ap, ◌∙◌, subst}
use native.Mathlib.Nat.{mul-pos, zero-lt-suc, le_trans, le_of_eq, lt_irrefl, zero-mul}
use native.Mathlib.Omega.{arith}
use lib.Dec.{T}
use lib.Ieee.{Float, nan, inf, fin, Format, prec, low, round, fits, to_bits}
use lib.Ieee.Exact.{HasValue}
use lib.Ieee.Fits.{down_pos, round-fits, two}
use lib.Ieee.Order.{drop, kept}
use lib.Ieee.Scale.{finite, grid, overflow, round_val}
use lib.Pow.{pow_pos}
use Rattle.level.specs.Claims.{gap, away, part, Nearest}
use Rattle.level.proofs.Kept.{kept_le, kept_nearest}
use Rattle.level.proofs.Units.{Units, in_units, away_units, away-units, order, equal, bits_of, same_units, parity}

finite_value : (x : Float) (s : Bool) (h l : ℕ) → HasValue x s h l → T (finite x)
finite_value nan s h l v = elim v [ ]
finite_value (inf _) s h l v = elim v [ ]
finite_value (fin t m e) s h l v = tt

part_pos : (x : Float) → 0 < part x
part_pos nan = zero-lt-suc 0
part_pos (inf s) = zero-lt-suc 0
part_pos (fin s m e) = down_pos e

no_digits : (q k : ℕ) → q * 2 ^ k ≡ 0 → q % 2 ≡ 0
no_digits zero k h = refl
no_digits (suc q) k h =
    absurd (lt_irrefl 0 (subst (λ (z : ℕ). 0 < z) h (mul-pos (zero-lt-suc q) (pow_pos k))))

from_zero : (n : ℕ) → gap 0 n ≡ n
from_zero n = omega arith

beyond : (o h n : ℕ) → o ≤ n → o ≤ h + n
beyond o h n l = omega arith

only : (o h n : ℕ) → o ≤ n → o ≡ h + n → o ≡ n
only o h n l e = omega arith

module _ (f : Format) (a c : ℕ) (C : 0 < c) (small : grid f a c < overflow f) where
  abbrev g : ℕ
  g = grid f a c

  abbrev n : ℕ
  n = a * 2 ^ low f

  abbrev x : Float
  x = round f false a c

  value : HasValue x false g (2 ^ low f)
  value = round_val f a c small

  -- what is to be shown of h units with the sign s, in units
  abbrev Told : Bool → ℕ → Type 0
  Told s h = (away_units false g c n ≤ away_units s h c n)
      × (away_units false g c n ≡ away_units s h c n → ((s ≡ false) × (g ≡ h)) ⊎ (kept (prec f) n c % 2 ≡ 0))

  told : (s : Bool) (m j : ℕ) → m < 2 ^ prec f → Told s (m * 2 ^ j)
  told false m j M =
      let w = kept_nearest (prec f) n c (two f) C m j M in
      (w.0, λ e. ⊎_elim (λ h. inl (refl, h)) (λ h. inr h) (w.1 e))
  told true m j M =
      let w = kept_nearest (prec f) n c (two f) C 0 0 (pow_pos (prec f)) in
      let z : gap (0 * 2 ^ 0 * c) n ≡ n = ap (λ (x : ℕ). gap x n) (zero-mul c) ∙ from_zero n in
      let b : gap (g * c) n ≤ n = le_trans w.0 (le_of_eq z) in (
        beyond (gap (g * c) n) (m * 2 ^ j * c) n b,
        λ e. inr (⊎_elim (no_digits (kept (prec f) n c) (drop (prec f) n c)) (λ h. h)
            (w.1 (only (gap (g * c) n) (m * 2 ^ j * c) n b e ∙ sym z))),
      )

  -- against one float y of the format
  module _ (y : Float) (fit : T (fits f y)) (fin-y : T (finite y)) where
    y-units : Units f y
    y-units = in_units f y fit fin-y

    as-told : Told y-units.0 (y-units.1 * 2 ^ y-units.2)
    as-told = told y-units.0 y-units.1 y-units.2 y-units.3

    x-away : away x a c * 2 ^ low f ≡ away_units false g c n * part x
    x-away = away-units x false g (2 ^ low f) a c value

    y-away : away y a c * 2 ^ low f ≡ away_units y-units.0 (y-units.1 * 2 ^ y-units.2) c n * part y
    y-away = away-units y y-units.0 (y-units.1 * 2 ^ y-units.2) (2 ^ low f) a c y-units.4

    no-nearer : away x a c * part y ≤ away y a c * part x
    no-nearer =
        order (away x a c) (away y a c) (part x) (part y) (2 ^ low f) _ _ (pow_pos (low f)) x-away y-away as-told.0

    as-near : away x a c * part y ≡ away y a c * part x → (x ≡ y) ⊎ (to_bits f x % 2 ≡ 0)
    as-near e =
        ⊎_elim
        (λ h. inl (same_units f x y false g _ (round-fits f false a c) fit value (rw h.0 at y-units.4) h.1))
        (λ h. inr (ap (λ (z : ℕ). z % 2) (bits_of f x false g value)
        ∙ parity f (kept (prec f) n c) (drop (prec f) n c) (kept_le (prec f) n c) h))
        (as-told.1 (equal (away x a c) (away y a c) (part x) (part y) (2 ^ low f) _ _ (pow_pos (low f)) x-away y-away
        (mul-pos (part_pos x) (part_pos y)) e))

  pub round_nearest : Nearest f (round f false a c) a c
  round_nearest = record {
    holds = round-fits f false a c;
    is_finite = finite_value x false g (2 ^ low f) value;
    nearest = no-nearer;
    even = as-near;
  }
