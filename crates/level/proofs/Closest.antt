-- Whole numbers: of the multiples of u, the one closest to n is that of n / u or the next, by the remainder. Nothing
-- here is about floats. Assumes nothing.
--
--   Cmp, cmp      what a comparison shows
--   Closest       q × u is no farther from n than z × u, and where it is as far, q is z or even
--   closest-all   `nearest`, as the library rounds, is the closest of all
--   half_unit     it is at most half a unit away
use Prim.Native.Nat.{ℕ, zero, suc, ◌+◌, ◌*◌, ◌/◌, ◌%◌, ◌≤◌, ◌<◌, compare, Ordering}
use mathlib.Core.Bool.{not}
use mathlib.Core.Logic.{◌⊎◌, inl, inr}
use mathlib.Core.Path.{◌≡◌, refl, sym, ap, subst}
use native.Mathlib.Nat.{mul-le-mul_right, div-add-mod', mod-lt, zero-lt-suc}
use native.Mathlib.Omega.{arith}
use lib.Arith.{lt_of_le-ne}
use lib.Dec.{T, is_le, compare_is_eq, eqb, eqb_refl, leb→le, nleb→lt, eqb→eq}
use lib.Ieee.{nearest}
use lib.Ieee.Nearest.{closest}
use Rattle.level.specs.Claims.{gap}

abbrev Cmp : Ordering → ℕ → ℕ → Type 0
Cmp Ordering.lt a b = a < b
Cmp Ordering.eq a b = a ≡ b
Cmp Ordering.gt a b = b < a

cmp : (a b : ℕ) → Cmp (compare a b) a b
cmp a b = go (compare a b) (leb→le a b) (nleb→lt a b) (eqb→eq a b)
    (λ (e : a ≡ b). subst (λ (x : ℕ). T (eqb a x)) e (eqb_refl a))
  where
    go : (o : Ordering) → (T (is_le o) → a ≤ b) → (T (not (is_le o)) → b < a) → (T (compare_is_eq o) → a ≡ b)
        → (a ≡ b → T (compare_is_eq o)) → Cmp o a b
    go Ordering.lt h k e n = lt_of_le-ne (h tt) n
    go Ordering.eq h k e n = e tt
    go Ordering.gt h k e n = k tt

-- where z stands beside w
data Beside (z w u : ℕ) : Type 0 where
  same : z ≡ w → z * u ≡ w * u → Beside z w u
  under : z * u + u ≤ w * u → Beside z w u
  next : z ≡ suc w → z * u ≡ w * u + u → Beside z w u
  over : w * u + u + u ≤ z * u → Beside z w u

beside : (z w u : ℕ) → Beside z w u
beside z w u = go (compare z w) (cmp z w)
  where
    at_next : (o : Ordering) → Cmp o z (suc w) → w < z → Beside z w u
    at_next Ordering.lt h k = absurd (omega arith)
    at_next Ordering.eq h k = next h (rw h (omega arith))
    at_next Ordering.gt h k = over (omega (arith, mul-le-mul_right u h))

    go : (o : Ordering) → Cmp o z w → Beside z w u
    go Ordering.lt h = under (omega (arith, mul-le-mul_right u h))
    go Ordering.eq h = same h (ap (λ (x : ℕ). x * u) h)
    go Ordering.gt h = at_next (compare z (suc w)) (cmp z (suc w)) h

abbrev pub Closest : ℕ → ℕ → ℕ → ℕ → Type 0
Closest q n u z = (gap (q * u) n ≤ gap (z * u) n) × (gap (q * u) n ≡ gap (z * u) n → (q ≡ z) ⊎ (q % 2 ≡ 0))

closer : (q n u z : ℕ) → gap (q * u) n < gap (z * u) n → Closest q n u z
closer q n u z h = (omega arith, λ e. absurd (omega arith))

itself : (q n u z : ℕ) → q ≡ z → Closest q n u z
itself q n u z h = rw h (omega arith, λ e. inl refl)

even_tie : (w : ℕ) → (w + w % 2) % 2 ≡ 0
even_tie w = omega arith

tie_away : (w r u n b : ℕ) → w * u + r ≡ n → r * 2 ≡ u → b < 2 → gap ((w + b) * u) n ≡ r
tie_away w r u n zero e c l = omega arith
tie_away w r u n (suc zero) e c l = omega arith
tie_away w r u n (suc (suc b)) e c l = absurd (omega arith)

at_tie : (w r u n : ℕ) → w * u + r ≡ n → r * 2 ≡ u → gap ((w + w % 2) * u) n ≡ r
at_tie w r u n e c = tie_away w r u n (w % 2) e c (mod-lt w (zero-lt-suc 1))

tied : (w r u n z : ℕ) → w * u + r ≡ n → r * 2 ≡ u → r ≤ gap (z * u) n → Closest (w + w % 2) n u z
tied w r u n z e c h = (rw (at_tie w r u n e c) h, λ _. inr (even_tie w))

at : (w r u n z : ℕ) (o : Ordering) → w * u + r ≡ n → r < u → Cmp o (r * 2) u → Beside z w u
    → Closest (nearest w o) n u z
at w r u n z Ordering.lt e l c (same h k) = itself w n u z (sym h)
at w r u n z Ordering.lt e l c (under h) = closer w n u z (omega arith)
at w r u n z Ordering.lt e l c (next h k) = closer w n u z (omega arith)
at w r u n z Ordering.lt e l c (over h) = closer w n u z (omega arith)
at w r u n z Ordering.eq e l c (same h k) = tied w r u n z e c (omega arith)
at w r u n z Ordering.eq e l c (under h) = tied w r u n z e c (omega arith)
at w r u n z Ordering.eq e l c (next h k) = tied w r u n z e c (omega arith)
at w r u n z Ordering.eq e l c (over h) = tied w r u n z e c (omega arith)
at w r u n z Ordering.gt e l c (same h k) = closer (suc w) n u z (omega arith)
at w r u n z Ordering.gt e l c (under h) = closer (suc w) n u z (omega arith)
at w r u n z Ordering.gt e l c (next h k) = itself (suc w) n u z (sym h)
at w r u n z Ordering.gt e l c (over h) = closer (suc w) n u z (omega arith)

half : (w r u n : ℕ) (o : Ordering) → w * u + r ≡ n → r < u → Cmp o (r * 2) u → gap (nearest w o * u) n * 2 ≤ u
half w r u n Ordering.lt e l c = omega arith
half w r u n Ordering.eq e l c = rw (at_tie w r u n e c) (omega arith)
half w r u n Ordering.gt e l c = omega arith

module _ (n u : ℕ) (U : 0 < u) where
  pub closest-all : (z : ℕ) → Closest (closest n u) n u z
  closest-all z =
      at (n / u) (n % u) u n z (compare (n % u * 2) u) (div-add-mod' n u) (mod-lt n U) (cmp (n % u * 2) u)
      (beside z (n / u) u)

  pub half_unit : gap (closest n u * u) n * 2 ≤ u
  half_unit =
      half (n / u) (n % u) u n (compare (n % u * 2) u) (div-add-mod' n u) (mod-lt n U) (cmp (n % u * 2) u)
