-- Floats in units of their format's smallest value. Assumes nothing.
--
--   Units, in_units        a float that fits is a number of at most prec digits, shifted
--   away-units             its distance from a fraction, in units
--   order, equal           two distances compare as they do in units
--   bits_of, same_units    its bit pattern; floats of as many units are the same
--   parity                 where the digits kept are even, the last bit is 0
use Prim.Native.Nat.{ℕ, zero, suc, ◌+◌, ◌-◌, ◌*◌, ◌/◌, ◌%◌, ◌^◌, ◌≤◌, ◌<◌}
use mathlib.Core.Bool.{Bool, true, false, not, cond, ◌&&◌}
use mathlib.Core.Logic.{inl, inr}
use mathlib.Core.Path.{◌≡◌, refl, sym, ap, ◌∙◌, subst}
use native.Mathlib.Nat.{mul-le-mul_right, mul_assoc, le_trans, le_of_eq, lt_irrefl, lt_of_lt_of_le, zero-mul}
use native.Mathlib.Nat.{mul_comm, mul-one, mul-sub, add-mul, mul_right_comm, mul-mod_left, mul-div_cancel}
use native.Mathlib.Nat.{zero-add, one-mul, eq-or-lt_of_le, pow-suc, le_of_mul-le-mul_right}
use native.Mathlib.Nat.{eq_of_mul-eq-mul_right}
use native.Mathlib.Omega.{arith}
use lib.Dec.{T, eqb, leb→le, ltb, leb, ltb→lt, nltb→le}
use lib.IntN.{ℤ, pos, negsuc}
use lib.Ieee.{Float, nan, inf, fin, Format, prec, emax, low, up, down, size, fits, of_bits, to_bits, hid, top}
use lib.Ieee.Bits.{of_bits-to_bits}
use lib.Ieee.Digits.{size-le, back}
use lib.Ieee.Exact.{HasValue}
use lib.Ieee.Fits.{and_l, and_r, down_pos, two}
use lib.Ieee.Scale.{finite}
use lib.Pow.{pow-add, pow_pos, pow-lt, shl_lt}
use Rattle.level.specs.Claims.{gap, away, part}

abbrev pub Units : Format → Float → Type 0
Units f y = (s : Bool) × (m : ℕ) × (j : ℕ) × (m < 2 ^ prec f) × HasValue y s (m * 2 ^ j) (2 ^ low f)

deep : (a b : ℕ) → 2 ^ a ≤ 2 ^ b → a ≤ b
deep a b h = go (ltb b a) (ltb→lt b a) (nltb→le b a)
  where
    go : (t : Bool) → (T t → b < a) → (T (not t) → a ≤ b) → a ≤ b
    go true x y = absurd (lt_irrefl _ (lt_of_lt_of_le (pow-lt (x tt)) h))
    go false x y = y tt

shifted : (f : Format) (s : Bool) (m : ℕ) (e : ℤ) → m < 2 ^ prec f → down e ≤ 2 ^ low f → Units f (fin s m e)
shifted f s m (pos i) M D = (
  s,
  m,
  i + low f,
  M,
  (
    refl,
    mul_assoc m (2 ^ i) (2 ^ low f) ∙ ap (λ (x : ℕ). m * x) (sym (pow-add 2 i (low f))) ∙ sym (mul-one _),
  ),
)
shifted f s m (negsuc i) M D =
    let l = deep (suc i) (low f) D in (
      s,
      m,
      low f - suc i,
      M,
      (
        refl,
        ap (λ (x : ℕ). x * 2 ^ low f) (mul-one m)
            ∙ ap (λ (x : ℕ). m * x)
            (ap (λ (x : ℕ). 2 ^ x) (sym (back (low f) (suc i) l)) ∙ pow-add 2 (low f - suc i) (suc i))
            ∙ sym (mul_assoc m (2 ^ (low f - suc i)) (2 ^ suc i)),
      ),
    )

pub in_units : (f : Format) (y : Float) → T (fits f y) → T (finite y) → Units f y
unfolding fits
in_units f nan t g = elim g [ ]
in_units f (inf _) t g = elim g [ ]
in_units f (fin s zero e) t g = (
  s,
  0,
  0,
  pow_pos (prec f),
  (
    refl,
    ap (λ (x : ℕ). x * 2 ^ low f) (zero-mul (up e)) ∙ zero-mul (2 ^ low f) ∙ sym (zero-mul (down e)),
  ),
)
in_units f (fin s (suc m) e) t g =
    let A = eqb (suc m % 2) 1 in
    let B = ltb (suc m) (2 ^ prec f) in
    let D = leb (down e) (2 ^ low f) in
    let x = and_l (A && B && D) (ltb (suc m * up e) (2 ^ suc (emax f) * down e)) t in
    shifted f s (suc m) e (ltb→lt (suc m) (2 ^ prec f) (and_r A B (and_l (A && B) D x)))
    (leb→le (down e) (2 ^ low f) (and_r (A && B) D x))

-- ---- distances
gap-mul : (a b c : ℕ) → gap a b * c ≡ gap (a * c) (b * c)
gap-mul a b c =
    let x : (a - b) * c ≡ a * c - b * c = mul_comm (a - b) c ∙ mul-sub c a b ∙ rw (mul_comm c a, mul_comm c b) in
    let y : (b - a) * c ≡ b * c - a * c = mul_comm (b - a) c ∙ mul-sub c b a ∙ rw (mul_comm c a, mul_comm c b) in
    add-mul (a - b) (b - a) c ∙ rw (x, y)

abbrev pub away_units : Bool → ℕ → ℕ → ℕ → ℕ
away_units s h c n = cond s (h * c + n) (gap (h * c) n)

pub away-units : (y : Float) (s : Bool) (h l a c : ℕ) → HasValue y s h l
    → away y a c * l ≡ away_units s h c (a * l) * part y
away-units nan s h l a c v = absurd v
away-units (inf t) s h l a c v = absurd v
away-units (fin t m e) s h l a c v = rw v.0 (go s)
  where
    near-side : m * up e * c * l ≡ h * c * down e
    near-side = mul_right_comm (m * up e) c l ∙ ap (λ (x : ℕ). x * c) v.1 ∙ mul_right_comm h (down e) c

    far-side : a * down e * l ≡ a * l * down e
    far-side = mul_right_comm a (down e) l

    go : (s : Bool) → cond s (m * up e * c + a * down e) (gap (m * up e * c) (a * down e)) * l
        ≡ away_units s h c (a * l) * down e
    go true =
        add-mul (m * up e * c) (a * down e) l ∙ rw (near-side, far-side) (sym (add-mul (h * c) (a * l) (down e)))
    go false =
        gap-mul (m * up e * c) (a * down e) l ∙ rw (near-side, far-side) (sym (gap-mul (h * c) (a * l) (down e)))

-- u / p is x / l, and v / r is y / l
module _ (u v p r l x y : ℕ) (L : 0 < l) (e : u * l ≡ x * p) (g : v * l ≡ y * r) where
  left : u * r * l ≡ x * (p * r)
  left = mul_right_comm u r l ∙ ap (λ (z : ℕ). z * r) e ∙ mul_assoc x p r

  right : v * p * l ≡ y * (p * r)
  right =
      mul_right_comm v p l ∙ ap (λ (z : ℕ). z * p) g ∙ mul_assoc y r p ∙ ap (λ (z : ℕ). y * z) (mul_comm r p)

  pub order : x ≤ y → u * r ≤ v * p
  order h =
      le_of_mul-le-mul_right
      (le_trans (le_of_eq left) (le_trans (mul-le-mul_right (p * r) h) (le_of_eq (sym right)))) L

  pub equal : 0 < p * r → u * r ≡ v * p → x ≡ y
  equal R h = eq_of_mul-eq-mul_right (p * r) R x y (sym left ∙ ap (λ (z : ℕ). z * l) h ∙ right)

-- ---- bit patterns
unfoldable pub pattern : Format → Bool → ℕ → ℕ
pattern f s h = cond s (top f) 0 + (size h - prec f) * hid f + h / 2 ^ (size h - prec f)

pub bits_of : (f : Format) (y : Float) (s : Bool) (h : ℕ) → HasValue y s h (2 ^ low f) → to_bits f y ≡ pattern f s h
unfolding to_bits pattern
bits_of f nan s h v = absurd v
bits_of f (inf t) s h v = absurd v
bits_of f (fin t m e) s h v =
    let w : m * up e * 2 ^ low f / down e ≡ h =
    ap (λ (x : ℕ). x / down e) v.1 ∙ mul-div_cancel h (down_pos e) in
    rw (w, v.0)

pub same_units : (f : Format) (x y : Float) (s : Bool) (g h : ℕ) → T (fits f x) → T (fits f y)
    → HasValue x s g (2 ^ low f) → HasValue y s h (2 ^ low f) → g ≡ h → x ≡ y
same_units f x y s g h p q v w e =
    sym (of_bits-to_bits f x p)
    ∙ ap (of_bits f) (bits_of f x s g v ∙ ap (pattern f s) e ∙ sym (bits_of f y s h w))
    ∙ of_bits-to_bits f y q

-- ---- even digits end in 0
even_power : (i : ℕ) → 0 < i → 2 ^ i % 2 ≡ 0
even_power zero h = absurd (lt_irrefl 0 h)
even_power (suc i) h = rw (pow-suc 2 i) (mul-mod_left (2 ^ i) 2)

even_mul : (a b : ℕ) → a % 2 ≡ 0 → a * b % 2 ≡ 0
even_mul a b h =
    let e : a ≡ a / 2 * 2 = omega arith in
    ap (λ (x : ℕ). x % 2) (ap (λ (x : ℕ). x * b) e ∙ mul_right_comm (a / 2) 2 b) ∙ mul-mod_left (a / 2 * b) 2

even_add : (a b : ℕ) → a % 2 ≡ 0 → b % 2 ≡ 0 → (a + b) % 2 ≡ 0
even_add a b h k = omega arith

-- x × 2 ^ k with i ≤ k places cut off
cut : (x i k : ℕ) → i ≤ k → x * 2 ^ k / 2 ^ i ≡ x * 2 ^ (k - i)
cut x i k l =
    let e : x * 2 ^ k ≡ x * 2 ^ (k - i) * 2 ^ i =
    ap (λ (z : ℕ). x * z) (ap (λ (z : ℕ). 2 ^ z) (sym (back k i l)) ∙ pow-add 2 (k - i) i)
    ∙ sym (mul_assoc x (2 ^ (k - i)) (2 ^ i)) in
    ap (λ (z : ℕ). z / 2 ^ i) e ∙ mul-div_cancel (x * 2 ^ (k - i)) (pow_pos i)

fewer : (z p k : ℕ) → z ≤ p + k → z - p ≤ k
fewer z p k h = omega arith

digits_even : (p q k : ℕ) → 2 ≤ p → q ≤ 2 ^ p → q % 2 ≡ 0 → q * 2 ^ k / 2 ^ (size (q * 2 ^ k) - p) % 2 ≡ 0
digits_even p q k P Q E = elim (eq-or-lt_of_le Q) [ inl e ↦ whole e | inr l ↦ less l ]
  where
    less : q < 2 ^ p → q * 2 ^ k / 2 ^ (size (q * 2 ^ k) - p) % 2 ≡ 0
    less l =
        let i = size (q * 2 ^ k) - p in
        let h : i ≤ k = fewer (size (q * 2 ^ k)) p k (size-le (q * 2 ^ k) (p + k) (shl_lt p k l)) in
        ap (λ (z : ℕ). z % 2) (cut q i k h) ∙ even_mul q (2 ^ (k - i)) E

    whole : q ≡ 2 ^ p → q * 2 ^ k / 2 ^ (size (q * 2 ^ k) - p) % 2 ≡ 0
    whole e =
        let b : q * 2 ^ k ≡ 2 ^ (p + k) = ap (λ (z : ℕ). z * 2 ^ k) e ∙ sym (pow-add 2 p k) in
        let g : q * 2 ^ k ≡ 1 * 2 ^ (p + k) = b ∙ sym (one-mul (2 ^ (p + k))) in
        let i = size (q * 2 ^ k) - p in
        let s : size (q * 2 ^ k) ≤ p + suc k =
        size-le (q * 2 ^ k) (p + suc k)
        (subst (λ (z : ℕ). z < 2 ^ (p + suc k)) (sym b) (pow-lt (omega arith))) in
        let h : i ≤ suc k = fewer (size (q * 2 ^ k)) p (suc k) s in
        ap (λ (z : ℕ). z / 2 ^ i % 2) g
        ∙ ap (λ (z : ℕ). z % 2) (cut 1 i (p + k) (omega arith) ∙ one-mul (2 ^ (p + k - i)))
        ∙ even_power (p + k - i) (omega arith)

pub parity : (f : Format) (q k : ℕ) → q ≤ 2 ^ prec f → q % 2 ≡ 0 → pattern f false (q * 2 ^ k) % 2 ≡ 0
unfolding pattern
parity f q k Q E =
    let i = size (q * 2 ^ k) - prec f in
    let t = two f in
    let a : (0 + i * hid f) % 2 ≡ 0 =
    ap (λ (z : ℕ). z % 2) (zero-add (i * hid f) ∙ mul_comm i (hid f))
    ∙ even_mul (hid f) i (even_power (prec f - 1) (omega arith)) in
    even_add (0 + i * hid f) (q * 2 ^ k / 2 ^ i) a (digits_even (prec f) q k t Q E)
