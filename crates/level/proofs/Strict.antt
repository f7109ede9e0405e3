-- Of two fractions that are far enough apart, the larger rounds to a larger float, in either format: by more than the
-- two roundings can take away, each at most the 2 ^ prec th part. Assumes nothing.
use Prim.Native.Nat.{ℕ, ◌+◌, ◌-◌, ◌*◌, ◌/◌, ◌^◌, ◌≤◌, ◌<◌}
use mathlib.Core.Bool.{true, false, true≢false}
use mathlib.Core.Path.{sym}
use native.Mathlib.Nat.{mul-le-mul_right, mul-lt-mul_of_pos_right, lt_of_not-le, not-le_of_lt}
use native.Mathlib.Nat.{le-div_iff_mul-le, lt_of_le_of_lt}
use native.Mathlib.Omega.{arith}
use lib.Dec.{T, lt→ltb}
use lib.Ieee.{Float, nan, inf, fin, Format, prec, low, up, down, size, round, lt}
use lib.Ieee.Digits.{size-lt}
use lib.Ieee.Exact.{HasValue}
use lib.Ieee.Fits.{down_pos, two}
use lib.Ieee.Order.{transfer}
use lib.Ieee.Scale.{grid, overflow, round_val}
use lib.Pow.{pow_pos, pow_mono}
use Rattle.level.specs.Claims.{gap}
use Rattle.level.proofs.Kept.{kept_relative}

-- two values that are not negative, by the fractions that they equal
lt_of_values : (x y : Float) (a c b c' : ℕ) → 0 < c → 0 < c' → HasValue x false a c → HasValue y false b c'
    → a * c' < b * c → T (lt x y)
unfolding lt
lt_of_values nan y a c b c' C C' p q h = absurd p
lt_of_values (inf s) y a c b c' C C' p q h = absurd p
lt_of_values (fin true m e) y a c b c' C C' p q h = absurd (true≢false p.0)
lt_of_values (fin false m e) nan a c b c' C C' p q h = absurd q
lt_of_values (fin false m e) (inf t) a c b c' C C' p q h = absurd q
lt_of_values (fin false m e) (fin true n d) a c b c' C C' p q h = absurd (true≢false q.0)
lt_of_values (fin false m e) (fin false n d) a c b c' C C' p q h =
    lt→ltb (m * up e * down d) (n * up d * down e)
    (lt_of_not-le (λ g. not-le_of_lt h
    (transfer b a c' c (n * up d) (m * up e) (down d) (down e) (down_pos d) (down_pos e) (sym q.1) (sym p.1) g)))

-- what is at most z above, where z is at most the P th part of w
part_above : (v w z w' P : ℕ) → v ≤ w + z → z * P ≤ w' → v * P ≤ w * P + w'
part_above v w z w' P h k =
    let a : v * P ≤ (w + z) * P = mul-le-mul_right P h in
    omega arith

-- v is n but for its P th part
least : (v n P : ℕ) → gap v n * P ≤ n → n * P ≤ v * P + n
least v n P h = part_above n v (gap v n) n P (omega arith) h

most : (v n P : ℕ) → gap v n * P ≤ n → v * P ≤ n * P + n
most v n P h = part_above v n (gap v n) n P (omega arith) h

-- g is n / c and h is m / e, each but for its P th part, and n / c is larger than m / e by more than both
above : (g h c e n m P : ℕ) → gap (g * c) n * P ≤ n → gap (h * e) m * P ≤ m → m * c * P + m * c + n * e < n * e * P
    → h < g
above g h c e n m P x y far = lt_of_not-le clash
  where
    clash : g ≤ h → ⊥
    clash l =
        let a : g * (c * e * P) ≤ h * (c * e * P) = mul-le-mul_right (c * e * P) l in
        let b : n * P * e ≤ (g * c * P + n) * e = mul-le-mul_right e (least (g * c) n P x) in
        let d : h * e * P * c ≤ (m * P + m) * c = mul-le-mul_right c (most (h * e) m P y) in
        omega arith

-- a fraction with more units than a format has digits for
abbrev pub Large : Format → ℕ → ℕ → Type 0
Large f a c = 2 ^ prec f * c ≤ a * 2 ^ low f

dropped : (p z : ℕ) → 2 ^ p < 2 ^ z → 0 < z - p
dropped p z h = spare (lt_of_not-le (λ l. not-le_of_lt h (pow_mono l)))
  where
    spare : p < z → 0 < z - p
    spare h = omega arith

relative : (f : Format) (a c : ℕ) → 0 < c → Large f a c
    → gap (grid f a c * c) (a * 2 ^ low f) * 2 ^ prec f ≤ a * 2 ^ low f
relative f a c C l =
    let n = a * 2 ^ low f in
    kept_relative (prec f) n c (two f) C
    (dropped (prec f) (size (n / c)) (lt_of_le_of_lt ((le-div_iff_mul-le C).1 l) (size-lt (n / c))))

-- b / e is below a / c by more than two roundings
pub round_strict : (f : Format) (a c b e : ℕ) → 0 < c → 0 < e → Large f a c → Large f b e
    → grid f a c < overflow f → grid f b e < overflow f → b * c * 2 ^ prec f + b * c + a * e < a * e * 2 ^ prec f
    → T (lt (round f false b e) (round f false a c))
round_strict f a c b e C E A B s t far =
    let L = 2 ^ low f in
    let h = above (grid f a c) (grid f b e) c e (a * L) (b * L) (2 ^ prec f) (relative f a c C A) (relative f b e E B)
    (scaled b c a e (2 ^ prec f) L (pow_pos (low f)) far) in
    let P = pow_pos (low f) in
    lt_of_values (round f false b e) (round f false a c) (grid f b e) L (grid f a c) L P P (round_val f b e t)
    (round_val f a c s) (mul-lt-mul_of_pos_right h P)
  where
    scaled : (b c a e P L : ℕ) → 0 < L → b * c * P + b * c + a * e < a * e * P
        → b * L * c * P + b * L * c + a * L * e < a * L * e * P
    scaled b c a e P L l h =
        let k : (b * c * P + b * c + a * e) * L < a * e * P * L = mul-lt-mul_of_pos_right h l in
        omega arith
