-- From the signed numbers to the line from 0, where `omega` reads: shift keeps order and distance. Assumes nothing.
--
--   dist, shift, Small                         on that line: a distance, a 32-bit number
--   less_shift, at_most_shift, same-shift      shift and order
--   at_most_refl, at_most_trans, less_at_most, not_less   orders of signed numbers
--   sub-shift, gap-shift, square-shift         shift and differences
--   less_sub, at_most_sub, add-sub, add_none   differences compared and added
--   abs_difference, mag_difference, mag_abs    how large they are
--   Limited, limited, limited_between          a coordinate within the limits
--   gap_comm, gap_fits, square_bound           two of them
use Prim.Native.Nat.{ℕ, zero, suc, ◌+◌, ◌-◌, ◌*◌, ◌<◌, ◌≤◌, ◌^◌}
use mathlib.Core.Bool.{true, false}
use mathlib.Core.Path.{◌≡◌, refl, sym, ap, ◌∙◌}
use native.Mathlib.Nat.{mul-le-mul}
use native.Mathlib.Omega.{arith}
use lib.Dec.{leb, ltb}
use lib.IntN.{ℤ, pos, negsuc, ◌+ℤ◌, ◌-ℤ◌, nat_abs, sub_ℕ}
use lib.Signed.{mag, le_z, lt_z}
use borrow.Author.Tests.{le-ltb, lt-ltb, ltb-true, ltb-false, leb-true, le-leb}
use Rattle.base.proofs.Tests.{and_both, cond_ind, iff_eq, clash}
use Rattle.geometry.specs.Box.{within_limits}
use Rattle.geometry.specs.Claims.{axis_bound}
use Rattle.geometry.specs.Distance.{gap, square}

-- how far two numbers from 0 are apart
abbrev pub dist : ℕ → ℕ → ℕ
dist a b = (a - b) + (b - a)

-- x + 2^31, for a 32-bit x: never negative
unfoldable pub shift : ℤ → ℕ
shift (pos n) = 2147483648 + n
shift (negsuc n) = 2147483647 - n

-- a 32-bit number
abbrev pub Small : ℤ → Type 0
Small z = mag z < 2 ^ 31

-- order
pub less_shift : (a b : ℤ) → Small a → Small b → lt_z a b ≡ true → shift a < shift b
unfolding shift
less_shift (pos a) (pos b) h k t = omega (arith, ltb-true a b t)
less_shift (pos a) (negsuc b) h k t = clash t refl
less_shift (negsuc a) (pos b) h k t = omega arith
less_shift (negsuc a) (negsuc b) h k t = omega (arith, ltb-true b a t)

pub at_most_shift : (a b : ℤ) → Small a → Small b → le_z a b ≡ true → shift a ≤ shift b
unfolding shift
at_most_shift (pos a) (pos b) h k t = omega (arith, leb-true a b t)
at_most_shift (pos a) (negsuc b) h k t = clash t refl
at_most_shift (negsuc a) (pos b) h k t = omega arith
at_most_shift (negsuc a) (negsuc b) h k t = omega (arith, leb-true b a t)

pub same-shift : (a b : ℤ) → Small a → Small b → shift a ≡ shift b → a ≡ b
unfolding shift
same-shift (pos a) (pos b) h k e = ap pos (omega arith)
same-shift (pos a) (negsuc b) h k e = absurd (omega arith)
same-shift (negsuc a) (pos b) h k e = absurd (omega arith)
same-shift (negsuc a) (negsuc b) h k e = ap negsuc (omega arith)

-- orders of signed numbers that need no bound
pub at_most_refl : (a : ℤ) → le_z a a ≡ true
at_most_refl (pos a) = le-leb a a (omega arith)
at_most_refl (negsuc a) = le-leb a a (omega arith)

pub not_less : (a b : ℤ) → lt_z a b ≡ false → le_z b a ≡ true
not_less (pos a) (pos b) t = le-leb b a (ltb-false a b t)
not_less (pos a) (negsuc b) t = refl
not_less (negsuc a) (pos b) t = clash refl t
not_less (negsuc a) (negsuc b) t = le-leb a b (ltb-false b a t)

pub at_most_trans : (a b c : ℤ) → le_z a b ≡ true → le_z b c ≡ true → le_z a c ≡ true
at_most_trans (pos a) (pos b) (pos c) h k = le-leb a c (omega (arith, leb-true a b h, leb-true b c k))
at_most_trans (pos a) (pos b) (negsuc c) h k = clash k refl
at_most_trans (pos a) (negsuc b) c h k = clash h refl
at_most_trans (negsuc a) (pos b) (pos c) h k = refl
at_most_trans (negsuc a) (pos b) (negsuc c) h k = clash k refl
at_most_trans (negsuc a) (negsuc b) (pos c) h k = refl
at_most_trans (negsuc a) (negsuc b) (negsuc c) h k = le-leb c a (omega (arith, leb-true b a h, leb-true c b k))

pub less_at_most : (a b : ℤ) → lt_z a b ≡ true → le_z a b ≡ true
less_at_most (pos a) (pos b) h = le-leb a b (omega (arith, ltb-true a b h))
less_at_most (pos a) (negsuc b) h = clash h refl
less_at_most (negsuc a) (pos b) h = refl
less_at_most (negsuc a) (negsuc b) h = le-leb b a (omega (arith, ltb-true b a h))

-- what lies between two 32-bit numbers is one
small_between : (a z b : ℤ) → Small a → Small b → le_z a z ≡ true → le_z z b ≡ true → Small z
small_between a (pos z) (pos b) h k s t = omega (arith, leb-true z b t)
small_between a (pos z) (negsuc b) h k s t = clash t refl
small_between (pos a) (negsuc z) b h k s t = clash s refl
small_between (negsuc a) (negsuc z) b h k s t = omega (arith, leb-true z a s)

-- a difference of two numbers from 0, by its sign
sub_ind : (a b : ℕ) (R : ℤ → Type 0) → ((x : ℕ) → b + x ≡ a → R (pos x)) → ((x : ℕ) → a + suc x ≡ b → R (negsuc x))
    → R (sub_ℕ a b)
sub_ind a b R f g =
    cond_ind (ltb a b) (negsuc (b - suc a)) (pos (a - b)) R
    (λ t. let h = ltb-true a b t in g (b - suc a) (omega arith))
    (λ t. let h = ltb-false a b t in f (a - b) (omega arith))

sub_pos : (a b x : ℕ) → b + x ≡ a → sub_ℕ a b ≡ pos x
sub_pos a b x e = sub_ind a b (λ z. z ≡ pos x) (λ y f. ap pos (omega arith)) (λ y f. absurd (omega arith))

sub_neg : (a b x : ℕ) → a + suc x ≡ b → sub_ℕ a b ≡ negsuc x
sub_neg a b x e = sub_ind a b (λ z. z ≡ negsuc x) (λ y f. absurd (omega arith)) (λ y f. ap negsuc (omega arith))

sub_is : (a b : ℕ) → pos a -ℤ pos b ≡ sub_ℕ a b
sub_is a zero = sym (sub_pos a 0 (a + 0) (omega arith))
sub_is a (suc b) = refl

-- two pairs of numbers as far apart, the same way round
sub_same : (a b c d : ℕ) → a + d ≡ c + b → sub_ℕ a b ≡ sub_ℕ c d
sub_same a b c d e = sub_ind a b (λ z. z ≡ sub_ℕ c d) (λ x f. sym (sub_pos c d x (omega arith)))
    (λ x f. sym (sub_neg c d x (omega arith)))

-- the difference of two
pub sub-shift : (a b : ℤ) → Small a → Small b → a -ℤ b ≡ pos (shift a) -ℤ pos (shift b)
unfolding shift
sub-shift a b h k = go a b h k ∙ sym (sub_is (shift a) (shift b))
  where
    go : (a b : ℤ) → Small a → Small b → a -ℤ b ≡ sub_ℕ (shift a) (shift b)
    go (pos a) (pos b) h k = sub_is a b ∙ sub_same a b (shift (pos a)) (shift (pos b)) (omega arith)
    go (pos a) (negsuc b) h k = sym (sub_pos (shift (pos a)) (shift (negsuc b)) (a + suc b) (omega arith))
    go (negsuc a) (pos zero) h k = sub_same 0 (suc a) (shift (negsuc a)) (shift (pos zero)) (omega arith)
    go (negsuc a) (pos (suc b)) h k = sym (sub_neg (shift (negsuc a)) (shift (pos (suc b))) (suc (a + b)) (omega arith))
    go (negsuc a) (negsuc b) h k = sub_same (suc b) (suc a) (shift (negsuc a)) (shift (negsuc b)) (omega arith)

-- the size of a difference
pub abs_difference : (a b : ℕ) → nat_abs (pos a -ℤ pos b) ≡ dist a b
abs_difference a b = rw (sub_is a b) (sub_ind a b (λ z. nat_abs z ≡ dist a b) (λ x e. omega arith) (λ x e. omega arith))

pub mag_abs : (z : ℤ) → mag z ≤ nat_abs z
mag_abs (pos n) = omega arith
mag_abs (negsuc n) = omega arith

-- distance
pub gap-shift : (a b : ℤ) → Small a → Small b → gap a b ≡ dist (shift a) (shift b)
unfolding gap
gap-shift a b h k = ap nat_abs (sub-shift a b h k) ∙ abs_difference (shift a) (shift b)

pub square-shift : (a b : ℤ) → Small a → Small b → square a b ≡ dist (shift a) (shift b) * dist (shift a) (shift b)
unfolding square
square-shift a b h k = rw (gap-shift a b h k)

-- a coordinate within the limits
pub record Limited (z : ℤ) : Type 0 where
  pub from : 2146483648 ≤ shift z
  pub to : shift z ≤ 2148483648
  pub small : Small z

pub limited : (z : ℤ) → within_limits z ≡ true → Limited z
unfolding within_limits shift
limited (pos z) t = let h = leb-true z 1000000 t in record { from = omega arith; to = omega arith; small = omega arith }
limited (negsuc z) t =
    let h = leb-true z 999999 (and_both (leb z 999999) true t).0 in
    record { from = omega arith; to = omega arith; small = omega arith }

pub limited_between : (a z b : ℤ) → Limited a → Limited b → le_z a z ≡ true → le_z z b ≡ true → Limited z
limited_between a z b h k s t =
    let m : Small z = small_between a z b h.small k.small s t in
    let x = at_most_shift a z h.small m s in
    let y = at_most_shift z b m k.small t in
    record { from = omega arith; to = omega arith; small = m }

-- the difference of two coordinates, either way
gap_bound : (a b : ℤ) → Limited a → Limited b → gap a b ≤ 2000000
gap_bound a b h k = omega (arith, gap-shift a b h.small k.small)

pub gap_comm : (a b : ℤ) → Limited a → Limited b → gap a b ≡ gap b a
gap_comm a b h k = omega (arith, gap-shift a b h.small k.small, gap-shift b a k.small h.small)

pub gap_fits : (a b : ℤ) → Limited a → Limited b → mag (a -ℤ b) < 2 ^ 31
unfolding gap
gap_fits a b h k = omega (arith, gap_bound a b h k, mag_abs (a -ℤ b))

pub square_bound : (a b : ℤ) → Limited a → Limited b → square a b ≤ axis_bound
unfolding square
square_bound a b h k =
    let g = gap_bound a b h k in
    mul-le-mul g g

-- by the signs of two differences
sub_order : (a b c d : ℕ) (R : ℤ → ℤ → Type 0) →
    ((x y : ℕ) → b + x ≡ a → d + y ≡ c → R (pos x) (pos y)) →
    ((x y : ℕ) → b + x ≡ a → c + suc y ≡ d → R (pos x) (negsuc y)) →
    ((x y : ℕ) → a + suc x ≡ b → d + y ≡ c → R (negsuc x) (pos y)) →
    ((x y : ℕ) → a + suc x ≡ b → c + suc y ≡ d → R (negsuc x) (negsuc y)) →
    R (pos a -ℤ pos b) (pos c -ℤ pos d)
sub_order a b c d R pp pn np nn =
    rw (sub_is a b, sub_is c d)
    (sub_ind a b (λ z. R z (sub_ℕ c d))
    (λ x e. sub_ind c d (R (pos x)) (λ y f. pp x y e f) (λ y f. pn x y e f))
    (λ x e. sub_ind c d (R (negsuc x)) (λ y f. np x y e f) (λ y f. nn x y e f)))

-- a - b is below c - d exactly when a + d is below c + b
pub less_sub : (a b c d : ℕ) → lt_z (pos a -ℤ pos b) (pos c -ℤ pos d) ≡ ltb (a + d) (c + b)
less_sub a b c d = sub_order a b c d (λ x y. lt_z x y ≡ ltb (a + d) (c + b))
    (λ x y p q. same x y (omega arith) (omega arith))
    (λ x y p q. rw (le-ltb (a + d) (c + b) (omega arith)))
    (λ x y p q. rw (lt-ltb (a + d) (c + b) (omega arith)))
    (λ x y p q. same y x (omega arith) (omega arith))
  where
    same : (x y : ℕ) → (x < y → a + d < c + b) → (a + d < c + b → x < y) → ltb x y ≡ ltb (a + d) (c + b)
    same x y f g = iff_eq (ltb x y) (ltb (a + d) (c + b))
        (λ t. lt-ltb (a + d) (c + b) (f (ltb-true x y t)))
        (λ t. lt-ltb x y (g (ltb-true (a + d) (c + b) t)))

pub at_most_sub : (a b c d : ℕ) → a + d ≤ c + b → le_z (pos a -ℤ pos b) (pos c -ℤ pos d) ≡ true
at_most_sub a b c d h = sub_order a b c d (λ x y. le_z x y ≡ true)
    (λ x y p q. le-leb x y (omega arith))
    (λ x y p q. absurd (omega arith))
    (λ x y p q. refl)
    (λ x y p q. le-leb y x (omega arith))

-- differences add up
pub add-sub : (a b c d : ℕ) → (pos a -ℤ pos b) +ℤ (pos c -ℤ pos d) ≡ pos (a + c) -ℤ pos (b + d)
add-sub a b c d =
    sub_order a b c d (λ x y. x +ℤ y ≡ sub_ℕ (a + c) (b + d))
    (λ x y p q. sym (sub_pos (a + c) (b + d) (x + y) (omega arith)))
    (λ x y p q. sub_same x (suc y) (a + c) (b + d) (omega arith))
    (λ x y p q. sub_same y (suc x) (a + c) (b + d) (omega arith))
    (λ x y p q. sym (sub_neg (a + c) (b + d) (suc (x + y)) (omega arith)))
    ∙ sym (sub_is (a + c) (b + d))

pub mag_difference : (a b m : ℕ) → a ≤ m → b ≤ m → mag (pos a -ℤ pos b) ≤ m
mag_difference a b m h k = omega (arith, abs_difference a b, mag_abs (pos a -ℤ pos b))

pub add_none : (z : ℤ) → z +ℤ pos 0 ≡ z
add_none (pos n) = ap pos (omega arith)
add_none (negsuc n) = sub_neg 0 (suc n) n (omega arith)
