-- One axis: the closest point is closest, the farther end farthest. Assumes nothing.
--
--   Axis, axis, valid_axis_test                  a valid axis
--   On, on, on_test, low_on, high_on             a point of it
--   valid_on, limited_on                         which is within the limits
--   closest_on, closest-least, closest_bound     the closest point
--   farthest_on, farthest_most, farthest_bound   the farther end
--   farthest_test                                which end that is
use Prim.Native.Nat.{◌+◌, ◌<◌, ◌≤◌}
use mathlib.Core.Bool.{true, false, cond, ◌&&◌}
use mathlib.Core.List.{List}
use mathlib.Core.Path.{◌≡◌, refl}
use native.Mathlib.Nat.{mul-le-mul}
use native.Mathlib.Omega.{arith}
use lib.Dec.{ltb}
use lib.IntN.{ℤ, ◌-ℤ◌}
use lib.Signed.{le_z, lt_z}
use borrow.Author.Tests.{ltb-true, ltb-false, lt-ltb}
use Rattle.base.proofs.Tests.{and_both, both_and, iff_eq, cond_ind}
use Rattle.geometry.specs.Box.{lowest, highest, lo, hi, within_limits, valid_axis, on_axis}
use Rattle.geometry.specs.Claims.{axis_bound}
use Rattle.geometry.specs.Distance.{gap, square, closest, farthest}
use Rattle.geometry.proofs.Shift.{shift, Limited, limited, limited_between, less_shift, at_most_shift}
use Rattle.geometry.proofs.Shift.{same-shift, at_most_refl, not_less, at_most_trans, sub-shift, gap-shift}
use Rattle.geometry.proofs.Shift.{square_bound, less_sub}

-- what the test of an axis shows
pub record Axis (s : List ℤ) : Type 0 where
  pub low : Limited (lo s)
  pub high : Limited (hi s)
  pub ordered : le_z (lo s) (hi s) ≡ true

pub axis : (s : List ℤ) → valid_axis s ≡ true → Axis s
unfolding valid_axis
axis s t =
    let p = and_both (within_limits (lo s) && within_limits (hi s)) (le_z (lo s) (hi s)) t in
    let q = and_both (within_limits (lo s)) (within_limits (hi s)) p.0 in
    record { low = limited (lo s) q.0; high = limited (hi s) q.1; ordered = p.1 }

-- the test in three comparisons: what lies between the limits is within them
pub valid_axis_test : (s : List ℤ) → valid_axis s ≡ (le_z lowest (lo s) && le_z (lo s) (hi s)) && le_z (hi s) highest
unfolding valid_axis within_limits
valid_axis_test s =
    iff_eq (valid_axis s) ((le_z lowest (lo s) && le_z (lo s) (hi s)) && le_z (hi s) highest)
    (λ t.
    let p = and_both (within_limits (lo s) && within_limits (hi s)) (le_z (lo s) (hi s)) t in
    let q = and_both (within_limits (lo s)) (within_limits (hi s)) p.0 in
    let l = and_both (le_z lowest (lo s)) (le_z (lo s) highest) q.0 in
    let h = and_both (le_z lowest (hi s)) (le_z (hi s) highest) q.1 in
    both_and (both_and l.0 p.1) h.1)
    (λ t.
    let p = and_both (le_z lowest (lo s) && le_z (lo s) (hi s)) (le_z (hi s) highest) t in
    let q = and_both (le_z lowest (lo s)) (le_z (lo s) (hi s)) p.0 in
    let l = both_and q.0 (at_most_trans (lo s) (hi s) highest q.1 p.1) in
    let h = both_and (at_most_trans lowest (lo s) (hi s) q.0 q.1) p.1 in
    both_and (both_and l h) q.1)

-- a point of an axis
pub record On (s : List ℤ) (x : ℤ) : Type 0 where
  pub from : le_z (lo s) x ≡ true
  pub to : le_z x (hi s) ≡ true

pub on : (s : List ℤ) (x : ℤ) → on_axis s x ≡ true → On s x
unfolding on_axis
on s x t = let p = and_both (le_z (lo s) x) (le_z x (hi s)) t in record { from = p.0; to = p.1 }

pub on_test : {s : List ℤ} {x : ℤ} → On s x → on_axis s x ≡ true
unfolding on_axis
on_test p = both_and p.from p.to

pub low_on : {s : List ℤ} → Axis s → On s (lo s)
low_on {s} a = record { from = at_most_refl (lo s); to = a.ordered }

pub high_on : {s : List ℤ} → Axis s → On s (hi s)
high_on {s} a = record { from = a.ordered; to = at_most_refl (hi s) }

pub valid_on : {s : List ℤ} {x : ℤ} → valid_axis s ≡ true → On s x → within_limits x ≡ true
unfolding valid_axis within_limits
valid_on {s} {x} v o =
    let ends = (and_both (within_limits (lo s) && within_limits (hi s)) (le_z (lo s) (hi s)) v).0 in
    let a = and_both (within_limits (lo s)) (within_limits (hi s)) ends in
    let l = and_both (le_z lowest (lo s)) (le_z (lo s) highest) a.0 in
    let h = and_both (le_z lowest (hi s)) (le_z (hi s) highest) a.1 in
    both_and (at_most_trans lowest (lo s) x l.0 o.from) (at_most_trans x (hi s) highest o.to h.1)

pub limited_on : {s : List ℤ} {x : ℤ} → Axis s → On s x → Limited x
limited_on {s} {x} a p = limited_between (lo s) x (hi s) a.low a.high p.from p.to

-- by the place of x against the axis
closest_ind {ℓ} : (s : List ℤ) (x : ℤ) (P : ℤ → Type ℓ) → (lt_z x (lo s) ≡ true → P (lo s))
    → (lt_z (hi s) x ≡ true → P (hi s)) →
    (lt_z x (lo s) ≡ false → lt_z (hi s) x ≡ false → P x) → P (closest s x)
unfolding closest
closest_ind s x P f g k =
    cond_ind (lt_z x (lo s)) (lo s) (cond (lt_z (hi s) x) (hi s) x) P f
    (λ n. cond_ind (lt_z (hi s) x) (hi s) x P g (λ m. k n m))

farthest_ind {ℓ} : (s : List ℤ) (x : ℤ) (P : ℤ → Type ℓ) → (gap x (lo s) < gap x (hi s) → P (hi s)) →
    (gap x (hi s) ≤ gap x (lo s) → P (lo s)) → P (farthest s x)
unfolding farthest
farthest_ind s x P f g =
    cond_ind (ltb (gap x (lo s)) (gap x (hi s))) (hi s) (lo s) P
    (λ t. f (ltb-true (gap x (lo s)) (gap x (hi s)) t))
    (λ t. g (ltb-false (gap x (lo s)) (gap x (hi s)) t))

-- the farther end, told by the differences to the two ends, which together are the axis
pub farthest_test : (s : List ℤ) (x : ℤ) → Axis s → Limited x
    → farthest s x ≡ cond (lt_z (x -ℤ lo s) (hi s -ℤ x)) (hi s) (lo s)
farthest_test s x a lx =
    let l = gap-shift x (lo s) lx.small a.low.small in
    let h = gap-shift x (hi s) lx.small a.high.small in
    let o = at_most_shift (lo s) (hi s) a.low.small a.high.small a.ordered in
    rw (
      sub-shift x (lo s) lx.small a.low.small,
      sub-shift (hi s) x a.high.small lx.small,
      less_sub (shift x) (shift (lo s)) (shift (hi s)) (shift x),
    )
    (farthest_ind s x (λ z. z ≡ cond (ltb (shift x + shift x) (shift (hi s) + shift (lo s))) (hi s) (lo s))
    (λ t. rw (lt-ltb (shift x + shift x) (shift (hi s) + shift (lo s)) (omega arith)))
    (λ t. cond_ind (ltb (shift x + shift x) (shift (hi s) + shift (lo s))) (hi s) (lo s) (λ z. lo s ≡ z)
    (λ u.
    let v = ltb-true (shift x + shift x) (shift (hi s) + shift (lo s)) u in
    same-shift (lo s) (hi s) a.low.small a.high.small (omega arith))
    (λ u. refl)))

module _ (s : List ℤ) (x : ℤ) (a : Axis s) (lx : Limited x) where
  pub closest_on : On s (closest s x)
  closest_on = closest_ind s x (On s) (λ t. low_on a) (λ t. high_on a)
      (λ n m. record { from = not_less x (lo s) n; to = not_less (hi s) x m })

  pub farthest_on : On s (farthest s x)
  farthest_on = farthest_ind s x (On s) (λ t. high_on a) (λ t. low_on a)

  module _ (q : ℤ) (p : On s q) where
    lq : Limited q
    lq = limited_on a p

    above : shift (lo s) ≤ shift q
    above = at_most_shift (lo s) q a.low.small lq.small p.from

    below : shift q ≤ shift (hi s)
    below = at_most_shift q (hi s) lq.small a.high.small p.to

    closest-gap : gap x (closest s x) ≤ gap x q
    closest-gap =
        let u = above in
        let v = below in
        let e = gap-shift x q lx.small lq.small in
        closest_ind s x (λ z. gap x z ≤ gap x q)
        (λ t. omega (
          arith,
          gap-shift x (lo s) lx.small a.low.small,
          less_shift x (lo s) lx.small a.low.small t,
        ))
        (λ t. omega (
          arith,
          gap-shift x (hi s) lx.small a.high.small,
          less_shift (hi s) x a.high.small lx.small t,
        ))
        (λ n k. omega (arith, gap-shift x x lx.small lx.small))

    farthest-gap : gap x q ≤ gap x (farthest s x)
    farthest-gap =
        let u = above in
        let v = below in
        let e = gap-shift x q lx.small lq.small in
        let el = gap-shift x (lo s) lx.small a.low.small in
        let eh = gap-shift x (hi s) lx.small a.high.small in
        farthest_ind s x (λ z. gap x q ≤ gap x z) (λ t. omega arith) (λ t. omega arith)

    pub closest-least : square x (closest s x) ≤ square x q
    unfolding square
    closest-least = mul-le-mul closest-gap closest-gap

    pub farthest_most : square x q ≤ square x (farthest s x)
    unfolding square
    farthest_most = mul-le-mul farthest-gap farthest-gap

  pub closest_bound : square x (closest s x) ≤ axis_bound
  closest_bound = square_bound x (closest s x) lx (limited_on a closest_on)

  pub farthest_bound : square x (farthest s x) ≤ axis_bound
  farthest_bound = square_bound x (farthest s x) lx (limited_on a farthest_on)
