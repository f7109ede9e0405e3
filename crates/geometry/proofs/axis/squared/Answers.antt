use Prim.Native.Nat.{◌*◌, ◌≤◌, ◌^◌}
use mathlib.Core.Path.{◌≡◌, refl, ◌∙◌}
use native.Mathlib.Nat.{mul-le-mul}
use native.Mathlib.Omega.{arith}
use lib.IntN.{ℤ, pos, negsuc, nat_abs, ◌*ℤ◌}
use lib.Signed.{nat_abs-le}
use mir.Facts.{to_z-of_z, sfits_widen}
use mir.Syntax.{w32, w64}
use mir.Val.{SFits, to_z, of_z}
use Rattle.geometry.proofs.axis.squared.Goals as goal

product : (z : ℤ) → z *ℤ z ≡ pos (nat_abs z * nat_abs z)
product (pos n) = refl
product (negsuc n) = refl

-- a number of 32 bits as one of 64, and its square
module _ (d : ℤ) (h : SFits w32 d) where
  wide : SFits w64 (to_z w32 (of_z w32 d))
  wide = rw (to_z-of_z h) (sfits_widen tt h)

  back : to_z w64 (of_z w64 (to_z w32 (of_z w32 d))) ≡ d
  back = to_z-of_z wide ∙ to_z-of_z h

  bound : nat_abs d * nat_abs d ≤ 2 ^ 62
  bound = let b = nat_abs-le d h.sfits in mul-le-mul b b

  square : to_z w64 (of_z w64 (to_z w32 (of_z w32 d))) *ℤ to_z w64 (of_z w64 (to_z w32 (of_z w32 d)))
      ≡ pos (nat_abs d * nat_abs d)
  square = rw back (product d)

  fits : SFits w64 (to_z w64 (of_z w64 (to_z w32 (of_z w32 d))) *ℤ to_z w64 (of_z w64 (to_z w32 (of_z w32 d))))
  fits = rw square (record { sfits = omega (arith, bound) })

pub overflow_cast-w : goal.overflow_cast-w
overflow_cast-w c = wide c.args.d c.ranges.d

pub overflow_mul-result : goal.overflow_mul-result
overflow_mul-result c = fits c.args.d c.ranges.d

pub overflow_cast-result : goal.overflow_cast-result
overflow_cast-result c = rw (to_z-of_z {w = w64} (fits c.args.d c.ranges.d), square c.args.d c.ranges.d)
    (tt, record { fits = omega (arith, bound c.args.d c.ranges.d) })

pub returns : goal.returns
returns c = rw (to_z-of_z {w = w64} (fits c.args.d c.ranges.d), square c.args.d c.ranges.d)
