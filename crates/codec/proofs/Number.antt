-- Laws of signed numbers. Assumes nothing.
--
--   local_i32                  a number that passed through a local
--   signed_cast, bits_cast     what the library's conversions give
--   bits_small, signed-small   both are below their limits
--   signed-bits, bits-signed   bits and the number with these bits
use Prim.Native.Nat.{ℕ, suc, ◌-◌, ◌^◌, ◌<◌}
use mathlib.Core.Path.{◌≡◌, refl}
use native.Mathlib.Omega.{arith}
use lib.Dec.{ltb}
use lib.IntN.{ℤ, pos, negsuc}
use lib.Signed.{mag}
use mir.Facts.{to_z-of_z}
use mir.Syntax.{w32}
use mir.Val.{to_z, of_z}
use borrow.Author.Tests.{le-ltb, lt-ltb, ltb-true, ltb-false}
use Rattle.base.proofs.Tests.{by_test}
use Rattle.codec.specs.Bytes.{bits}
use Rattle.codec.specs.Number.{limit32, limit_signed, signed}

-- a signed number that passed through a local, where it is held as bits
pub local_i32 : (z : ℤ) → mag z < limit_signed → to_z w32 (of_z w32 z) ≡ z
local_i32 z h = to_z-of_z {w = w32} (record { sfits = h })

-- ---- the library's conversions
pub signed_cast : (n : ℕ) → to_z w32 n ≡ signed n
unfolding signed
signed_cast n =
    let k : 2 ^ 32 - suc n ≡ 0xffff_ffff - n = omega arith in
    by_test (ltb n limit_signed) (λ e. rw e) (λ e. rw (e, k))

pub bits_cast : (z : ℤ) → of_z w32 z ≡ bits z
unfolding bits
bits_cast (pos n) = refl
bits_cast (negsuc n) = omega arith

-- ---- bits and the signed number with these bits
pub bits_small : (z : ℤ) → mag z < limit_signed → bits z < limit32
unfolding bits
bits_small (pos n) h = omega arith
bits_small (negsuc n) h = omega arith

pub signed-bits : (z : ℤ) → mag z < limit_signed → signed (bits z) ≡ z
unfolding bits signed
signed-bits (pos n) h = rw (lt-ltb n limit_signed h)
signed-bits (negsuc n) h =
    let k : 0xffff_ffff - (0xffff_ffff - n) ≡ n = omega arith in
    rw (le-ltb (0xffff_ffff - n) limit_signed (omega arith), k)

pub bits-signed : (n : ℕ) → n < limit32 → bits (signed n) ≡ n
unfolding bits signed
bits-signed n h = by_test (ltb n limit_signed) (λ e. rw e)
    (λ e. let k = ltb-false n limit_signed e in rw e (omega arith))

pub signed-small : (n : ℕ) → n < limit32 → mag (signed n) < limit_signed
unfolding signed
signed-small n h =
    by_test (ltb n limit_signed) (λ e. rw e (ltb-true n limit_signed e))
    (λ e. let k = ltb-false n limit_signed e in rw e (omega arith))
