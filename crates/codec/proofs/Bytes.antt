-- Numbers and their bytes. Assumes nothing.
--
--   number_at, numbers              k bytes as a number, and how many numbers they have
--   number_read, number_held, number-16, number-32   the laws below, for any width; the two widths
--   read_16, read_32, read_signed   what was written is read back
--   u16_small, u32_small            what is read is below its limit
--   held_16, held_32, held_signed   and it is what its bytes write
use Prim.Native.Nat.{ℕ, zero, suc, ◌+◌, ◌*◌, ◌/◌, ◌%◌, ◌<◌}
use mathlib.Core.List.{List}
use mathlib.Core.Path.{◌≡◌, refl, sym, ap, ◌∙◌}
use native.Mathlib.Nat.{not-suc-le-zero}
use native.Mathlib.Omega.{arith}
use lib.IntN.{ℤ}
use lib.ListN.{get_or}
use lib.Signed.{mag}
use Rattle.codec.specs.Bytes.{bytes, bytes16, bytes32, bytes_signed}
use Rattle.codec.specs.Number.{limit16, limit32, limit_signed, u16_at, u32_at, signed, i32_at}
use Rattle.codec.proofs.Holds.{Holds, holds_run, holds-cons, holds_head, holds_tail}
use Rattle.codec.proofs.Number.{bits_small, bits-signed, signed-bits}

-- ---- over the width: k bytes from an index on, as a number, and how many numbers k bytes have
unfoldable number_at : ℕ → List ℕ → ℕ → ℕ
number_at zero s at = 0
number_at (suc k) s at = get_or s at 0 + 256 * number_at k s (at + 1)

unfoldable numbers : ℕ → ℕ
numbers zero = 1
numbers (suc k) = 256 * numbers k

module _ (s : List ℕ) where
  number_read : (k i n : ℕ) → n < numbers k → Holds s i (bytes k n) → number_at k s i ≡ n
  unfolding bytes number_at numbers
  number_read zero i n l h = omega arith
  number_read (suc k) i n l h =
      let rest = number_read k (i + 1) (n / 256) (omega arith) (holds_tail h) in
      omega (arith, holds_head h)

  number_held : ((i : ℕ) → get_or s i 0 < 256) → (k i : ℕ) → Holds s i (bytes k (number_at k s i))
  unfolding bytes number_at
  number_held byte zero i = record { at = λ j l. absurd (not-suc-le-zero l) }
  number_held byte (suc k) i =
      let n = get_or s i 0 + 256 * number_at k s (i + 1) in
      let low : n % 256 ≡ get_or s i 0 = omega (arith, byte i) in
      let high : n / 256 ≡ number_at k s (i + 1) = omega (arith, byte i) in
      rw (low, high) (holds-cons refl (number_held byte k (i + 1)))

  -- ---- 16 and 32 bits, and signed 32 bits
  module _ (i : ℕ) where
    number-16 : number_at 2 s i ≡ u16_at s i
    unfolding number_at u16_at
    number-16 = omega arith

    number-32 : number_at 4 s i ≡ u32_at s i
    unfolding number_at u32_at u16_at
    number-32 = let e : i + 1 + 1 ≡ i + 2 = omega arith in rw e (omega arith)

    pub read_16 : {n : ℕ} → n < limit16 → Holds s i (bytes16 n) → u16_at s i ≡ n
    unfolding bytes16 numbers
    read_16 {n} l h = sym number-16 ∙ number_read 2 i n l h

    pub read_32 : {n : ℕ} → n < limit32 → Holds s i (bytes32 n) → u32_at s i ≡ n
    unfolding bytes32 numbers
    read_32 {n} l h = sym number-32 ∙ number_read 4 i n l h

    pub read_signed : {z : ℤ} → mag z < limit_signed → Holds s i (bytes_signed z) → i32_at s i ≡ z
    unfolding bytes_signed i32_at
    read_signed {z} l h = ap signed (read_32 (bits_small z l) h) ∙ signed-bits z l

    module _ (byte : (i : ℕ) → get_or s i 0 < 256) where
      pub u16_small : u16_at s i < limit16
      unfolding u16_at
      u16_small = omega (arith, byte i, byte (i + 1))

      pub u32_small : u32_at s i < limit32
      unfolding u32_at u16_at
      u32_small = omega (arith, byte i, byte (i + 1), byte (i + 2), byte (i + 2 + 1))

      pub held_16 : Holds s i (bytes16 (u16_at s i))
      unfolding bytes16
      held_16 = holds_run (number_held byte 2 i) (ap (bytes 2) number-16)

      pub held_32 : Holds s i (bytes32 (u32_at s i))
      unfolding bytes32
      held_32 = holds_run (number_held byte 4 i) (ap (bytes 4) number-32)

      pub held_signed : Holds s i (bytes_signed (i32_at s i))
      unfolding bytes_signed i32_at
      held_signed = holds_run held_32 (ap bytes32 (sym (bits-signed (u32_at s i) u32_small)))
