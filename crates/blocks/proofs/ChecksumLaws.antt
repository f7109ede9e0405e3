-- Laws of the two sums. Assumes nothing.
--
--   sums_turn, sums_end         one more byte, in sums that are kept whole; no more bytes
--   sums-small                  the sums are below 255
--   Within, within_next, _room  how large sums get that are reduced late: 21 bytes fit 16 bits
use Prim.Native.Nat.{ℕ, ◌+◌, ◌*◌, ◌%◌, ◌<◌, ◌≤◌}
use mathlib.Core.List.{List, [], ◌∷◌}
use mathlib.Core.Path.{◌≡◌, ap, ◌∙◌}
use native.Mathlib.Nat.{mul-le-mul_right}
use native.Mathlib.Numerals.{add-one}
use native.Mathlib.Omega.{arith}
use lib.ListN.{length, get_or}
use lib.Seq.{slice, slice-cons, slice_empty}
use Rattle.codec.specs.Number.{limit16}
use Rattle.blocks.specs.Checksum.{sums_from}
use Rattle.blocks.specs.Layout.{check_at}

-- a remainder may be taken at once or at the end
remainder_a : (a w : ℕ) → (a % 255 + w) % 255 ≡ (a + w) % 255
remainder_a a w = omega arith

remainder_c : (a c w : ℕ) → (c % 255 + (a + w) % 255) % 255 ≡ (c + (a + w)) % 255
remainder_c a c w = omega arith

-- one turn of the loop, which keeps the sums whole, and its end
module _ (s : List ℕ) (i a c : ℕ) where
  pub sums_turn : (w : ℕ) → i < check_at → check_at ≤ length s → w ≡ get_or s i 0 →
      sums_from ((a + w) % 255) ((c + (a + w)) % 255) (slice (i + 1) check_at s)
      ≡ sums_from (a % 255) (c % 255) (slice i check_at s)
  unfolding sums_from
  sums_turn w h l e = rw (slice-cons i check_at s 0 h l, add-one, ← e, remainder_a a w, remainder_c a c w)

  pub sums_end : i ≡ check_at → sums_from a c (slice i check_at s) ≡ record { a = a; c = c }
  unfolding sums_from
  sums_end e = ap (λ j. sums_from a c (slice j check_at s)) e ∙ ap (sums_from a c) (slice_empty check_at s)

pub sums-small : (bytes : List ℕ) (a c : ℕ) → a < 255 → c < 255 →
    ((sums_from a c bytes).a < 255)
    × ((sums_from a c bytes).c < 255)
unfolding sums_from
sums-small [] a c h g = (h, g)
sums-small (b ∷ bytes) a c h g =
    sums-small bytes ((a + b) % 255) ((c + (a + b) % 255) % 255) (omega arith) (omega arith)

-- how large sums below 255 get by n bytes: a by at most 255 a byte, and c by as much as a is then
pub record Within (n a c : ℕ) : Type 0 where
  pub most_a : a ≤ 254 + 255 * n
  pub most_c : 2 * c ≤ 508 + 763 * n + 255 * (n * n)

pub within_next : {n a c w : ℕ} → w < 256 → Within n a c → Within (n + 1) (a + w) (c + (a + w))
within_next h m = record { most_a = omega (arith, m); most_c = omega (arith, m) }

-- 21 bytes fit: before the last of them there is still room for any byte. 22 need not: from a = c = 254, FF hex 22
-- times makes c 70,357.
pub within_room : {n a c : ℕ} → n < 21 → Within n a c → c + (a + 255) < limit16
within_room {n} h m = let q : n * n ≤ 20 * n = mul-le-mul_right n (omega arith) in omega (arith, m, q)
