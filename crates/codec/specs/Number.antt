-- Numbers at a position of a list of bytes, "little-endian" (document 01, "Blocks").
--
--   Bytes                            a list of bytes
--   limit16, limit32, limit_signed   what numbers of these widths are below
--   u16_at, u32_at, i32_at           the number at an index
--   signed                           bits read as a signed number
use Rattle.std.specs.Prelude.{ℕ, ◌+◌, ◌*◌, ◌-◌, ◌<◌, cond, List, ltb, ℤ, pos, negsuc, get_or}

-- a list of bytes: every element is below 256 (past its end `get_or` gives 0)
abbrev pub Bytes : List ℕ → Type 0
Bytes s = (i : ℕ) → get_or s i 0 < 256

-- numbers of 16 bits, of 32 bits, and magnitudes of signed numbers of 32 bits are below these
abbrev pub limit16 : ℕ
limit16 = 0x1_0000

abbrev pub limit32 : ℕ
limit32 = 0x1_0000_0000

abbrev pub limit_signed : ℕ
limit_signed = 0x8000_0000

unfoldable pub u16_at : List ℕ → ℕ → ℕ
u16_at s at = get_or s at 0 + 256 * get_or s (at + 1) 0

unfoldable pub u32_at : List ℕ → ℕ → ℕ
u32_at s at = u16_at s at + limit16 * u16_at s (at + 2)

-- the signed number with the 32 bits of n
unfoldable pub signed : ℕ → ℤ
signed n = cond (ltb n limit_signed) (pos n) (negsuc (0xffff_ffff - n))

unfoldable pub i32_at : List ℕ → ℕ → ℤ
i32_at s at = signed (u32_at s at)
