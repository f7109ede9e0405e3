-- The bytes of a number, "little-endian" (document 01, "Blocks").
--
--   bytes, bytes16, bytes32   of an unsigned number: k bytes, 2, 4
--   bits, bytes_signed        of a signed one, by its 32 bits
use Rattle.std.specs.Prelude.{ℕ, zero, suc, ◌-◌, ◌/◌, ◌%◌, List, [], ◌∷◌, ℤ, pos, negsuc}

-- the k low bytes of n, the lowest first
unfoldable pub bytes : ℕ → ℕ → List ℕ
bytes zero n = []
bytes (suc k) n = n % 256 ∷ bytes k (n / 256)

unfoldable pub bytes16 : ℕ → List ℕ
bytes16 n = bytes 2 n

unfoldable pub bytes32 : ℕ → List ℕ
bytes32 n = bytes 4 n

-- the 32 bits of a signed number, as a number
unfoldable pub bits : ℤ → ℕ
bits (pos n) = n
bits (negsuc n) = 0xffff_ffff - n

unfoldable pub bytes_signed : ℤ → List ℕ
bytes_signed z = bytes32 (bits z)
