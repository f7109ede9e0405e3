-- The check of one block (document 01, "Blocks").
use Rattle.std.specs.Prelude.{ℕ, ◌+◌, ◌%◌, Bool, ◌&&◌, List, [], ◌∷◌, eqb, get_or}
use Rattle.std.proofs.Math.Seq.{slice}
use Rattle.blocks.specs.Layout.{check_at}
use Rattle.blocks.specs.declared.checksum.Sums.{Sums}

-- "for each of bytes 1 to 509, a becomes (a + byte) mod 255, then c becomes (c + a) mod 255": from a and c on, over the
-- bytes
unfoldable pub sums_from : ℕ → ℕ → List ℕ → Sums
sums_from a c [] = record { a = a; c = c }
sums_from a c (byte ∷ bytes) = sums_from ((a + byte) % 255) ((c + (a + byte) % 255) % 255) bytes

-- "a and c, 64-bit numbers, start at 0"; the bytes are 1 to 509. 02.3: "the 16-bit form is cheaper, and the sums never
-- need more": the numbers here have no width; that is the code's
unfoldable pub sums : List ℕ → Sums
sums s = sums_from 0 0 (slice 1 check_at s)

-- "Byte 510 is a, byte 511 is c"
unfoldable pub check_agrees : List ℕ → Bool
check_agrees s = eqb (get_or s check_at 0) (sums s).a && eqb (get_or s (check_at + 1) 0) (sums s).c
