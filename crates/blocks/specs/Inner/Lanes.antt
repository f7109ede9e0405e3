-- The sums of a block by lanes: byte j of each row of eight goes into lane j, which sums up its bytes as a block does.
--
--   lanes                how many there are
--   max_added, rows_size how many bytes are added to a lane before it is reduced, and to all lanes
--   sum_to               the sum of f 0 to f (n - 1)
--   total_of, moment_of  the sum of the lanes, and the sum of j times lane j
--   whole_a, whole_c     what the lanes' sums come to in those of a block
--   sums_on              the block's sums, with the bytes before i in the lanes
--   Small, Reduced       sums below 255
--   RowFits, RowAdded    there is room for a row; it is added
--   Remainders           the sums modulo 255
use Rattle.std.specs.Prelude.{ℕ, zero, suc, ◌+◌, ◌*◌, ◌%◌, ◌<◌, List, ◌≡◌, get_or}
use Rattle.std.proofs.Math.Seq.{slice}
use Rattle.codec.specs.Number.{limit16}
use Rattle.blocks.specs.Layout.{check_at}
use Rattle.blocks.specs.Checksum.{sums_from}
use Rattle.blocks.specs.declared.checksum.Sums.{Sums}
use Rattle.blocks.specs.declared.lanes.Lanes.{Lanes}

abbrev pub lanes : ℕ
lanes = 8

abbrev pub max_added : ℕ
max_added = 21

abbrev pub rows_size : ℕ
rows_size = lanes * max_added

unfoldable pub sum_to : (ℕ → ℕ) → ℕ → ℕ
sum_to f zero = 0
sum_to f (suc n) = sum_to f n + f n

unfoldable pub total_of : List ℕ → ℕ
total_of l = sum_to (λ j. get_or l j 0) lanes

unfoldable pub moment_of : List ℕ → ℕ
moment_of l = sum_to (λ j. j * get_or l j 0) lanes

abbrev pub whole_a : Lanes → ℕ
whole_a l = total_of l.a

-- In c a lane counts a byte once for each row from its own on, a block once for each byte from its own on: eight times
-- as often, less once for each of the j bytes ahead of it in its row. So the block's c is the sum of 8 c - j a over the
-- lanes; 254 is -1 modulo 255.
abbrev pub whole_c : Lanes → ℕ
whole_c l = lanes * total_of l.c + 254 * moment_of l.a

unfoldable pub sums_on : Lanes → List ℕ → ℕ → Sums
sums_on l s i = sums_from (whole_a l % 255) (whole_c l % 255) (slice i check_at s)

abbrev pub Small : List ℕ → Type 0
Small l = (j : ℕ) → j < lanes → get_or l j 0 < 255

abbrev pub Reduced : Lanes → Type 0
Reduced l = Small l.a × Small l.c

abbrev pub RowFits : Lanes → Type 0
RowFits l = (j : ℕ) → j < lanes → get_or l.c j 0 + (get_or l.a j 0 + 255) < limit16

abbrev pub RowAdded : Lanes → List ℕ → ℕ → Lanes → Type 0
RowAdded l s i r =
    (j : ℕ) → j < lanes →
    (get_or r.a j 0 ≡ get_or l.a j 0 + get_or s (i + j) 0)
    × (get_or r.c j 0 ≡ get_or l.c j 0 + (get_or l.a j 0 + get_or s (i + j) 0))

abbrev pub Remainders : Lanes → Lanes → Type 0
Remainders l r =
    (j : ℕ) → j < lanes →
    (get_or r.a j 0 ≡ get_or l.a j 0 % 255) × (get_or r.c j 0 ≡ get_or l.c j 0 % 255)
