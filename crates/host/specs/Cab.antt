-- Document 01, "Writer, full check, host, program": the two calls of the cab's sound host; 02.2: the margin over three
-- axes beside that over two.
--
--   block_tests, number_of, block_check   the check: its tests, an outcome's number, what it gives
--   box_from, box_from3, bad_box          a box of four numbers and of six, and what stands for a bad one
--   margin_or_bad, margin_number          the margin: by outcome, of three boxes
use Rattle.std.specs.Prelude.{ℕ, List, [], ◌∷◌, eqb, ℤ, pos, length, get_or}
use Rattle.base.specs.Refusal.{Outcome, accepted, refused, require, #length, #sync, #check}
use Rattle.blocks.specs.Checksum.{check_agrees}
use Rattle.blocks.specs.Layout.{block_size, sync_byte}
use Rattle.geometry.specs.Calls.{margin_call}
use Rattle.geometry.specs.Margin.{Reached}

-- "Exported check takes a byte slice: 0, or 1 (not 512 bytes), 2, 3."
unfoldable pub block_tests : List ℕ → Outcome ℕ
block_tests s =
    require (eqb (length s) block_size) #length 0
    (require (eqb (get_or s 0 0) sync_byte) #sync 0
    (require (check_agrees s) #check 0
    (accepted 0)))

abbrev pub number_of : Outcome ℕ → ℕ
number_of (accepted n) = n
number_of (refused number block) = number

unfoldable pub block_check : List ℕ → ℕ
block_check s = number_of (block_tests s)

-- "each low x, high x, low y, high y"
abbrev pub box_from : ℤ → ℤ → ℤ → ℤ → List (List ℤ)
box_from x0 x1 y0 y1 = (x0 ∷ x1 ∷ []) ∷ (y0 ∷ y1 ∷ []) ∷ []

-- 02.2: z after y
abbrev pub box_from3 : ℤ → ℤ → ℤ → ℤ → ℤ → ℤ → List (List ℤ)
box_from3 x0 x1 y0 y1 z0 z1 = (x0 ∷ x1 ∷ []) ∷ (y0 ∷ y1 ∷ []) ∷ (z0 ∷ z1 ∷ []) ∷ []

-- "gives a signed 64-bit number, 9,000,000,000,000,000,000 for a bad box"
abbrev pub bad_box : ℤ
bad_box = pos 9_000_000_000_000_000_000

abbrev pub margin_or_bad : Outcome Reached → ℤ
margin_or_bad (accepted r) = r.margin
margin_or_bad (refused number block) = bad_box

unfoldable pub margin_number : List (List ℤ) → List (List ℤ) → List (List ℤ) → ℤ
margin_number o e b = margin_or_bad (margin_call o e b)
