-- Without 02.2: the directory as document 01 and 02.1 have it, by their own numbers. Every town has two axes, and a
-- file of over 512,000 bytes is refused before all else.
--
--   header_on_plan, directory_blocks_on_plan, entries_due_on_plan   the header, d, and how many entries a block has
--   entry_field_on_plan                                        where a field of an entry stands
--   entry_box_on_plan, entry_count_on_plan, entry_muted_on_plan      an entry: box, count, and how many of its sites are muted
--   tiles_due_on_plan, padding_on_plan, entry_valid_on_plan         tests 6, 8 and 9
--   directory_block_on_plan, directory_block_at_on_plan            a directory block: of its bytes, of a file
--   longest_on_plan, length_due_on_plan                          test 1
--   directory_rest_on_plan, directory_on_plan                    what reading comes to: after block 0, from the start
--   box_on_plan, count_on_plan, muted_on_plan                     box, count and muted number of a tile
--   PlanFile                                                a file that is read as without 02.2
use Rattle.std.specs.Prelude.{ℕ, min, ◌+◌, ◌-◌, ◌*◌, ◌/◌, ◌%◌, ◌≤◌, Bool, ◌&&◌, List, [], ◌∷◌, ◌≡◌, eqb, leb, ℤ, get_or, length}
use Rattle.base.specs.Every.{every}
use Rattle.base.specs.Refusal.{Outcome, accepted, require, and_then, #length, #position, #tiles, #entries, #padding}
use Rattle.base.specs.Refusal.{#box, in_turn}
use Rattle.codec.specs.Number.{u16_at, i32_at}
use Rattle.codec.specs.Zeros.{zeros}
use Rattle.geometry.specs.Box.{valid_box}
use Rattle.blocks.specs.Block.{block_at, position_in, entries_in, block_start}
use Rattle.blocks.specs.declared.header.Header.{Header}

-- "Bytes 6-7: T, the number of tiles"
abbrev pub header_on_plan : List ℕ → Header
header_on_plan s = record { tiles = u16_at s 6; axes = 2 }

-- "d = T/24 rounded up"
unfoldable pub directory_blocks_on_plan : ℕ → ℕ
directory_blocks_on_plan tiles = (tiles + 23) / 24

-- "Each directory block but the last has 24 entries": in the last what is left of T
unfoldable pub entries_due_on_plan : ℕ → ℕ → ℕ
entries_due_on_plan tiles p = min 24 (tiles - 24 * p)

-- "Payload at 16-495"; "A directory entry has 20 bytes"
abbrev pub entry_field_on_plan : ℕ → ℕ → ℕ
entry_field_on_plan i at = 16 + 20 * i + at

-- "low x, low y, high x, high y (signed, 4 bytes each), count (2)"; a box has its ends by axis
unfoldable pub entry_box_on_plan : List ℕ → ℕ → List (List ℤ)
entry_box_on_plan s i =
    (i32_at s (entry_field_on_plan i 0) ∷ i32_at s (entry_field_on_plan i 8) ∷ [])
    ∷ (i32_at s (entry_field_on_plan i 4) ∷ i32_at s (entry_field_on_plan i 12) ∷ []) ∷ []

unfoldable pub entry_count_on_plan : List ℕ → ℕ → ℕ
entry_count_on_plan s i = u16_at s (entry_field_on_plan i 16)

-- 02.1: "Bytes 18-19 of a directory entry hold the number of muted sites"
unfoldable pub entry_muted_on_plan : List ℕ → ℕ → ℕ
entry_muted_on_plan s i = u16_at s (entry_field_on_plan i 18)

-- 6: "T is 0, over 960, unlike block 0, or d + T is not the file's blocks"
unfoldable pub tiles_due_on_plan : ℕ → ℕ → ℕ → Bool
tiles_due_on_plan tiles first blocks =
    (leb 1 tiles && leb tiles 960) && (eqb tiles first && eqb (directory_blocks_on_plan tiles + tiles) blocks)

-- 8: "a byte due to be zero is not": bytes 8-15, and those from the last of n entries to the check
unfoldable pub padding_on_plan : List ℕ → ℕ → Bool
padding_on_plan s n = zeros s 8 16 && zeros s (16 + 20 * n) 510

-- 9: "coordinate beyond limits, low above high, or count over 40"; 02.1: "at most the count, else 9"
unfoldable pub entry_valid_on_plan : List ℕ → ℕ → Bool
entry_valid_on_plan s i =
    (valid_box (entry_box_on_plan s i) && leb (entry_count_on_plan s i) 40)
    && leb (entry_muted_on_plan s i) (entry_count_on_plan s i)

-- "each directory block 2 to 9 in table order": of the block with bytes s at position p, of a file of n bytes whose
-- block 0 has the header `first`
unfoldable pub directory_block_on_plan : List ℕ → ℕ → Header → ℕ → Outcome Header
directory_block_on_plan s p first n =
    let h = header_on_plan s in
    and_then (block_start 1 s p) (λ _.
    require (eqb (position_in s) p) #position p
    (require (tiles_due_on_plan h.tiles first.tiles (n / 512)) #tiles p
    (require (eqb (entries_in s) (entries_due_on_plan h.tiles p)) #entries p
    (require (padding_on_plan s (entries_due_on_plan h.tiles p)) #padding p
    (require (every (entry_valid_on_plan s) (entries_due_on_plan h.tiles p)) #box p
    (accepted h))))))

unfoldable pub directory_block_at_on_plan : List ℕ → ℕ → Outcome Header
directory_block_at_on_plan f p = directory_block_on_plan (block_at f p) p (header_on_plan (block_at f 0)) (length f)

-- 1: "file of 0 bytes, not a multiple of 512, or over 512,000"
abbrev pub longest_on_plan : ℕ
longest_on_plan = 512000

unfoldable pub length_due_on_plan : ℕ → Bool
length_due_on_plan n = (leb 1 n && eqb (n % 512) 0) && leb n longest_on_plan

unfoldable pub directory_rest_on_plan : List ℕ → Header → Outcome Header
directory_rest_on_plan f h =
    and_then (in_turn (directory_block_at_on_plan f) 1 (directory_blocks_on_plan h.tiles - 1)) (λ _. accepted h)

-- "Join: 1; each directory block 2 to 9 in table order"
unfoldable pub directory_on_plan : List ℕ → Outcome Header
directory_on_plan f =
    require (length_due_on_plan (length f)) #length 0
    (and_then (directory_block_at_on_plan f 0) (directory_rest_on_plan f))

-- of tile t, which has entry t % 24 of directory block t / 24
unfoldable pub box_on_plan : List ℕ → ℕ → List (List ℤ)
box_on_plan f t = entry_box_on_plan (block_at f (t / 24)) (t % 24)

unfoldable pub count_on_plan : List ℕ → ℕ → ℕ
count_on_plan f t = entry_count_on_plan (block_at f (t / 24)) (t % 24)

unfoldable pub muted_on_plan : List ℕ → ℕ → ℕ
muted_on_plan f t = entry_muted_on_plan (block_at f (t / 24)) (t % 24)

-- not over 512,000 bytes, nor block 0 of kind 3
abbrev pub PlanFile : List ℕ → Type 0
PlanFile f = (length f ≤ longest_on_plan) × (get_or (block_at f 0) 1 0 ≡ 3 → ⊥)
