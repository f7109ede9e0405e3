-- The directory (document 01, "Blocks" and "Numbers given to bad input"; 02.1, 02.2). An entry is read for a number of
-- axes a.
--
--   directory_blocks, entries_due         d, and how many entries a directory block has
--   entry_offset, entry_number            where an entry starts, and a number of its box
--   entry_box, entry_count, entry_muted   an entry: box, count, and how many of its sites are muted
--   tiles_due, directory_padding          tests 6 and 8
--   valid_box_count, entry_valid          test 9 of one entry: of box and count, of all of it
--   length_due, length_fits               test 1: before all else, and of the axes
--   directory_block, directory_block_at   all tests of a directory block: of its bytes, of a file
--   directory_rest, directory             what reading comes to: after block 0, from the start
--   box_at, count_at, muted_at            box, count and muted number of a tile
use Rattle.std.specs.Prelude.{ℕ, min, ◌+◌, ◌*◌, ◌-◌, ◌/◌, ◌%◌, Bool, ◌&&◌, List, [], ◌∷◌, eqb, leb, ℤ, length}
use Rattle.base.specs.Refusal.{Outcome, accepted, require, and_then, #length, #position, #tiles, #entries, #padding}
use Rattle.base.specs.Refusal.{#box, in_turn}
use Rattle.base.specs.Every.{every}
use Rattle.base.specs.Tabulate.{tabulate}
use Rattle.codec.specs.Zeros.{zeros}
use Rattle.codec.specs.Number.{u16_at, i32_at}
use Rattle.geometry.specs.Box.{valid_box}
use Rattle.blocks.specs.Block.{block_at, header_in, position_in, entries_in, block_start}
use Rattle.blocks.specs.Layout.{block_size, height, max_length, directory_kind, reserved_at, payload_at, check_at}
use Rattle.blocks.specs.Layout.{entry_size, number_offset, count_offset, muted_offset, entries_per_block, max_sites}
use Rattle.blocks.specs.Layout.{max_tiles}
use Rattle.blocks.specs.declared.header.Header.{Header}

-- "d = T/24 rounded up"; 02.2: 17 for 24 with height
unfoldable pub directory_blocks : Header → ℕ
directory_blocks h = (h.tiles + (entries_per_block h.axes - 1)) / entries_per_block h.axes

-- "Each directory block but the last has 24 entries", 02.2: 17 with height; in the last what is left of T
unfoldable pub entries_due : Header → ℕ → ℕ
entries_due h p = min (entries_per_block h.axes) (h.tiles - entries_per_block h.axes * p)

-- where entry i of a block stands
unfoldable pub entry_offset : ℕ → ℕ → ℕ
entry_offset a i = payload_at + entry_size a * i

-- "low x, low y, high x, high y (signed, 4 bytes each), count (2)"; a box has its ends by axis
abbrev pub entry_number : ℕ → List ℕ → ℕ → ℕ → ℤ
entry_number a s i n = i32_at s (entry_offset a i + number_offset n)

unfoldable pub entry_box : ℕ → List ℕ → ℕ → List (List ℤ)
entry_box a s i = tabulate (λ axis. entry_number a s i axis ∷ entry_number a s i (a + axis) ∷ []) 0 a

unfoldable pub entry_count : ℕ → List ℕ → ℕ → ℕ
entry_count a s i = u16_at s (entry_offset a i + count_offset a)

-- 02.1: "Bytes 18-19 of a directory entry hold the number of muted sites"; with height they are bytes 26-27
unfoldable pub entry_muted : ℕ → List ℕ → ℕ → ℕ
entry_muted a s i = u16_at s (entry_offset a i + muted_offset a)

-- 6: "T is 0, over 960, unlike block 0, or d + T is not the file's blocks"
unfoldable pub tiles_due : Header → Header → ℕ → Bool
tiles_due h first blocks =
    (leb 1 h.tiles && leb h.tiles max_tiles) &&
    (eqb h.tiles first.tiles && eqb (directory_blocks h + h.tiles) blocks)

-- 8: "a byte due to be zero is not"; with n entries these are bytes 8-15 and what lies between the last entry and the
-- check: "All else zero, unused payload too"
unfoldable pub directory_padding : ℕ → List ℕ → ℕ → Bool
directory_padding a s n = zeros s reserved_at payload_at && zeros s (entry_offset a n) check_at

-- 9: "coordinate beyond limits, low above high, or count over 40"; 02.2: "A count over 30 is 9 there". The writer's
-- test too
abbrev pub valid_box_count : ℕ → List (List ℤ) → ℕ → Bool
valid_box_count a bounds count = valid_box bounds && leb count (max_sites a)

-- 02.1: the muted sites are "at most the count, else 9"
unfoldable pub entry_valid : ℕ → List ℕ → ℕ → Bool
entry_valid a s i =
    valid_box_count a (entry_box a s i) (entry_count a s i) && leb (entry_muted a s i) (entry_count a s i)

-- 1: "file of 0 bytes, not a multiple of 512, or over 512,000"; 02.2: "over 520,704 bytes is 1 before all else"
unfoldable pub length_due : ℕ → Bool
length_due n = (leb 1 n && eqb (n % block_size) 0) && leb n (max_length height)

-- 02.2: "over 512,000 is 1 directly after block 0's test for 4 if its kind is 1"
unfoldable pub length_fits : ℕ → ℕ → Bool
length_fits a n = leb n (max_length a)

-- the directory block with bytes s at position p, of a file of n bytes whose block 0 has the header `first`; gives its
-- own. 02.2: "Block 0 settles the axes; another kind later is 4". What block 0 has shown of the length, no later block
-- refuses
unfoldable pub directory_block : List ℕ → ℕ → Header → ℕ → Outcome Header
directory_block s p first n =
    and_then (block_start (directory_kind first.axes) s p) (λ _.
    require (length_fits first.axes n) #length p
    (require (eqb (position_in s) p) #position p
    (require (tiles_due (header_in s) first (n / block_size)) #tiles p
    (require (eqb (entries_in s) (entries_due (header_in s) p)) #entries p
    (require (directory_padding first.axes s (entries_due (header_in s) p)) #padding p
    (require (every (entry_valid first.axes s) (entries_due (header_in s) p)) #box p
    (accepted (header_in s))))))))

-- the same of the block at position p of a file
unfoldable pub directory_block_at : List ℕ → ℕ → Outcome Header
directory_block_at f p = directory_block (block_at f p) p (header_in (block_at f 0)) (length f)

-- the directory blocks after block 0, in order; gives the header
unfoldable pub directory_rest : List ℕ → Header → Outcome Header
directory_rest f h = and_then (in_turn (directory_block_at f) 1 (directory_blocks h - 1)) (λ _. accepted h)

-- "Join: 1; each directory block 2 to 9 in table order"; gives the header
unfoldable pub directory : List ℕ → Outcome Header
directory f =
    require (length_due (length f)) #length 0
    (and_then (directory_block_at f 0) (directory_rest f))

-- box, count and muted number of tile t, which are those of entry t % 24 of directory block t / 24, with height t % 17
-- of t / 17
unfoldable pub box_at : List ℕ → Header → ℕ → List (List ℤ)
box_at f h t =
    entry_box h.axes (block_at f (t / entries_per_block h.axes)) (t % entries_per_block h.axes)

unfoldable pub count_at : List ℕ → Header → ℕ → ℕ
count_at f h t =
    entry_count h.axes (block_at f (t / entries_per_block h.axes)) (t % entries_per_block h.axes)

unfoldable pub muted_at : List ℕ → Header → ℕ → ℕ
muted_at f h t =
    entry_muted h.axes (block_at f (t / entries_per_block h.axes)) (t % entries_per_block h.axes)
