-- The numbers of the house layout (document 01, "Blocks"; 02.1, 02.2), each under one name. What depends on the axes is
-- a formula of their number a: 2 in a plan town, 3 in one with height.
--
--   block_size                             bytes of a block
--   plan, height                           the numbers of axes
--   max_length                             bytes of the longest file
--   sync_byte, directory_kind, tile_kind   what bytes 0 and 1 hold
--   kind_at .. check_at                    where each field of a block starts
--   payload_size                           room for entries or sites
--   entry_size, number_offset, count_offset, muted_offset   an entry, and where its fields start
--   site_size, cue_offset                  a site, and where its cue starts
--   entries_per_block, max_sites           how many of them a block holds
--   max_tiles                              the largest T
use Rattle.std.specs.Prelude.{ℕ, ◌+◌, ◌*◌, ◌/◌, cond, eqb}

-- "512 bytes"
abbrev pub block_size : ℕ
block_size = 512

-- "x, y"; 02.2: "Towns with three axes join the plan ones"
abbrev pub plan : ℕ
plan = 2

abbrev pub height : ℕ
height = 3

-- "over 512,000" is a refusal; 02.2: a file with height "may have 1,017 blocks: over 520,704 bytes is 1"
abbrev pub max_length : ℕ → ℕ
max_length a = cond (eqb a height) 520704 512000

-- "Byte 0: D6 hex"
abbrev pub sync_byte : ℕ
sync_byte = 0xd6

-- "kind, 1 directory, 2 tile"; 02.2: "kind 3 for directory and 4 for tile"
abbrev pub directory_kind : ℕ → ℕ
directory_kind a = cond (eqb a height) 3 1

abbrev pub tile_kind : ℕ → ℕ
tile_kind a = cond (eqb a height) 4 2

-- where the fields of a block stand: kind, position, entries, T, the zeros of the head, payload, check
abbrev pub kind_at : ℕ
kind_at = 1

abbrev pub position_at : ℕ
position_at = 2

abbrev pub entries_at : ℕ
entries_at = 4

abbrev pub tiles_at : ℕ
tiles_at = 6

abbrev pub reserved_at : ℕ
reserved_at = 8

abbrev pub payload_at : ℕ
payload_at = 16

abbrev pub check_at : ℕ
check_at = 510

-- "Payload at 16-495"
abbrev pub payload_size : ℕ
payload_size = 480

-- "A directory entry has 20 bytes: low x, low y, high x, high y (signed, 4 bytes each), count (2), zero (2)"; 02.1:
-- "Bytes 18-19 of a directory entry hold the number of muted sites"; 02.2: "entries of 28 bytes (three lows, three
-- highs, count, muted)"
abbrev pub entry_size : ℕ → ℕ
entry_size a = 8 * a + 4

-- its numbers, 4 bytes each: low of axis i is number i, high of axis i number a + i
abbrev pub number_offset : ℕ → ℕ
number_offset i = 4 * i

abbrev pub count_offset : ℕ → ℕ
count_offset a = 8 * a

abbrev pub muted_offset : ℕ → ℕ
muted_offset a = 8 * a + 2

-- "24 fit a block"; 02.2: "17 to a block"
abbrev pub entries_per_block : ℕ → ℕ
entries_per_block a = payload_size / entry_size a

-- "A site has 12 bytes: x, y (signed), cue"; 02.2: "sites of 16 bytes with z after y"
abbrev pub site_size : ℕ → ℕ
site_size a = 4 * a + 4

abbrev pub cue_offset : ℕ → ℕ
cue_offset a = 4 * a

-- "A tile has 0 to 40 sites"; 02.2: "at most 30 to a tile"
abbrev pub max_sites : ℕ → ℕ
max_sites a = payload_size / site_size a

-- "T is 1 to 960"
abbrev pub max_tiles : ℕ
max_tiles = 960
