-- The bytes of a file (document 01, "Blocks"; 02.1, 02.2), for a number of axes a.
--
--   head_bytes, body_bytes, check_bytes   of a block: bytes 0 to 7, 0 to 509, the last two
--   block_bytes                           a block
--   box_bytes, entry_bytes, site_bytes    a box, an entry, a site
--   directory_bytes                       a directory block
--   tile_bytes, tile_bytes_of             a tile block: of a run of sites, of a tile
--   file_bytes, file_length               the file, and its length
use Rattle.std.specs.Prelude.{ℕ, ◌+◌, ◌*◌, ◌-◌, List, [], ◌∷◌, ◌++◌, ℤ, pos, get_or, length, replicate}
use Rattle.base.specs.Tabulate.{joined}
use Rattle.blocks.specs.Checksum.{sums}
use Rattle.blocks.specs.Directory.{directory_blocks, entries_due}
use Rattle.blocks.specs.Layout.{block_size, sync_byte, directory_kind, tile_kind, reserved_at, payload_at, check_at}
use Rattle.blocks.specs.Layout.{entries_per_block}
use Rattle.blocks.specs.declared.header.Header.{Header}
use Rattle.codec.specs.Bytes.{bytes16, bytes32, bytes_signed}
use Rattle.geometry.specs.Around.{row}
use Rattle.tiles.specs.Tile.{tile_position}
use Rattle.encode.specs.Supply.{Supply, axes_of, header_of, tiles_of, numbers_per_box, box_number, count_of, offset}
use Rattle.encode.specs.Supply.{muted_of}

-- "Byte 0: D6 hex. Byte 1: kind .. Bytes 2-3: the block's position in the file .. Bytes 4-5: entries. Bytes 6-7: T"
unfoldable pub head_bytes : ℕ → ℕ → ℕ → ℕ → List ℕ
head_bytes kind p n t = (sync_byte ∷ []) ++ (kind ∷ []) ++ bytes16 p ++ bytes16 n ++ bytes16 t

-- bytes 510 and 511, of a list that has bytes 1 to 509
unfoldable pub check_bytes : List ℕ → List ℕ
check_bytes s = (sums s).a ∷ (sums s).c ∷ []

-- bytes 0 to 509: "Payload at 16-495 .. All else zero, unused payload too"
unfoldable pub body_bytes : List ℕ → List ℕ → List ℕ
body_bytes head payload =
    head ++ replicate (payload_at - reserved_at) 0 ++ payload ++ replicate (check_at - (payload_at + length payload)) 0

-- a block
unfoldable pub block_bytes : List ℕ → List ℕ → List ℕ
block_bytes head payload = body_bytes head payload ++ check_bytes (body_bytes head payload)

-- "A directory entry has 20 bytes: low x, low y, high x, high y (signed, 4 bytes each), count (2), zero (2)"; 02.1:
-- "Bytes 18-19 of a directory entry hold the number of muted sites"; 02.2: "entries of 28 bytes (three lows, three
-- highs, count, muted)". That of tile t
unfoldable pub box_bytes : ℕ → List ℤ → ℕ → List ℕ
box_bytes a boxes t = joined (λ n. bytes_signed (box_number a boxes t n)) 0 (numbers_per_box a)

unfoldable pub entry_bytes : ℕ → List ℤ → List ℕ → List ℕ → ℕ → List ℕ
entry_bytes a boxes counts cues t =
    box_bytes a boxes t ++ bytes16 (count_of counts t) ++ bytes16 (muted_of counts cues t)

-- "A site has 12 bytes: x, y (signed), cue"; 02.2: "sites of 16 bytes with z after y". Site i of the lists
unfoldable pub site_bytes : ℕ → List (List ℤ) → List ℕ → ℕ → List ℕ
site_bytes a spots cues i =
    joined (λ axis. bytes_signed (get_or (row spots i) axis (pos 0))) 0 a ++ bytes32 (get_or cues i 0)

-- the directory block at position p: "Each directory block but the last has 24 entries"; 02.2: "17 to a block"
unfoldable pub directory_bytes : ℕ → List ℤ → List ℕ → List ℕ → ℕ → List ℕ
directory_bytes a boxes counts cues p =
    block_bytes (head_bytes (directory_kind a) p (entries_due (header_of a counts) p) (length counts))
    (joined (entry_bytes a boxes counts cues) (entries_per_block a * p) (entries_due (header_of a counts) p))

-- a tile block at position p, with n sites of the lists from site i on; T is "zero in a tile"
unfoldable pub tile_bytes : ℕ → List (List ℤ) → List ℕ → ℕ → ℕ → ℕ → List ℕ
tile_bytes a spots cues p i n = block_bytes (head_bytes (tile_kind a) p n 0) (joined (site_bytes a spots cues) i n)

-- the block of tile t, at position d + t
unfoldable pub tile_bytes_of : ℕ → List ℕ → List (List ℤ) → List ℕ → ℕ → List ℕ
tile_bytes_of a counts spots cues t =
    tile_bytes a spots cues (tile_position (header_of a counts) t) (offset counts t) (count_of counts t)

-- "A file has d directory blocks, d = T/24 rounded up, then tile t at position d + t"
unfoldable pub file_bytes : Supply → List ℕ
file_bytes s =
    joined (directory_bytes (axes_of s) s.boxes s.counts s.cues) 0
    (directory_blocks (header_of (axes_of s) s.counts))
    ++ joined (tile_bytes_of (axes_of s) s.counts s.spots s.cues) 0 (tiles_of s)

-- "the file's length in bytes"
unfoldable pub file_length : Header → ℕ
file_length h = block_size * (directory_blocks h + h.tiles)
