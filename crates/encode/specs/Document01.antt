-- Without 02.1: the bytes of a file, where an entry ends in two zeros.
use Rattle.std.specs.Prelude.{ℕ, ◌*◌, ◌-◌, List, ◌++◌, ℤ, length, replicate}
use Rattle.base.specs.Tabulate.{joined}
use Rattle.blocks.specs.Directory.{directory_blocks, entries_due}
use Rattle.blocks.specs.Layout.{directory_kind, entry_size, muted_offset, entries_per_block}
use Rattle.codec.specs.Bytes.{bytes16}
use Rattle.encode.specs.Encode.{head_bytes, block_bytes, box_bytes, tile_bytes_of}
use Rattle.encode.specs.Supply.{Supply, axes_of, header_of, tiles_of, count_of}

-- "count (2), zero (2)"
unfoldable pub entry_bytes01 : ℕ → List ℤ → List ℕ → ℕ → List ℕ
entry_bytes01 a boxes counts t =
    box_bytes a boxes t ++ bytes16 (count_of counts t) ++ replicate (entry_size a - muted_offset a) 0

unfoldable pub directory_bytes01 : ℕ → List ℤ → List ℕ → ℕ → List ℕ
directory_bytes01 a boxes counts p =
    block_bytes (head_bytes (directory_kind a) p (entries_due (header_of a counts) p) (length counts))
    (joined (entry_bytes01 a boxes counts) (entries_per_block a * p) (entries_due (header_of a counts) p))

unfoldable pub file_bytes01 : Supply → List ℕ
file_bytes01 s =
    joined (directory_bytes01 (axes_of s) s.boxes s.counts) 0 (directory_blocks (header_of (axes_of s) s.counts))
    ++ joined (tile_bytes_of (axes_of s) s.counts s.spots s.cues) 0 (tiles_of s)
