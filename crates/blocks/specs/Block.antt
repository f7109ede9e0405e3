-- The blocks of a file, and the tests that both kinds of block have in common (document 01, "Blocks"; 02.2).
--
--   block_at                            a block of a file
--   position_in, entries_in             the fields of its head
--   axes_in, header_in                  what block 0 settles: the axes, and with T the header
--   kind_due, block_start               test 4; tests 2 to 4 in order
use Rattle.std.specs.Prelude.{ℕ, ◌*◌, Bool, cond, List, eqb, get_or, take, drop}
use Rattle.base.specs.Refusal.{Outcome, accepted, require, #sync, #check, #kind}
use Rattle.codec.specs.Number.{u16_at}
use Rattle.blocks.specs.Checksum.{check_agrees}
use Rattle.blocks.specs.Layout.{block_size, plan, height, sync_byte, directory_kind, kind_at, position_at, entries_at}
use Rattle.blocks.specs.Layout.{tiles_at}
use Rattle.blocks.specs.declared.header.Header.{Header}

-- the bytes of the block at position p
unfoldable pub block_at : List ℕ → ℕ → List ℕ
block_at f p = take block_size (drop (block_size * p) f)

-- "Bytes 2-3: the block's position in the file"; "Bytes 4-5: entries"
abbrev pub position_in : List ℕ → ℕ
position_in s = u16_at s position_at

abbrev pub entries_in : List ℕ → ℕ
entries_in s = u16_at s entries_at

-- 02.2: "Block 0 settles the axes": three where it has the kind of a directory with height, else two
unfoldable pub axes_in : List ℕ → ℕ
axes_in s = cond (eqb (get_or s kind_at 0) (directory_kind height)) height plan

-- the header of a directory block: "Bytes 6-7: T, the number of tiles", and the axes
abbrev pub header_in : List ℕ → Header
header_in s = record { tiles = u16_at s tiles_at; axes = axes_in s }

-- "the kind due at this position"
unfoldable pub kind_due : ℕ → List ℕ → Bool
kind_due kind s = eqb (get_or s kind_at 0) kind

-- tests 2 to 4 of the block with bytes s, which stands at position p
unfoldable pub block_start : ℕ → List ℕ → ℕ → Outcome Unit
block_start kind s p =
    require (eqb (get_or s 0 0) sync_byte) #sync p
    (require (check_agrees s) #check p
    (require (kind_due kind s) #kind p
    (accepted tt)))
