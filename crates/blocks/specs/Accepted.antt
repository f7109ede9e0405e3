-- What acceptance of a directory block and of a directory shows of the bytes. The theorems say that it shows exactly
-- this.
--
--   GoodHead, GoodDirectoryBlock   of a block: its head, and all of it
--   GoodTiles, GoodLength          of T, of a file's length
--   GoodDirectory                  of a file
use Rattle.std.specs.Prelude.{ℕ, ◌+◌, ◌/◌, ◌%◌, ◌<◌, ◌≤◌, true, List, ◌≡◌, get_or, length}
use Rattle.geometry.specs.Axes.{KnownAxes}
use Rattle.geometry.specs.Box.{valid_box}
use Rattle.blocks.specs.Block.{block_at, position_in, entries_in, header_in, kind_due}
use Rattle.blocks.specs.Checksum.{check_agrees}
use Rattle.blocks.specs.Directory.{directory_blocks, entries_due, entry_box, entry_count, entry_muted}
use Rattle.blocks.specs.Directory.{directory_padding}
use Rattle.blocks.specs.Layout.{block_size, max_length, sync_byte, directory_kind, max_sites, max_tiles}
use Rattle.blocks.specs.declared.header.Header.{Header}

-- what the two kinds of block have in common
pub record GoodHead (kind : ℕ) (s : List ℕ) (p : ℕ) : Type 0 where
  pub sync : get_or s 0 0 ≡ sync_byte
  pub check : check_agrees s ≡ true
  pub due : kind_due kind s ≡ true
  pub position : position_in s ≡ p

-- T of a file with this many blocks
pub record GoodTiles (h : Header) (blocks : ℕ) : Type 0 where
  pub least : 1 ≤ h.tiles
  pub most : h.tiles ≤ max_tiles
  pub sum : directory_blocks h + h.tiles ≡ blocks

-- the directory block at position p, with the header h
pub record GoodDirectoryBlock (s : List ℕ) (p : ℕ) (h : Header) : Type 0 where
  pub head : GoodHead (directory_kind h.axes) s p
  pub header : header_in s ≡ h
  pub entries : entries_in s ≡ entries_due h p
  pub padding : directory_padding h.axes s (entries_due h p) ≡ true
  pub boxes : (i : ℕ) → i < entries_due h p → valid_box (entry_box h.axes s i) ≡ true
  pub counts : (i : ℕ) → i < entries_due h p → entry_count h.axes s i ≤ max_sites h.axes
  pub muted : (i : ℕ) → i < entries_due h p → entry_muted h.axes s i ≤ entry_count h.axes s i

-- the length of a file of a axes
pub record GoodLength (a n : ℕ) : Type 0 where
  pub least : 1 ≤ n
  pub whole : n % block_size ≡ 0
  pub most : n ≤ max_length a

-- the directory of a file, with the header h
pub record GoodDirectory (f : List ℕ) (h : Header) : Type 0 where
  pub axes : KnownAxes h.axes
  pub size : GoodLength h.axes (length f)
  pub tiles : GoodTiles h (length f / block_size)
  pub blocks : (p : ℕ) → p < directory_blocks h → GoodDirectoryBlock (block_at f p) p h
