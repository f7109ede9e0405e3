-- What acceptance of a tile and of a file shows of the bytes. The theorems say that it shows exactly this.
use Rattle.std.specs.Prelude.{ℕ, ◌<◌, true, List, ◌≡◌, ℤ}
use Rattle.blocks.specs.Accepted.{GoodHead, GoodDirectory}
use Rattle.blocks.specs.Block.{block_at, entries_in}
use Rattle.blocks.specs.Directory.{box_at, count_at, muted_at}
use Rattle.blocks.specs.Layout.{tile_kind}
use Rattle.blocks.specs.declared.header.Header.{Header}
use Rattle.geometry.specs.Box as geometry
use Rattle.tiles.specs.Tile.{site_in, muted_in, tile_padding, tile_position}

-- the tile block at position p, of a axes, whose entry has this box, this count and this muted number
pub record GoodTileBlock (a : ℕ) (s : List ℕ) (p : ℕ) (bounds : List (List ℤ)) (count muted : ℕ) : Type 0 where
  pub head : GoodHead (tile_kind a) s p
  pub entries : entries_in s ≡ count
  pub padding : tile_padding a s count ≡ true
  pub inside : (slot : ℕ) → slot < count → geometry.inside bounds (site_in a s slot).point ≡ true
  pub muted_counted : muted_in a s count ≡ muted

-- tile t of a file with the header h
abbrev pub GoodTile : List ℕ → Header → ℕ → Type 0
GoodTile f h t = GoodTileBlock h.axes (block_at f (tile_position h t)) (tile_position h t) (box_at f h t)
    (count_at f h t) (muted_at f h t)

-- a file with the header h
pub record GoodFile (f : List ℕ) (h : Header) : Type 0 where
  pub directory : GoodDirectory f h
  pub opened : (t : ℕ) → t < h.tiles → GoodTile f h t
