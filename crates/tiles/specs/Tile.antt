-- The opening of a tile, and its sites (document 01, "Blocks" and "Numbers given to bad input"; 02.1, 02.2). A block is
-- read for a number of axes a.
--
--   Site                              a site: its point, by coordinates, and its cue
--   site_offset, site_in              a slot of a block: where it starts, its site
--   muted_cue, muted_in               whether a cue mutes; how many sites of a block are muted
--   tile_padding, site_inside         tests 8 and 10
--   tile_block, open_tile             all tests of a tile block: of its bytes, of a file
--   tile_position                     the position of a tile's block
--   site_at, sites_at                 the sites of a tile: by slot, all
use Rattle.std.specs.Prelude.{ℕ, ◌+◌, ◌*◌, Bool, ◌&&◌, List, eqb, ℤ}
use Rattle.base.specs.Refusal.{Outcome, accepted, require, and_then, #position, #entries, #padding, #stray, #muted}
use Rattle.base.specs.Tabulate.{tabulate}
use Rattle.blocks.specs.Block.{block_at, position_in, entries_in, block_start}
use Rattle.blocks.specs.Directory.{directory_blocks, box_at, count_at, muted_at}
use Rattle.blocks.specs.Layout.{tile_kind, tiles_at, payload_at, check_at, number_offset, site_size, cue_offset}
use Rattle.blocks.specs.declared.header.Header.{Header}
use Rattle.base.specs.Every.{every}
use Rattle.base.specs.HowMany.{how_many}
use Rattle.codec.specs.Zeros.{zeros}
use Rattle.codec.specs.Number.{u32_at, i32_at}
use Rattle.geometry.specs.Box.{inside}

-- "A site is x, y and a cue"; 02.2: "with z after y"
pub record Site : Type 0 where
  pub point : List ℤ
  pub cue : ℕ

-- where the site of a slot stands in a block
unfoldable pub site_offset : ℕ → ℕ → ℕ
site_offset a slot = payload_at + site_size a * slot

-- "A site has 12 bytes: x, y (signed), cue"; 02.2: "sites of 16 bytes with z after y"
unfoldable pub site_in : ℕ → List ℕ → ℕ → Site
site_in a s slot = record {
  point = tabulate (λ axis. i32_at s (site_offset a slot + number_offset axis)) 0 a;
  cue = u32_at s (site_offset a slot + cue_offset a);
}

-- 02.1: "Town builders mute a site by giving it cue 0"
abbrev pub muted_cue : ℕ → Bool
muted_cue cue = eqb cue 0

-- of the first n sites of a block
unfoldable pub muted_in : ℕ → List ℕ → ℕ → ℕ
muted_in a s n = how_many (λ slot. muted_cue (site_in a s slot).cue) n

-- 8: "a byte due to be zero is not"; with n sites these are bytes 6-15, since T is "zero in a tile", and what lies
-- between the last site and the check: "All else zero, unused payload too"
unfoldable pub tile_padding : ℕ → List ℕ → ℕ → Bool
tile_padding a s n = zeros s tiles_at payload_at && zeros s (site_offset a n) check_at

-- 10: "a site outside its box"
unfoldable pub site_inside : ℕ → List (List ℤ) → List ℕ → ℕ → Bool
site_inside a bounds s slot = inside bounds (site_in a s slot).point

-- "openings, each 2, 3, 4, 5, 7, 8, 10"; 02.1: "16 when an opened tile's muted sites differ in number from the
-- directory, tested after 10"; 02.2: "another kind later is 4". Of the block with bytes s at position p, by box, count
-- and muted number of its entry; gives the number of its sites
unfoldable pub tile_block : ℕ → List ℕ → ℕ → List (List ℤ) → ℕ → ℕ → Outcome ℕ
tile_block a s p bounds count muted =
    and_then (block_start (tile_kind a) s p) (λ _.
    require (eqb (position_in s) p) #position p
    (require (eqb (entries_in s) count) #entries p
    (require (tile_padding a s count) #padding p
    (require (every (site_inside a bounds s) count) #stray p
    (require (eqb (muted_in a s count) muted) #muted p
    (accepted count))))))

-- "tile t at position d + t"
unfoldable pub tile_position : Header → ℕ → ℕ
tile_position h t = directory_blocks h + t

-- the opening of tile t of a file
unfoldable pub open_tile : List ℕ → Header → ℕ → Outcome ℕ
open_tile f h t =
    tile_block h.axes (block_at f (tile_position h t)) (tile_position h t) (box_at f h t) (count_at f h t) (muted_at f h t)

-- the site of a tile's slot, and all sites of a tile by slot
unfoldable pub site_at : List ℕ → Header → ℕ → ℕ → Site
site_at f h t slot = site_in h.axes (block_at f (tile_position h t)) slot

unfoldable pub sites_at : List ℕ → Header → ℕ → List Site
sites_at f h t = tabulate (site_at f h t) 0 (count_at f h t)
