-- Without 02.2: openings and the full check as document 01 and 02.1 have them, by their own numbers.
--
--   site_on_plan, site_inside_on_plan             the site of a slot of a block, and test 10 of it
--   tile_block_on_plan, open_tile_on_plan         all tests of a tile block: of its bytes, of a file
--   sites_on_plan                                 the sites of a tile
--   open_all_on_plan, validate_on_plan            the full check
use Rattle.std.specs.Prelude.{ℕ, ◌+◌, ◌*◌, Bool, ◌&&◌, List, [], ◌∷◌, eqb, ℤ}
use Rattle.base.specs.Every.{every}
use Rattle.base.specs.HowMany.{how_many}
use Rattle.base.specs.Refusal.{Outcome, accepted, require, and_then, #position, #entries, #padding, #stray, #muted}
use Rattle.base.specs.Refusal.{in_turn}
use Rattle.base.specs.Tabulate.{tabulate}
use Rattle.blocks.specs.Block.{block_at, position_in, entries_in, block_start}
use Rattle.blocks.specs.WithoutHeight.{directory_blocks_on_plan, directory_on_plan, box_on_plan, count_on_plan, muted_on_plan}
use Rattle.blocks.specs.declared.header.Header.{Header}
use Rattle.codec.specs.Number.{u32_at, i32_at}
use Rattle.codec.specs.Zeros.{zeros}
use Rattle.geometry.specs.Box.{inside}
use Rattle.tiles.specs.Tile.{Site}

-- "A site has 12 bytes: x, y (signed), cue"
unfoldable pub site_on_plan : List ℕ → ℕ → Site
site_on_plan s slot = record {
  point = i32_at s (16 + 12 * slot + 0) ∷ i32_at s (16 + 12 * slot + 4) ∷ [];
  cue = u32_at s (16 + 12 * slot + 8);
}

-- 10: "a site outside its box"
unfoldable pub site_inside_on_plan : List (List ℤ) → List ℕ → ℕ → Bool
site_inside_on_plan bounds s slot = inside bounds (site_on_plan s slot).point

-- "openings, each 2, 3, 4, 5, 7, 8, 10"; 02.1: 16 "tested after 10"
unfoldable pub tile_block_on_plan : List ℕ → ℕ → List (List ℤ) → ℕ → ℕ → Outcome ℕ
tile_block_on_plan s p bounds count muted =
    and_then (block_start 2 s p) (λ _.
    require (eqb (position_in s) p) #position p
    (require (eqb (entries_in s) count) #entries p
    (require (zeros s 6 16 && zeros s (16 + 12 * count) 510) #padding p
    (require (every (site_inside_on_plan bounds s) count) #stray p
    (require (eqb (how_many (λ slot. eqb (site_on_plan s slot).cue 0) count) muted) #muted p
    (accepted count))))))

-- "tile t at position d + t", of a file with this many tiles
unfoldable pub open_tile_on_plan : List ℕ → ℕ → ℕ → Outcome ℕ
open_tile_on_plan f tiles t =
    let p = directory_blocks_on_plan tiles + t in
    tile_block_on_plan (block_at f p) p (box_on_plan f t) (count_on_plan f t) (muted_on_plan f t)

unfoldable pub sites_on_plan : List ℕ → ℕ → ℕ → List Site
sites_on_plan f tiles t = tabulate (site_on_plan (block_at f (directory_blocks_on_plan tiles + t))) 0 (count_on_plan f t)

-- "opens all tiles in order, empty ones too"
unfoldable pub open_all_on_plan : List ℕ → Header → Outcome Header
open_all_on_plan f h = and_then (in_turn (open_tile_on_plan f h.tiles) 0 h.tiles) (λ _. accepted h)

-- "tests 1 and the directory as the join does, then .."
unfoldable pub validate_on_plan : List ℕ → Outcome Header
validate_on_plan f = and_then (directory_on_plan f) (open_all_on_plan f)
