-- Without 02.1: the openings, and the full check.
--
--   tile_block01, open_tile01   all tests of a tile block: of its bytes, of a file
--   open_all01, validate01      the full check
--   NoneMuted                   a tile that has no muted site, where document 01 opens it
use Rattle.std.specs.Prelude.{ℕ, ◌<◌, false, List, ◌≡◌, eqb, ℤ}
use Rattle.base.specs.Every.{every}
use Rattle.base.specs.Refusal.{Outcome, accepted, require, and_then, #position, #entries, #padding, #stray, in_turn}
use Rattle.blocks.specs.Block.{block_at, position_in, entries_in, block_start}
use Rattle.blocks.specs.Directory.{box_at, count_at}
use Rattle.blocks.specs.Document01.{directory01}
use Rattle.blocks.specs.Layout.{tile_kind}
use Rattle.blocks.specs.declared.header.Header.{Header}
use Rattle.tiles.specs.Tile.{muted_cue, tile_padding, site_inside, tile_position, site_at}

-- "openings, each 2, 3, 4, 5, 7, 8, 10"
unfoldable pub tile_block01 : ℕ → List ℕ → ℕ → List (List ℤ) → ℕ → Outcome ℕ
tile_block01 a s p bounds count =
    and_then (block_start (tile_kind a) s p) (λ _.
    require (eqb (position_in s) p) #position p
    (require (eqb (entries_in s) count) #entries p
    (require (tile_padding a s count) #padding p
    (require (every (site_inside a bounds s) count) #stray p
    (accepted count)))))

unfoldable pub open_tile01 : List ℕ → Header → ℕ → Outcome ℕ
open_tile01 f h t =
    tile_block01 h.axes (block_at f (tile_position h t)) (tile_position h t) (box_at f h t) (count_at f h t)

unfoldable pub open_all01 : List ℕ → Header → Outcome Header
open_all01 f h = and_then (in_turn (open_tile01 f h) 0 h.tiles) (λ _. accepted h)

unfoldable pub validate01 : List ℕ → Outcome Header
validate01 f = and_then (directory01 f) (open_all01 f)

-- a tile that opens without 02.1 has no muted site; one that is refused may hold anything
abbrev pub NoneMuted : List ℕ → Header → ℕ → Type 0
NoneMuted f h t = (n slot : ℕ) → open_tile01 f h t ≡ accepted n → slot < count_at f h t →
    muted_cue (site_at f h t slot).cue ≡ false
