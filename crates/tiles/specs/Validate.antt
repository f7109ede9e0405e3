-- The full check (document 01, "Writer, full check, host, program").
use Rattle.std.specs.Prelude.{ℕ, List}
use Rattle.base.specs.Refusal.{Outcome, accepted, and_then, in_turn}
use Rattle.blocks.specs.Directory.{directory}
use Rattle.blocks.specs.declared.header.Header.{Header}
use Rattle.tiles.specs.Tile.{open_tile}

-- "opens all tiles in order, empty ones too, and gives T or the first refusal": those with muted sites only as well
unfoldable pub open_all : List ℕ → Header → Outcome Header
open_all f h = and_then (in_turn (open_tile f h) 0 h.tiles) (λ _. accepted h)

-- "tests 1 and the directory as the join does, then .."
unfoldable pub validate : List ℕ → Outcome Header
validate f = and_then (directory f) (open_all f)
