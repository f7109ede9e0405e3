-- Without 02.1: what an opening gives.
use Rattle.std.specs.Prelude.{ℕ, List}
use Rattle.base.specs.Refusal.{Outcome, accepted, and_then}
use Rattle.blocks.specs.declared.header.Header.{Header}
use Rattle.tiles.specs.Document01.{open_tile01}
use Rattle.tiles.specs.Tile.{Site, sites_at}

unfoldable pub opening_of01 : List ℕ → Header → ℕ → Outcome (List Site)
opening_of01 f h t = and_then (open_tile01 f h t) (λ _. accepted (sites_at f h t))
