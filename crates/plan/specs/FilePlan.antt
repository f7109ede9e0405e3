-- A file whose directory is accepted, as the search sees it.
--
--   cue_ranks     whether a site with this cue ranks
--   space         the geometry of documents 01 and 02
--   entries       the directory's boxes, counts and muted numbers
--   opening_of    what opening a tile gives
--   town_of       the file's own town
use Rattle.std.specs.Prelude.{ℕ, ◌<◌, Bool, true, not, List, ◌≡◌, ℤ}
use Rattle.base.specs.Refusal.{Outcome, accepted, and_then}
use Rattle.blocks.specs.Directory.{box_at, count_at, muted_at}
use Rattle.blocks.specs.declared.header.Header.{Header}
use Rattle.codec.specs.Number.{limit32}
use Rattle.geometry.specs.Box.{inside}
use Rattle.geometry.specs.Distance.{D, min_dist}
use Rattle.geometry.specs.Margin.{closer}
use Rattle.search.specs.Plan.{Geometry, Directory}
use Rattle.tiles.specs.Tile.{muted_cue, open_tile, sites_at}
pub use Rattle.tiles.specs.Tile.{Site}

-- 02.1: "Town builders mute a site by giving it cue 0 .. only sites with another cue rank"
abbrev pub cue_ranks : ℕ → Bool
cue_ranks cue = not (muted_cue cue)

-- points by their coordinates, over any number of axes; "a cue (unsigned 32 bits, any number)"
abbrev pub space : Geometry
space = record {
  Site = Site;
  Stop = List ℤ;
  Box = List (List ℤ);
  cue = λ s. s.cue;
  ranks = λ s. cue_ranks s.cue;
  Inside = λ b s. (inside b s.point ≡ true) × (s.cue < limit32);
  Within = λ b p. inside b p ≡ true;
  D = λ p s. D p s.point;
  min_dist = λ p b. min_dist b p;
  closer = closer;
}

-- the boxes, counts and muted numbers of the directory
abbrev pub entries : List ℕ → Header → Directory space
entries f h = record { tiles = h.tiles; box = box_at f h; size = count_at f h; muted = muted_at f h }

-- "opened, which checks its block": its sites by slot, or the refusal
unfoldable pub opening_of : List ℕ → Header → ℕ → Outcome (List Site)
opening_of f h t = and_then (open_tile f h t) (λ _. accepted (sites_at f h t))

-- what the tiles of the file hold, opened or not
abbrev pub town_of : List ℕ → Header → ℕ → List Site
town_of f h t = sites_at f h t
