-- What the calls of the seam ask and give.
--
--   TileOf                   a tile of a file
--   stop_of, region_of       the point, the box that a stop, a region of the code stands for
--   ValidStop, ValidRegion   within the limits, with the axes of a town
--   corner_of, corner_count  the corners of a region
--   far                      far distance of a tile
--   Opens, site_place        a tile that opens; the place of a site
--   Sited, BlockOf           a block with sites, the block of a tile
use Rattle.std.specs.Prelude.{ℕ, ◌<◌, ◌≤◌, true, List, ◌≡◌, ℤ, length, take}
use Rattle.base.specs.Refusal.{accepted}
use Rattle.base.specs.Tabulate.{tabulate}
use Rattle.blocks.specs.Block.{block_at}
use Rattle.blocks.specs.Directory.{directory, box_at}
use Rattle.blocks.specs.Layout.{block_size, max_sites}
use Rattle.blocks.specs.declared.header.Header.{Header}
use Rattle.geometry.specs.Axes.{KnownAxes}
use Rattle.geometry.specs.Box.{valid_box, valid_point}
use Rattle.geometry.specs.Corners.{corner, corners}
use Rattle.geometry.specs.Distance.{D, max_dist}
use Rattle.search.specs.declared.Place.{Place}
use Rattle.tiles.specs.Tile.{tile_position}
pub use Rattle.tiles.specs.Tile.{site_in}
use Rattle.plan.specs.FilePlan.{opening_of, town_of, Site}

-- a tile of a file whose directory is accepted
pub record TileOf (f : List ℕ) (h : Header) (t : ℕ) : Type 0 where
  pub dir : directory f ≡ accepted h
  pub below : t < h.tiles

-- a stop and a region of the code have room for three axes: those of the town count
abbrev pub stop_of : Header → List ℤ → List ℤ
stop_of h p = take h.axes p

abbrev pub region_of : Header → List (List ℤ) → List (List ℤ)
region_of h o = take h.axes o

-- a point and a box within the limits
pub record ValidStop (h : Header) (p : List ℤ) : Type 0 where
  pub valid : valid_point p ≡ true
  pub axes : length p ≡ h.axes

pub record ValidRegion (h : Header) (o : List (List ℤ)) : Type 0 where
  pub valid : valid_box o ≡ true
  pub axes : length o ≡ h.axes

-- corner c of a region, for c below their number
abbrev pub corner_of : List (List ℤ) → ℕ → List ℤ
corner_of o c = corner o c

abbrev pub corner_count : Header → ℕ
corner_count h = corners h.axes

-- far distance of a tile from a stop
unfoldable pub far : List ℕ → Header → List ℤ → ℕ → ℕ
far f h p t = max_dist (box_at f h t) p

-- a tile that opens
abbrev pub Opens : List ℕ → Header → ℕ → Type 0
Opens f h t = opening_of f h t ≡ accepted (town_of f h t)

-- the place of a site under a number
abbrev pub site_place : List ℤ → ℕ → Site → Place
site_place p a s = record { dist = D p s.point; site = a; cue = s.cue }

-- a block with n sites at valid points
pub record Sited (h : Header) (s : List ℕ) (n : ℕ) : Type 0 where
  pub axes : KnownAxes h.axes
  pub whole : length s ≡ block_size
  pub few : n ≤ max_sites h.axes
  pub valid : (slot : ℕ) → slot < n → valid_point (site_in h.axes s slot).point ≡ true

-- the block of a tile that opens, with n sites: those of the file's own town
pub record BlockOf (f : List ℕ) (h : Header) (t : ℕ) (s : List ℕ) (n : ℕ) : Type 0 where
  pub is : s ≡ block_at f (tile_position h t)
  pub sited : Sited h s n
  pub own : tabulate (site_in h.axes s) 0 n ≡ town_of f h t
