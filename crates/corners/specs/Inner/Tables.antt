-- The tables of distances from the corners of a region that the code keeps. Far of tiles stands in a table with a part
-- for each corner: at place i of part c, at c * max_tiles + i.
--
--   max_corners              of a region, with height
--   far_size                 elements of the table of far
--   FarRow                   far of a tile is in at a place, from each corner
--   FarTable                 far of the first tiles of a list of tiles is in, from each corner
--   NearTable                near of a tile, from each corner
--   below_all                at a place far is below near, from each corner
--   FirstBelow, LastBelow    the first place, the last place where far is below near, from one corner
use Rattle.std.specs.Prelude.{ℕ, ◌+◌, ◌-◌, ◌*◌, ◌<◌, ◌≤◌, Bool, List, ◌≢◌, ◌≡◌, ltb, ℤ, get_or, length}
use Rattle.base.specs.Every.{every}
use Rattle.blocks.specs.Layout.{max_tiles}
use Rattle.blocks.specs.declared.header.Header.{Header}
use Rattle.plan.specs.FilePlan.{entries}
use Rattle.plan.specs.Inner.Seam.{corner_of, corner_count, far}
use Rattle.search.specs.Plan.{near}

abbrev pub max_corners : ℕ
max_corners = 8

-- room for the corners of a region
abbrev pub far_size : Header → ℕ
far_size h = corner_count h * max_tiles

-- what was there, and now far of tile t at place i; the other places of all parts are as they were
pub record FarRow (f : List ℕ) (h : Header) (o : List (List ℤ)) (t i : ℕ) (was table : List ℕ) : Type 0 where
  pub long : length table ≡ length was
  pub at : (c : ℕ) → c < corner_count h → get_or table (c * max_tiles + i) 0 ≡ far f h (corner_of o c) t
  pub other : (c j : ℕ) → j < max_tiles → j ≢ i → get_or table (c * max_tiles + j) 0 ≡ get_or was (c * max_tiles + j) 0

-- at each of the first n places far of the tile that stands there
pub record FarTable (f : List ℕ) (h : Header) (o : List (List ℤ)) (tile : ℕ → ℕ) (n : ℕ) (table : List ℕ) : Type 0 where
  pub long : length table ≡ far_size h
  pub at : (c i : ℕ) → c < corner_count h → i < n → get_or table (c * max_tiles + i) 0 ≡ far f h (corner_of o c) (tile i)

abbrev pub NearTable : List ℕ → Header → List (List ℤ) → ℕ → List ℕ → Type 0
NearTable f h o t nears = (c : ℕ) → c < corner_count h → get_or nears c 0 ≡ near (entries f h) (corner_of o c) t

unfoldable pub below_all : Header → List ℕ → List ℕ → ℕ → Bool
below_all h table near i = every (λ c. ltb (get_or table (c * max_tiles + i) 0) (get_or near c 0)) (corner_count h)

-- from one place on the first before `to` where far is below near, in the part that stands first; `to` if there is none
pub record FirstBelow (table : List ℕ) (near from to i : ℕ) : Type 0 where
  pub after : from ≤ i
  pub within : i ≤ to
  pub none : (j : ℕ) → from ≤ j → j < i → near ≤ get_or table j 0
  pub below : i < to → get_or table i 0 < near

-- of the places from `low` to before `to` the last where far is below near, and one more, in the part from `part` on;
-- not above `low` if there is none
pub record LastBelow (table : List ℕ) (part near low to i : ℕ) : Type 0 where
  pub within : i ≤ to
  pub none : (j : ℕ) → i ≤ j → j < to → near ≤ get_or table (part + j) 0
  pub below : low < i → get_or table (part + (i - 1)) 0 < near
