-- The tiles by place, as the code lists them.
--
--   tile_room, tile_at   room for a tile's number in a key; the tile at a place
--   SameElements         two lists with the same numbers among the first n
--   Listed               every tile stands at some place
--   Least, NoneFrom      the least far from a place on, and a place from which on none is below near
use Rattle.std.specs.Prelude.{ℕ, ◌%◌, ◌<◌, ◌≤◌, List, ◌≡◌, get_or, length}

abbrev pub tile_room : ℕ
tile_room = 1024

abbrev pub tile_at : List ℕ → ℕ → ℕ
tile_at keys i = get_or keys i 0 % tile_room

-- none of the first n is lost, none is new
pub record SameElements (n : ℕ) (was is : List ℕ) : Type 0 where
  pub long : length is ≡ length was
  pub kept : (i : ℕ) → i < n → (j : ℕ) × (j < n) × (get_or is j 0 ≡ get_or was i 0)
  pub old : (j : ℕ) → j < n → (i : ℕ) × (i < n) × (get_or is j 0 ≡ get_or was i 0)

-- at the first n places tiles below n, each of them at some place
pub record Listed (n : ℕ) (keys : List ℕ) : Type 0 where
  pub below : (i : ℕ) → i < n → tile_at keys i < n
  pub every : (t : ℕ) → t < n → (i : ℕ) × (i < n) × (tile_at keys i ≡ t)

-- none of the first n from a place on is less than what the table has there
abbrev pub Least : List ℕ → ℕ → List ℕ → Type 0
Least far n least = (i j : ℕ) → i ≤ j → j < n → get_or least i 0 ≤ get_or far j 0

pub record NoneFrom (least : List ℕ) (n near i : ℕ) : Type 0 where
  pub within : i ≤ n
  pub none : i < n → near ≤ get_or least i 0
