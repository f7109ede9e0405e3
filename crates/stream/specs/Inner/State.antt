-- What the code keeps of each tile while it takes one after the other: the tile that it waits for, which is left and
-- nearer than it; and the place from which on no tile left is nearer than it.
--
--   free_mark, taken_mark    in the place of a tile to wait for: none is left; the tile was taken
--   is_left                  a tile was not taken
--   LastBlocker, waits_for   the last place of a tile to wait for, and that tile
--   Settled                  one tile's numbers, found again
--   TakenBelow               up to a place all tiles were taken
--   Stands, Standing         what the numbers of a tile say; those of all tiles, before one of them again
--   Released                 one tile's numbers found again, and that they say so
--   FirstFree, FirstLeft     the first tile that waits for none, the first place of a tile left
--   Freed                    all that waited for a tile that was taken have found another, or none
use Rattle.std.specs.Prelude.{ℕ, ◌-◌, ◌<◌, ◌≤◌, Bool, true, false, not, cond, ◌&&◌, List, ◌≢◌, ◌≡◌, eqb, ltb, get_or, length, set}
use Rattle.arrange.specs.Inner.Places.{tile_at}

abbrev pub free_mark : ℕ
free_mark = 960

abbrev pub taken_mark : ℕ
taken_mark = 961

abbrev pub is_left : List ℕ → ℕ → Bool
is_left waits t = not (eqb (get_or waits t 0) taken_mark)

-- of the places from `low` to before `to` the last that passes the test, and one more; not above `low` if there is none
pub record LastBlocker (blocks : ℕ → Bool) (low to i : ℕ) : Type 0 where
  pub within : i ≤ to
  pub none : (j : ℕ) → i ≤ j → low ≤ j → j < to → blocks j ≡ false
  pub found : low < i → blocks (i - 1) ≡ true

abbrev pub waits_for : List ℕ → ℕ → ℕ → ℕ
waits_for keys low i = cond (ltb low i) (tile_at keys (i - 1)) free_mark

-- tile b has its numbers by the last blocker; the others theirs as before
pub record Settled (below : ℕ → Bool) (keys : List ℕ) (low to b : ℕ) (waits waits' from from' : List ℕ) : Type 0 where
  pub place : ℕ
  pub last : LastBlocker (λ i. below i && is_left waits (tile_at keys i)) low to place
  pub waits_set : waits' ≡ set waits b (waits_for keys low place)
  pub from_set : from' ≡ set from b place

module _ (closer : ℕ → ℕ → Bool) (n : ℕ) (keys : List ℕ) where
  -- the tiles at the places before one were taken
  abbrev pub TakenBelow : List ℕ → ℕ → Type 0
  TakenBelow waits low = (i : ℕ) → i < low → i < n → is_left waits (tile_at keys i) ≡ false

  -- of tile b, which waits for w, with `from`; whoever waits for `gone` has still to find another
  pub record Stands (left : ℕ → Bool) (gone w from b : ℕ) : Type 0 where
    pub known : n ≤ w → w ≢ free_mark → w ≡ taken_mark
    pub blocked : w < n → w ≢ gone → (left w ≡ true) × (closer w b ≡ true)
    pub free : w ≡ free_mark → (a : ℕ) → a < n → left a ≡ true → closer a b ≡ false
    pub few : from ≤ n
    pub rest : (i : ℕ) → from ≤ i → i < n → left (tile_at keys i) ≡ true → closer (tile_at keys i) b ≡ false

  -- the tiles before m wait for a tile left or for none; others may still wait for `gone`
  pub record Standing (gone m : ℕ) (waits from : List ℕ) : Type 0 where
    pub settled : (b : ℕ) → b < n → b < m → Stands (is_left waits) n (get_or waits b 0) (get_or from b 0) b
    pub others : (b : ℕ) → b < n → m ≤ b → Stands (is_left waits) gone (get_or waits b 0) (get_or from b 0) b

  pub record Released (b : ℕ) (waits waits' from from' : List ℕ) : Type 0 where
    pub w : ℕ
    pub r : ℕ
    pub waits_set : waits' ≡ set waits b w
    pub from_set : from' ≡ set from b r
    pub left : w ≢ taken_mark
    pub stands : Stands (is_left waits) n w r b

-- from one tile on the first before n that waits for none; n if there is none
pub record FirstFree (waits : List ℕ) (at n t : ℕ) : Type 0 where
  pub within : t ≤ n
  pub none : (b : ℕ) → at ≤ b → b < t → get_or waits b 0 ≢ free_mark
  pub found : t < n → get_or waits t 0 ≡ free_mark

-- from place `low` on the first of a tile left; n if there is none
pub record FirstLeft (keys waits : List ℕ) (low n i : ℕ) : Type 0 where
  pub after : low ≤ i
  pub within : i ≤ n
  pub none : (j : ℕ) → low ≤ j → j < i → is_left waits (tile_at keys j) ≡ false

-- the tiles before m wait for a tile left or for none, the same tiles are left, and all tiles before r wait as they did
pub record Freed (closer : ℕ → ℕ → Bool) (n : ℕ) (keys : List ℕ) (gone m : ℕ) (waits waits' from from' : List ℕ) (r : ℕ)
    : Type 0 where
  pub long_waits : length waits' ≡ length waits
  pub long_from : length from' ≡ length from
  pub standing : Standing closer n keys gone m waits' from'
  pub same_left : (a : ℕ) → is_left waits' a ≡ is_left waits a
  pub same_before : (b : ℕ) → b < r → get_or waits' b 0 ≡ get_or waits b 0
