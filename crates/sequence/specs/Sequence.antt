-- 02.5: the sequence, of tiles by number and any relation between them. `closer a b`: tile a is nearer than tile b.
--
--   without, lowest_of   a list without a number, and its lowest number
--   free                 none of the tiles left is nearer than this one
--   next                 the tile that comes next
--   steps, sequence      those that come next, one after the other; of all tiles
use Rattle.std.specs.Prelude.{ℕ, zero, suc, min, Bool, not, List, [], ◌∷◌, eqb}
use Rattle.search.specs.Lists.{range, count, filter}

-- the numbers other than t
unfoldable pub without : ℕ → List ℕ → List ℕ
without t l = filter (λ u. not (eqb u t)) l

-- 0 of an empty list, which the sequence never asks for: "a next tile always exists"
unfoldable pub lowest_of : List ℕ → ℕ
lowest_of [] = 0
lowest_of (x ∷ []) = x
lowest_of (x ∷ y ∷ l) = min x (lowest_of (y ∷ l))

module _ (closer : ℕ → ℕ → Bool) where
  -- "each tile comes after every tile nearer than it": b is "free to come next" when of the tiles left none is nearer
  unfoldable pub free : List ℕ → ℕ → Bool
  free left b = eqb (count (λ a. closer a b) left) 0

  -- "of those free to come next, the lowest number comes first"
  unfoldable pub next : List ℕ → ℕ
  next left = lowest_of (filter (free left) left)

  -- "Each tile is listed once": what came is left no more
  unfoldable pub steps : ℕ → List ℕ → List ℕ
  steps zero left = []
  steps (suc n) left = next left ∷ steps n (without (next left) left)

  -- "all tiles in a sequence": those below T
  unfoldable pub sequence : ℕ → List ℕ
  sequence T = steps T (range 0 T)
