-- Points by columns, one list of coordinates for each axis, and the smallest box around them (document 01, "The join":
-- "O is the smallest box around the stops").
--
--   equal_columns               every column has n coordinates
--   row, rows, points           the point at an index, n from an index on, the first n
--   foremost, least, greatest   of a list of coordinates
--   around                      the box from the least to the greatest coordinate on each axis
--   SmallestAround              what the theorem says of it
use Rattle.std.specs.Prelude.{ℕ, zero, suc, Bool, true, cond, ◌&&◌, List, [], ◌∷◌, ◌≡◌, eqb, ℤ, pos, get_or, length}
use Rattle.std.specs.Int.Signed.{lt_z}
use Rattle.base.specs.Lists.{All}
use Rattle.geometry.specs.Box.{valid_box, inside}

unfoldable pub equal_columns : ℕ → List (List ℤ) → Bool
equal_columns n [] = true
equal_columns n (c ∷ cols) = eqb (length c) n && equal_columns n cols

unfoldable pub row : List (List ℤ) → ℕ → List ℤ
row [] i = []
row (c ∷ cols) i = get_or c i (pos 0) ∷ row cols i

-- n points from index i on
unfoldable pub rows : List (List ℤ) → ℕ → ℕ → List (List ℤ)
rows cols i zero = []
rows cols i (suc n) = row cols i ∷ rows cols (suc i) n

unfoldable pub points : List (List ℤ) → ℕ → List (List ℤ)
points cols n = rows cols 0 n

-- of a and of a list the one that is ahead of the others
unfoldable pub foremost : (ℤ → ℤ → Bool) → ℤ → List ℤ → ℤ
foremost lt a [] = a
foremost lt a (x ∷ l) = foremost lt (cond (lt x a) x a) l

-- the least and the greatest of a list, which has an element
unfoldable pub least : List ℤ → ℤ
least [] = pos 0
least (x ∷ l) = foremost lt_z x l

unfoldable pub greatest : List ℤ → ℤ
greatest [] = pos 0
greatest (x ∷ l) = foremost (λ a b. lt_z b a) x l

unfoldable pub around : List (List ℤ) → List (List ℤ)
around [] = []
around (c ∷ cols) = (least c ∷ greatest c ∷ []) ∷ around cols

-- o is "the smallest box around" points of n axes: a valid box that holds them, and lies in every other box that does
pub record SmallestAround (n : ℕ) (ps : List (List ℤ)) (o : List (List ℤ)) : Type 0 where
  pub axes : length o ≡ n
  pub valid : valid_box o ≡ true
  pub holds : All (λ p. inside o p ≡ true) ps
  pub smallest : (b : List (List ℤ)) → length b ≡ n → All (λ p. inside b p ≡ true) ps
      → (q : List ℤ) → inside o q ≡ true → inside b q ≡ true
