-- The corners of a box, by number.
use Rattle.std.specs.Prelude.{ℕ, ◌/◌, ◌%◌, ◌^◌, cond, List, [], ◌∷◌, eqb, ℤ}
use Rattle.geometry.specs.Box.{lo, hi}

-- the end of an axis that the lowest bit of c chooses: 0 the low end, 1 the high end
unfoldable pub end_at : List ℤ → ℕ → ℤ
end_at s c = cond (eqb (c % 2) 0) (lo s) (hi s)

-- corner c: bit i of c chooses the end on axis i
unfoldable pub corner : List (List ℤ) → ℕ → List ℤ
corner [] c = []
corner (s ∷ o) c = end_at s c ∷ corner o (c / 2)

-- how many corners a box of n axes has
abbrev pub corners : ℕ → ℕ
corners n = 2 ^ n
