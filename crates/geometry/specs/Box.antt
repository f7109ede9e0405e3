-- Coordinates, boxes and points (document 01, head of the paper). Every number is a whole number of centimetres. A box
-- is the list of its axes, each the list of its low and its high end; a point is the list of its coordinates.
-- Everything holds for any number of axes.
--
--   lowest, highest              the limits of coordinates
--   lo, hi                       the ends of an axis
--   within_limits, valid_point   a coordinate, a point to be accepted
--   valid_axis, valid_box        an axis, a box to be accepted
--   ValidBoxes                   three boxes accepted
--   on_axis, inside              a coordinate on an axis, a point in a box
use Rattle.std.specs.Prelude.{Bool, true, false, ◌&&◌, List, [], ◌∷◌, ◌≡◌, ℤ, pos, negsuc, get_or}
use Rattle.std.specs.Int.Signed.{le_z}

-- "from -1,000,000 to 1,000,000"
abbrev pub lowest : ℤ
lowest = negsuc 999999

abbrev pub highest : ℤ
highest = pos 1000000

-- the low and the high end of an axis
abbrev pub lo : List ℤ → ℤ
lo s = get_or s 0 (pos 0)

abbrev pub hi : List ℤ → ℤ
hi s = get_or s 1 (pos 0)

unfoldable pub within_limits : ℤ → Bool
within_limits x = le_z lowest x && le_z x highest

-- "low at most high"
unfoldable pub valid_axis : List ℤ → Bool
valid_axis s = (within_limits (lo s) && within_limits (hi s)) && le_z (lo s) (hi s)

unfoldable pub valid_box : List (List ℤ) → Bool
valid_box [] = true
valid_box (s ∷ b) = valid_axis s && valid_box b

abbrev pub ValidBoxes : List (List ℤ) → List (List ℤ) → List (List ℤ) → Type 0
ValidBoxes o e b = (valid_box o ≡ true) × ((valid_box e ≡ true) × (valid_box b ≡ true))

unfoldable pub valid_point : List ℤ → Bool
valid_point [] = true
valid_point (x ∷ p) = within_limits x && valid_point p

-- "ends included"
unfoldable pub on_axis : List ℤ → ℤ → Bool
on_axis s x = le_z (lo s) x && le_z x (hi s)

-- a point of a box
unfoldable pub inside : List (List ℤ) → List ℤ → Bool
inside [] [] = true
inside [] (x ∷ p) = false
inside (s ∷ b) [] = false
inside (s ∷ b) (x ∷ p) = on_axis s x && inside b p
