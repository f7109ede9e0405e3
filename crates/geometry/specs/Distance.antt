-- Squared distance, and the least and the largest of it to a box (document 01, "Three boxes").
--
--   gap, square                two coordinates apart, and its square
--   D                          of two points
--   closest, closest_point     where an axis, a box is closest
--   farthest, farthest_point   where it is farthest
--   min_dist, max_dist         near and far
use Rattle.std.specs.Prelude.{ℕ, ◌+◌, ◌*◌, cond, List, [], ◌∷◌, ltb, ℤ, ◌-ℤ◌, nat_abs}
use Rattle.std.specs.Int.Signed.{lt_z}
use Rattle.geometry.specs.Box.{lo, hi}

-- how far two coordinates are apart, and its square
unfoldable pub gap : ℤ → ℤ → ℕ
gap x y = nat_abs (x -ℤ y)

unfoldable pub square : ℤ → ℤ → ℕ
square x y = gap x y * gap x y

-- D(p,q), "the squared Euclidean distance"
unfoldable pub D : List ℤ → List ℤ → ℕ
D [] q = 0
D (x ∷ p) [] = 0
D (x ∷ p) (y ∷ q) = square x y + D p q

-- the point of an axis closest to x; the end farther from x, "the low end if equal"
unfoldable pub closest : List ℤ → ℤ → ℤ
closest s x = cond (lt_z x (lo s)) (lo s) (cond (lt_z (hi s) x) (hi s) x)

unfoldable pub farthest : List ℤ → ℤ → ℤ
farthest s x = cond (ltb (gap x (lo s)) (gap x (hi s))) (hi s) (lo s)

-- the same on every axis
unfoldable pub closest_point : List (List ℤ) → List ℤ → List ℤ
closest_point [] p = []
closest_point (s ∷ b) [] = []
closest_point (s ∷ b) (x ∷ p) = closest s x ∷ closest_point b p

unfoldable pub farthest_point : List (List ℤ) → List ℤ → List ℤ
farthest_point [] p = []
farthest_point (s ∷ b) [] = []
farthest_point (s ∷ b) (x ∷ p) = farthest s x ∷ farthest_point b p

-- near and far of the paper
unfoldable pub min_dist : List (List ℤ) → List ℤ → ℕ
min_dist b p = D p (closest_point b p)

unfoldable pub max_dist : List (List ℤ) → List ℤ → ℕ
max_dist b p = D p (farthest_point b p)
