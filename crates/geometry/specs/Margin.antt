-- The margin of three boxes, its three points, and closer (document 01, "Three boxes"; E is "nearer" than B from O
-- there).
--
--   gain                             the difference of squares on one axis
--   best_end, best_point             where in O it is largest: on one axis, on all
--   difference                       of the distances from a point of O
--   Reached, reached_from, reached   margin and points: the record, from a point of O, from the best one
--   margin, closer                   the margin alone, and the test of it
use Rattle.std.specs.Prelude.{Bool, cond, List, [], ◌∷◌, ℤ, pos, ◌-ℤ◌}
use Rattle.std.specs.Int.Signed.{lt_z}
use Rattle.geometry.specs.Box.{lo, hi}
use Rattle.geometry.specs.Distance.{square, D, closest, farthest, closest_point, farthest_point}

-- on one axis, from x: the square to the end of e farther from x, less the square to the point of b closest to x
unfoldable pub gain : List ℤ → List ℤ → ℤ → ℤ
gain e b x = pos (square x (farthest e x)) -ℤ pos (square x (closest b x))

-- "o is the end of O that gives the larger difference, the low end if equal"
unfoldable pub best_end : List ℤ → List ℤ → List ℤ → ℤ
best_end o e b = cond (lt_z (gain e b (lo o)) (gain e b (hi o))) (hi o) (lo o)

unfoldable pub best_point : List (List ℤ) → List (List ℤ) → List (List ℤ) → List ℤ
best_point [] e b = []
best_point (o ∷ os) [] b = []
best_point (o ∷ os) (e ∷ es) [] = []
best_point (o ∷ os) (e ∷ es) (b ∷ bs) = best_end o e b ∷ best_point os es bs

-- D(o,e) - D(o,b)
unfoldable pub difference : List ℤ → List ℤ → List ℤ → ℤ
difference o e b = pos (D o e) -ℤ pos (D o b)

-- the margin with the three points that reach it
pub record Reached : Type 0 where
  pub margin : ℤ
  pub o : List ℤ
  pub e : List ℤ
  pub b : List ℤ

unfoldable pub reached_from : List ℤ → List (List ℤ) → List (List ℤ) → Reached
reached_from x e b = record {
  margin = difference x (farthest_point e x) (closest_point b x);
  o = x;
  e = farthest_point e x;
  b = closest_point b x;
}

unfoldable pub reached : List (List ℤ) → List (List ℤ) → List (List ℤ) → Reached
reached o e b = reached_from (best_point o e b) e b

unfoldable pub margin : List (List ℤ) → List (List ℤ) → List (List ℤ) → ℤ
margin o e b = (reached o e b).margin

-- "E is nearer than B from O exactly when the margin is below 0"
unfoldable pub closer : List (List ℤ) → List (List ℤ) → List (List ℤ) → Bool
closer o e b = lt_z (margin o e b) (pos 0)
