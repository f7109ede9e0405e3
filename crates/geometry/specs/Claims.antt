-- What the theorems say of near, far and the margin: they are the least and the largest, over all whole-number points.
use Rattle.std.specs.Prelude.{ℕ, ◌≤◌, true, List, ◌≡◌, ℤ, ◌≤ℤ◌}
use Rattle.geometry.specs.Box.{inside}
use Rattle.geometry.specs.Distance.{D}
use Rattle.geometry.specs.Margin.{difference, Reached}

-- (2 × 1,000,000)²: the largest square on one axis within the limits
abbrev pub axis_bound : ℕ
axis_bound = 4000000000000

-- "the least and the largest D(p,q) over the whole-number points q of the box": n is the least
pub record Least (b : List (List ℤ)) (p : List ℤ) (n : ℕ) : Type 0 where
  pub point : List ℤ
  pub point_inside : inside b point ≡ true
  pub reached : D p point ≡ n
  pub least : (q : List ℤ) → inside b q ≡ true → n ≤ D p q

-- n is the largest
pub record Largest (b : List (List ℤ)) (p : List ℤ) (n : ℕ) : Type 0 where
  pub point : List ℤ
  pub point_inside : inside b point ≡ true
  pub reached : D p point ≡ n
  pub largest : (q : List ℤ) → inside b q ≡ true → D p q ≤ n

-- the margin is "the largest D(o,e) - D(o,b) over whole-number points o of O, e of E, b of B", and its three points
-- reach it
pub record LargestDifference (o e b : List (List ℤ)) (m : Reached) : Type 0 where
  pub o_inside : inside o m.o ≡ true
  pub e_inside : inside e m.e ≡ true
  pub b_inside : inside b m.b ≡ true
  pub reached : difference m.o m.e m.b ≡ m.margin
  pub largest : (x y z : List ℤ) → inside o x ≡ true → inside e y ≡ true → inside b z ≡ true
      → difference x y z ≤ℤ m.margin
