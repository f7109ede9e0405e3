-- The number of axes of a town. Axis by axis: the axes of a box and the coordinates of a point by index, and sums over
-- the axes.
use Rattle.std.specs.Prelude.{ℕ, zero, suc, ◌+◌, ◌≤◌, List, [], ◌≡◌, ℤ, pos, ◌+ℤ◌, get_or}

-- 02.2: "Towns with three axes join the plan ones"
abbrev pub KnownAxes : ℕ → Type 0
KnownAxes n = (2 ≤ n) × (n ≤ 3)

-- columns of coordinates as calls hand them on, x, y and z: of a plan town y stands for z, which is not looked at
abbrev pub Columns : ℕ → List ℤ → List ℤ → Type 0
Columns n ys zs = KnownAxes n × (n ≡ 2 → zs ≡ ys)

abbrev pub axis_at : List (List ℤ) → ℕ → List ℤ
axis_at b i = get_or b i []

abbrev pub coordinate : List ℤ → ℕ → ℤ
coordinate p i = get_or p i (pos 0)

-- f 0 + .. + f (n - 1)
unfoldable pub sum : (ℕ → ℕ) → ℕ → ℕ
sum f zero = 0
sum f (suc n) = f 0 + sum (λ i. f (suc i)) n

unfoldable pub sumℤ : (ℕ → ℤ) → ℕ → ℤ
sumℤ f zero = pos 0
sumℤ f (suc n) = f 0 +ℤ sumℤ (λ i. f (suc i)) n
