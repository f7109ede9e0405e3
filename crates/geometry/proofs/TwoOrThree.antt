-- Two or three axes: what holds of both holds of every town's number of axes; columns of two. Assumes nothing.
use Prim.Native.Nat.{ℕ}
use mathlib.Core.Bool.{◌&&◌}
use mathlib.Core.List.{List, [], ◌∷◌}
use mathlib.Core.Path.{◌≡◌}
use native.Mathlib.Omega.{arith}
use lib.Dec.{eqb}
use lib.IntN.{ℤ}
use lib.ListN.{length}
use borrow.Author.Tests.{eqb-true, eqb-false}
use Rattle.geometry.specs.Around.{equal_columns}
use Rattle.geometry.specs.Axes.{KnownAxes}
use Rattle.base.proofs.Tests.{by_test}

pub by_axes : (P : ℕ → Type 0) → P 2 → P 3 → (n : ℕ) → KnownAxes n → P n
by_axes P two three n k =
    by_test (eqb n 3)
    (λ t. rw (eqb-true n 3 t) three)
    (λ t. let e : n ≡ 2 = omega (arith, eqb-false n 3 t) in rw e two)

pub two_columns : (n : ℕ) (xs ys : List ℤ) → eqb (length xs) n && eqb (length ys) n ≡ equal_columns n (xs ∷ ys ∷ [])
unfolding equal_columns
two_columns n xs ys = by_test (eqb (length ys) n) (λ e. rw e) (λ e. rw e)
