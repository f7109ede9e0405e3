use Prim.Native.Nat.{ℕ}
use mathlib.Core.List.{List, [], ◌∷◌}
use mathlib.Core.Path.{◌≡◌, refl, ap}
use lib.IntN.{ℤ, pos}
use lib.ListN.{get_or, take}
use Rattle.geometry.specs.Around.{row}
use Rattle.geometry.specs.Axes.{KnownAxes}
use Rattle.geometry.specs.Box as geometry
use Rattle.geometry.proofs.Theorems.{by_axes}
use Rattle.codec.proofs.Number.{local_i32}
use Rattle.writer.proofs.supply.site_fits.Goals as goal

-- the point of the columns that count
row-take : (n : ℕ) (xs ys zs : List ℤ) (i : ℕ) → KnownAxes n →
    take n (get_or xs i (pos 0) ∷ get_or ys i (pos 0) ∷ get_or zs i (pos 0) ∷ []) ≡ row (take n (xs ∷ ys ∷ zs ∷ [])) i
unfolding row
row-take n xs ys zs i k =
    by_axes (λ n. take n (get_or xs i (pos 0) ∷ get_or ys i (pos 0) ∷ get_or zs i (pos 0) ∷ [])
    ≡ row (take n (xs ∷ ys ∷ zs ∷ [])) i) refl refl n k

pub returns : goal.returns
returns c =
    let a = c.args in
    let x = local_i32 (get_or a.xs.now a.i (pos 0)) c.x-1.given in
    let y = local_i32 (get_or a.ys.now a.i (pos 0)) c.y-1.given in
    let z = local_i32 (get_or a.zs.now a.i (pos 0)) c.z-1.given in
    simp (c.inside.ensures, x, y, z)
    (ap (geometry.inside (take a.axes a.bounds))
    (row-take a.axes a.xs.now a.ys.now a.zs.now a.i c.requires.0))
