-- Of the columns the first n: their points, the box around them and their number.
use Prim.Native.Nat.{ℕ, zero, suc, ◌-◌, ◌≤◌}
use mathlib.Core.List.{List, [], ◌∷◌, map}
use mathlib.Core.Path.{◌≡◌, refl, sym, ap, ◌∙◌}
use native.Mathlib.Omega.{arith}
use lib.IntN.{ℤ, pos}
use lib.ListN.{get_or, length, take}
use Rattle.base.specs.Lists.{All}
use Rattle.geometry.specs.Around.{row, rows, least, greatest, around, points}
use Rattle.geometry.specs.Axes.{Columns}
use Rattle.geometry.proofs.Theorems.{by_axes, points-rows}
use Rattle.stops.specs.Stops.{stop_count, stops_of}

pub take_row : (n : ℕ) (cols : List (List ℤ)) (i : ℕ) → take n (row cols i) ≡ row (take n cols) i
unfolding row
take_row zero cols i = refl
take_row (suc n) [] i = refl
take_row (suc n) (c ∷ cols) i = ap (λ z. get_or c i (pos 0) ∷ z) (take_row n cols i)

pub take-around : (n : ℕ) (cols : List (List ℤ)) → take n (around cols) ≡ around (take n cols)
unfolding around
take-around zero cols = refl
take-around (suc n) [] = refl
take-around (suc n) (c ∷ cols) = ap (λ z. (least c ∷ greatest c ∷ []) ∷ z) (take-around n cols)

take-rows : (n : ℕ) (cols : List (List ℤ)) (i m : ℕ) → map (take n) (rows cols i m) ≡ rows (take n cols) i m
unfolding rows
take-rows n cols i zero = refl
take-rows n cols i (suc m) = rw (take_row n cols i, take-rows n cols (suc i) m)

pub take-points : (n : ℕ) (cols : List (List ℤ)) (m : ℕ) → map (take n) (points cols m) ≡ points (take n cols) m
take-points n cols m = rw (points-rows cols m, points-rows (take n cols) m) (take-rows n cols 0 m)

module _ (n : ℕ) (some : 1 ≤ n) where
  pub take_count : (cols : List (List ℤ)) → stop_count (take n cols) ≡ stop_count cols
  take_count cols = let e : n ≡ suc (n - 1) = omega arith in rw e (by-columns cols)
    where
      by-columns : (cols : List (List ℤ)) → stop_count (take (suc (n - 1)) cols) ≡ stop_count cols
      by-columns [] = refl
      by-columns (c ∷ cols) = refl

  pub take_stops : (cols : List (List ℤ)) → map (take n) (stops_of cols) ≡ stops_of (take n cols)
  take_stops cols = take-points n cols (stop_count cols) ∙ ap (points (take n cols)) (sym (take_count cols))

-- the three columns of a call are equally long where those of its axes are
pub same-columns : (n : ℕ) (xs ys zs : List ℤ) → Columns n ys zs →
    let cols = take n (xs ∷ ys ∷ zs ∷ []) in All (λ c. length c ≡ stop_count cols) cols
    → (length ys ≡ length xs) × (length zs ≡ length xs)
same-columns n xs ys zs k = by_axes
    (λ n. let cols = take n (xs ∷ ys ∷ zs ∷ []) in (n ≡ 2 → zs ≡ ys) → All (λ c. length c ≡ stop_count cols) cols
    → (length ys ≡ length xs) × (length zs ≡ length xs))
    (λ same a. (a.1.0, rw (same refl) a.1.0)) (λ same a. (a.1.0, a.1.1.0)) n k.0 k.1
