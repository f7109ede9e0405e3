-- The least and the greatest coordinate as folds, and a loop over the stops: they are gathered as points.
use Prim.Native.Nat.{ℕ, suc, ◌+◌, ◌-◌, ◌<◌, ◌≤◌}
use mathlib.Core.Bool.{cond}
use mathlib.Core.List.{List, [], ◌∷◌}
use mathlib.Core.Path.{◌≡◌, refl}
use native.Mathlib.Numerals.{add-one}
use native.Mathlib.Omega.{arith}
use lib.IntN.{ℤ, pos}
use lib.ListN.{length, get_or, set, take}
use lib.Seq.{take_at}
use lib.Signed.{lt_z}
use Rattle.std.specs.Int.{int_min, int_max}
use Rattle.std.specs.List.{fold}
use Rattle.std.proofs.lemmas.Int.{ints, clamps}
use Rattle.base.specs.Over.{over}
use Rattle.geometry.specs.Around.{rows, foremost, least, greatest}
use Rattle.base.proofs.Over.{over_eq, over_nil, over-cons}
use Rattle.geometry.proofs.Theorems.{points-length, points-rows, rows_none, rows_next}
use Rattle.stops.specs.Stops.{stop_count, stop_at, stops_of}

-- the least and the greatest, by the library's words
fold_min : (a : ℤ) (xs : List ℤ) → fold int_min a xs ≡ foremost lt_z a xs
unfolding foremost
fold_min a [] = refl
fold_min a (x ∷ xs) = fold_min (int_min a x) xs

greater : (a x : ℤ) → int_max a x ≡ cond (lt_z a x) x a
greater a x = grind (arith, ints)

fold_max : (a : ℤ) (xs : List ℤ) → fold int_max a xs ≡ foremost (λ a b. lt_z b a) a xs
unfolding foremost
fold_max a [] = refl
fold_max a (x ∷ xs) = rw (greater a x) (fold_max (cond (lt_z a x) x a) xs)

pub least_fold : (xs : List ℤ) → 0 < length xs → fold int_min (get_or xs 0 (pos 0)) xs ≡ least xs
unfolding least
least_fold [] h = absurd (omega arith)
least_fold (x ∷ xs) h = rw (same-min x) (fold_min x xs)
  where
    same-min : (x : ℤ) → int_min x x ≡ x
    same-min x = omega (arith, ints, clamps)

pub greatest_fold : (xs : List ℤ) → 0 < length xs → fold int_max (get_or xs 0 (pos 0)) xs ≡ greatest xs
unfolding greatest
greatest_fold [] h = absurd (omega arith)
greatest_fold (x ∷ xs) h = rw (same-max x) (fold_max x xs)
  where
    same-max : (x : ℤ) → int_max x x ≡ x
    same-max x = omega (arith, ints, clamps)

-- ---- the stops by columns

pub stops_length : (cols : List (List ℤ)) → length (stops_of cols) ≡ stop_count cols
stops_length cols = points-length cols (stop_count cols)

-- ---- the stops gathered as points: the loop's start, a turn, its end, and what is gathered

module _ (cols : List (List ℤ)) where
  pub points_start : (l : List (List ℤ)) → over l 0 (rows cols 0 (stop_count cols - 0)) ≡ over l 0 (stops_of cols)
  points_start l =
      let e : stop_count cols - 0 ≡ stop_count cols = omega arith in
      rw (e, points-rows cols (stop_count cols))

  pub points_turn : (l : List (List ℤ)) (i n : ℕ) → i < n
      → over (set l i (stop_at cols i)) (i + 1) (rows cols (i + 1) (n - (i + 1))) ≡ over l i (rows cols i (n - i))
  points_turn l i n h =
      let e : n - i ≡ suc (n - (i + 1)) = omega arith in
      rw (
        e,
        rows_next cols i (n - (i + 1)),
        over-cons l i (stop_at cols i) (rows cols (i + 1) (n - (i + 1))),
        add-one i,
      )

  pub points_done : (l : List (List ℤ)) (i n : ℕ) → n ≤ i → l ≡ over l i (rows cols i (n - i))
  points_done l i n h =
      let e : n - i ≡ 0 = omega arith in
      rw (e, rows_none cols i, over_nil l i)

  -- they stand at the front
  pub points_gathered : (l : List (List ℤ)) {m : List (List ℤ)} → m ≡ over l 0 (stops_of cols)
      → stop_count cols ≤ length l → take (stop_count cols) m ≡ stops_of cols
  points_gathered l e h =
      let n = stops_length cols in
      rw (e, over_eq l 0 (stops_of cols) (omega arith)) (take_at (stops_of cols) _ (stop_count cols) n)
