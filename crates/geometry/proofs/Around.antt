-- The box around points given by columns: it holds them all, and every box that does holds it. Assumes nothing.
use Prim.Native.Nat.{ℕ, zero, suc, ◌+◌, ◌<◌}
use mathlib.Core.Bool.{Bool, true, false}
use mathlib.Core.List.{List, [], ◌∷◌}
use mathlib.Core.Path.{◌≡◌, refl, ap}
use native.Mathlib.Nat.{zero-add}
use native.Mathlib.Numerals.{add-one}
use native.Mathlib.Omega.{arith}
use lib.Dec.{eqb}
use lib.IntN.{ℤ, pos}
use lib.ListN.{get_or, length}
use lib.Signed.{lt_z, le_z}
use borrow.Author.Tests.{eqb-true, eq-eqb}
use Rattle.base.specs.Lists.{All}
use Rattle.geometry.specs.Around.{equal_columns, row, rows, points, foremost, least, greatest, around}
use Rattle.geometry.specs.Box.{lo, hi, within_limits, valid_axis, valid_box, valid_point}
use Rattle.base.proofs.Tests.{and_both, both_and, by_test, cond_ind}
use Rattle.geometry.proofs.AllAxes.{In, none, more}
use Rattle.geometry.proofs.OneAxis.{On}
use Rattle.geometry.proofs.Shift.{at_most_refl, not_less, at_most_trans, less_at_most}

-- ---- columns of equal lengths
module _ (n : ℕ) where
  pub columns_equal : (cols : List (List ℤ)) → equal_columns n cols ≡ true → All (λ c. length c ≡ n) cols
  unfolding equal_columns
  columns_equal [] e = tt
  columns_equal (c ∷ cols) e =
      let p = and_both (eqb (length c) n) (equal_columns n cols) e in
      (eqb-true (length c) n p.0, columns_equal cols p.1)

  pub equal_columns_lem : (cols : List (List ℤ)) → All (λ c. length c ≡ n) cols → equal_columns n cols ≡ true
  unfolding equal_columns
  equal_columns_lem [] h = refl
  equal_columns_lem (c ∷ cols) h = both_and (eq-eqb (length c) n h.0) (equal_columns_lem cols h.1)

-- ---- a property of all rows, by index
module _ (P : List ℤ → Type 0) (cols : List (List ℤ)) where
  pub rows_at : (i n : ℕ) → All P (rows cols i n) → (j : ℕ) → j < n → P (row cols (i + j))
  unfolding rows
  rows_at i zero h j l = absurd (omega arith)
  rows_at i (suc n) h zero l = let e : i + 0 ≡ i = omega arith in rw e h.0
  rows_at i (suc n) h (suc j) l =
      let e : i + suc j ≡ suc i + j = omega arith in
      rw e (rows_at (suc i) n h.1 j (omega arith))

  pub all-rows : (i n : ℕ) → ((j : ℕ) → j < n → P (row cols (i + j))) → All P (rows cols i n)
  unfolding rows
  all-rows i zero h = tt
  all-rows i (suc n) h =
      let e : i + 0 ≡ i = omega arith in (
        rw e at (h 0 (omega arith)),
        all-rows (suc i) n (λ j l. let e : i + suc j ≡ suc i + j = omega arith in rw e at (h (suc j) (omega arith))),
      )

-- ---- the points at the indices, one after the other
module _ (cols : List (List ℤ)) where
  pub points-rows : (n : ℕ) → points cols n ≡ rows cols 0 n
  unfolding points
  points-rows n = refl

  pub rows_none : (i : ℕ) → rows cols i 0 ≡ []
  unfolding rows
  rows_none i = refl

  pub rows_next : (i n : ℕ) → rows cols i (suc n) ≡ row cols i ∷ rows cols (i + 1) n
  unfolding rows
  rows_next i n = rw (add-one i)

  rows-length : (i n : ℕ) → length (rows cols i n) ≡ n
  unfolding rows
  rows-length i zero = refl
  rows-length i (suc n) = ap suc (rows-length (suc i) n)

  pub points-length : (n : ℕ) → length (points cols n) ≡ n
  points-length n = rw (points-rows n) (rows-length 0 n)

-- a point has a coordinate from each column
pub row_axes : (cols : List (List ℤ)) (i : ℕ) → length (row cols i) ≡ length cols
unfolding row
row_axes [] i = refl
row_axes (c ∷ cols) i = ap suc (row_axes cols i)

pub all-points : (P : List ℤ → Type 0) (cols : List (List ℤ)) (n : ℕ) → ((i : ℕ) → i < n → P (row cols i))
    → All P (points cols n)
all-points P cols n h = rw (points-rows cols n) (all-rows P cols 0 n (λ j l. rw (zero-add j) (h j l)))

-- ---- the least and the greatest of a column

-- a property of every element of a column
abbrev Each : (ℤ → Type 0) → List ℤ → Type 0
Each P c = (i : ℕ) → i < length c → P (get_or c i (pos 0))

each_rest : (P : ℤ → Type 0) (x : ℤ) (c : List ℤ) → Each P (x ∷ c) → Each P c
each_rest P x c h i l = h (suc i) (omega arith)

each-cons : (P : ℤ → Type 0) (x : ℤ) (c : List ℤ) → P x → Each P c → Each P (x ∷ c)
each-cons P x c h g zero l = h
each-cons P x c h g (suc i) l = g i (omega arith)

-- one of them
foremost-one : (lt : ℤ → ℤ → Bool) (P : ℤ → Type 0) (a : ℤ) (c : List ℤ) → P a → Each P c → P (foremost lt a c)
unfolding foremost
foremost-one lt P a [] h g = h
foremost-one lt P a (x ∷ c) h g =
    cond_ind (lt x a) x a (λ z. P (foremost lt z c))
    (λ e. foremost-one lt P x c (g 0 (omega arith)) (each_rest P x c g))
    (λ e. foremost-one lt P a c h (each_rest P x c g))

-- none is ahead of it
module _ (lt le : ℤ → ℤ → Bool) (self : (a : ℤ) → le a a ≡ true)
    (trans : (a b c : ℤ) → le a b ≡ true → le b c ≡ true → le a c ≡ true)
    (yes_le : (a b : ℤ) → lt a b ≡ true → le a b ≡ true) (no_le : (a b : ℤ) → lt a b ≡ false → le b a ≡ true) where
  abbrev From : ℤ → ℤ → Type 0
  From a x = le a x ≡ true

  foremost_first : (a : ℤ) (c : List ℤ) → Each (From (foremost lt a c)) (a ∷ c)
  unfolding foremost
  foremost_first a [] = each-cons (From a) a [] (self a) (λ i l. absurd (omega arith))
  foremost_first a (x ∷ c) = by_test (lt x a)
      (λ e.
      let P = From (foremost lt x c) in
      let r = foremost_first x c in
      rw e (each-cons P a (x ∷ c) (trans (foremost lt x c) x a (r 0 (omega arith)) (yes_le x a e)) r))
      (λ e.
      let P = From (foremost lt a c) in
      let r = foremost_first a c in
      let h = r 0 (omega arith) in
      let k = trans (foremost lt a c) a x h (no_le x a e) in
      rw e (each-cons P a (x ∷ c) h (each-cons P x c k (each_rest P a c r))))

abbrev span : List ℤ → List ℤ
span c = least c ∷ greatest c ∷ []

-- every element lies between the ends
span-holds : (c : List ℤ) → Each (On (span c)) c
unfolding least greatest
span-holds [] i l = absurd (omega arith)
span-holds (x ∷ c) i l = record {
  from = foremost_first lt_z le_z at_most_refl at_most_trans less_at_most not_less x c i l;
  to = foremost_first (λ u v. lt_z v u) (λ u v. le_z v u) at_most_refl (λ u v w h k. at_most_trans w v u k h)
      (λ u v. less_at_most v u) (λ u v. not_less v u) x c i l;
}

-- the ends are elements
ends_are : (P : ℤ → Type 0) (c : List ℤ) → 0 < length c → Each P c → P (least c) × P (greatest c)
unfolding least greatest
ends_are P [] s g = absurd (omega arith)
ends_are P (x ∷ c) s g =
    let h = g 0 (omega arith) in
    (foremost-one _ P x c h (each_rest P x c g), foremost-one _ P x c h (each_rest P x c g))

module _ (c : List ℤ) (some : 0 < length c) where
  span-valid : Each (λ x. within_limits x ≡ true) c → valid_axis (span c) ≡ true
  unfolding valid_axis
  span-valid g =
      let e = ends_are (λ x. within_limits x ≡ true) c some g in
      let o = span-holds c 0 some in
      both_and (both_and e.0 e.1) (at_most_trans (least c) (get_or c 0 (pos 0)) (greatest c) o.from o.to)

  -- an axis that holds every element holds what lies between the ends
  span_smallest : (s : List ℤ) → Each (On s) c → (x : ℤ) → On (span c) x → On s x
  span_smallest s g x o =
      let e = ends_are (On s) c some g in
      record {
        from = at_most_trans (lo s) (least c) x e.0.from o.from;
        to = at_most_trans x (greatest c) (hi s) o.to e.1.to;
      }

-- ---- all axes
first_on : {s : List ℤ} {b : List (List ℤ)} {x : ℤ} {p : List ℤ} → In (s ∷ b) (x ∷ p) → On s x
first_on (more o i) = o

rest_in : {s : List ℤ} {b : List (List ℤ)} {x : ℤ} {p : List ℤ} → In (s ∷ b) (x ∷ p) → In b p
rest_in (more o i) = i

module _ (n : ℕ) where
  pub around_axes : (cols : List (List ℤ)) → length (around cols) ≡ length cols
  unfolding around
  around_axes [] = refl
  around_axes (c ∷ cols) = ap suc (around_axes cols)

  pub around-valid : (cols : List (List ℤ)) → All (λ c. length c ≡ n) cols → 0 < n
      → ((i : ℕ) → i < n → valid_point (row cols i) ≡ true) → valid_box (around cols) ≡ true
  unfolding around valid_box valid_point row
  around-valid [] h s v = refl
  around-valid (c ∷ cols) h s v =
      let both : (i : ℕ) → i < n → (within_limits (get_or c i (pos 0)) ≡ true) × (valid_point (row cols i) ≡ true) =
      λ i l. and_both (within_limits (get_or c i (pos 0))) (valid_point (row cols i)) (v i l) in
      both_and (span-valid c (omega (arith, h.0)) (λ i l. (both i (omega (arith, h.0))).0))
      (around-valid cols h.1 s (λ i l. (both i l).1))

  pub around-holds : (cols : List (List ℤ)) → All (λ c. length c ≡ n) cols → (i : ℕ) → i < n
      → In (around cols) (row cols i)
  unfolding around row
  around-holds [] h i l = none
  around-holds (c ∷ cols) h i l = more (span-holds c i (omega (arith, h.0))) (around-holds cols h.1 i l)

  pub around-least : (cols : List (List ℤ)) → All (λ c. length c ≡ n) cols → 0 < n → (b : List (List ℤ))
      → length b ≡ length cols → ((i : ℕ) → i < n → In b (row cols i)) → (q : List ℤ) → In (around cols) q → In b q
  unfolding around row
  around-least [] h s [] e g q none = none
  around-least [] h s (t ∷ b) e g q i = absurd (omega arith)
  around-least (c ∷ cols) h s [] e g q i = absurd (omega arith)
  around-least (c ∷ cols) h s (t ∷ b) e g [] i = elim i [ ]
  around-least (c ∷ cols) h s (t ∷ b) e g (x ∷ q) (more o i) =
      more (span_smallest c (omega (arith, h.0)) t (λ j l. first_on (g j (omega (arith, h.0)))) x o)
      (around-least cols h.1 s b (omega arith) (λ j l. rest_in (g j l)) q i)
