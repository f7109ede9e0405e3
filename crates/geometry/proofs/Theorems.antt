-- The theorems of box arithmetic, over any number of axes. Calls `distance::min_dist` and `distance::max_dist`,
-- definitions `min_dist` and `max_dist` (specs/Distance): `min-dist_exact`, `max-dist_exact`. Call `margin::margin`,
-- definitions `reached` and `closer` (specs/Margin): `margin_exact`, `closer_exact`. Of the stops, definition `around`
-- (specs/Around): `around_smallest`. The claims are in specs/Claims; docs/PROOF.md lists each theorem beside its
-- sentence. Assumes nothing.
use Prim.Native.Nat.{ℕ, ◌+◌, ◌*◌, ◌<◌, ◌≤◌}
use mathlib.Core.Bool.{Bool, true, false}
use mathlib.Core.List.{List}
use mathlib.Core.Logic.{◌↔◌}
use mathlib.Core.Path.{◌≡◌, refl, sym, ap, ◌∙◌}
use native.Mathlib.Nat.{add-zero, zero-add}
use native.Mathlib.Omega.{arith}
use lib.Dec.{ltb}
use lib.IntN.{ℤ, nat_abs}
use lib.ListN.{length}
use lib.Signed.{le_z_yes}
use borrow.Author.Tests.{ltb-true, lt-ltb}
use Rattle.base.specs.Every.{every}
use Rattle.base.specs.Lists.{All}
use Rattle.geometry.specs.Around.{row, points, around, SmallestAround}
use Rattle.geometry.specs.Box.{valid_box, valid_point, inside}
use Rattle.geometry.specs.Claims.{axis_bound, Least, Largest, LargestDifference}
use Rattle.geometry.specs.Corners.{corner, corners}
use Rattle.geometry.specs.Distance.{D, closest_point, farthest_point}
use Rattle.geometry.specs.Distance.{min_dist, max_dist}
use Rattle.geometry.specs.Margin.{best_point, difference, reached_from, reached, margin, closer}
use Rattle.base.proofs.Every.{every_at, every_holds}
use Rattle.base.proofs.Tests.{true_T, by_test, iff_eq}
use Rattle.geometry.proofs.AllAxes.{in_box, in_test, in_valid, in_length, lowest_point, matches, all_limited}
use Rattle.geometry.proofs.AllAxes.{in_limited}
use Rattle.geometry.proofs.AllAxes.{closest_in, min-least, farthest_in, max_largest, distance_bound}
use Rattle.geometry.proofs.Around.{all-rows, rows_at, around_axes, around-valid, around-holds, around-least}
use Rattle.geometry.proofs.BestPoint.{Three, three, best_in, best_match_e, best_match_b, best_most, match_in}
use Rattle.geometry.proofs.Corners.{corner_in, best_corner}
use Rattle.geometry.proofs.Shift.{less_sub, at_most_sub, abs_difference}
-- points by columns: as many coordinates in each; the points one after the other, how many they are and how many axes
-- they have; what holds of each holds of all
pub use Rattle.geometry.proofs.Around.{columns_equal, equal_columns_lem, points-rows, rows_none, rows_next}
pub use Rattle.geometry.proofs.Around.{points-length, row_axes, all-points}
pub use Rattle.geometry.proofs.TwoOrThree.{two_columns}
-- the distances and the margin as sums over the axes
pub use Rattle.geometry.proofs.ByAxis.{dist-sum, min-dist-sum, max-dist-sum, margin-sum}
-- what holds of two axes and of three holds of every town
pub use Rattle.geometry.proofs.TwoOrThree.{by_axes}
-- the corners by the first n axes
pub use Rattle.geometry.proofs.Corners.{take-corner}

-- ---- near and far

module _ (b : List (List ℤ)) (p : List ℤ) (vb : valid_box b ≡ true) (vp : valid_point p ≡ true)
    (same : length p ≡ length b) where
  -- near is the least D, and reached
  pub min-dist_exact : Least b p (min_dist b p)
  unfolding min_dist
  min-dist_exact =
      let w = matches b p vb vp same in
      record {
        point = closest_point b p;
        point_inside = in_test (closest_in w);
        reached = refl;
        least = λ q i. min-least w (in_box b q i);
      }

  -- far is the largest D, and reached
  pub max-dist_exact : Largest b p (max_dist b p)
  unfolding max_dist
  max-dist_exact =
      let w = matches b p vb vp same in
      record {
        point = farthest_point b p;
        point_inside = in_test (farthest_in w);
        reached = refl;
        largest = λ q i. max_largest w (in_box b q i);
      }

  -- near is at most far
  pub min_at_most_max : min_dist b p ≤ max_dist b p
  unfolding max_dist
  min_at_most_max = let w = matches b p vb vp same in min-least w (farthest_in w)

  -- on n axes within the limits far is at most n × 4,000,000,000,000
  pub max-dist_bounded : max_dist b p ≤ axis_bound * length p
  unfolding max_dist
  max-dist_bounded = distance_bound (all_limited p vp) (in_limited (farthest_in (matches b p vb vp same)) vb)

-- on n axes within the limits no D is larger than n × 4,000,000,000,000
pub distance_bounded : (p q : List ℤ) → valid_point p ≡ true → valid_point q ≡ true → D p q ≤ axis_bound * length p
distance_bounded p q vp vq = distance_bound (all_limited p vp) (all_limited q vq)

-- ---- points of a box, and its corners

-- a point of a box has as many axes, and of a valid one it is valid
pub inside_axes : (b : List (List ℤ)) (p : List ℤ) → inside b p ≡ true → length p ≡ length b
inside_axes b p i = in_length (in_box b p i)

pub inside-valid : (b : List (List ℤ)) (p : List ℤ) → valid_box b ≡ true → inside b p ≡ true → valid_point p ≡ true
inside-valid b p v i = in_valid (in_box b p i) v

-- a corner of a valid box is a point of it
pub corner-inside : (o : List (List ℤ)) → valid_box o ≡ true → (c : ℕ) → inside o (corner o c) ≡ true
corner-inside o vo c = in_test (corner_in o vo c)

-- ---- points by columns

-- "the smallest box around the stops": of n points, n > 0, with valid coordinates in columns
pub around_smallest : (cols : List (List ℤ)) (n : ℕ) → 0 < n → All (λ c. length c ≡ n) cols
    → All (λ p. valid_point p ≡ true) (points cols n) → SmallestAround (length cols) (points cols n) (around cols)
unfolding points
around_smallest cols n some long v = record {
  axes = around_axes n cols;
  valid = around-valid n cols long some
      (λ i l. rw (zero-add i) at (rows_at (λ p. valid_point p ≡ true) cols 0 n v i l));
  holds = all-rows (λ p. inside (around cols) p ≡ true) cols 0 n
      (λ i l. rw (zero-add i) (in_test (around-holds n cols long i l)));
  smallest = λ b e h q i.
      in_test (around-least n cols long some b e
      (λ j l. in_box b (row cols j) (rw (zero-add j) at (rows_at (λ p. inside b p ≡ true) cols 0 n h j l)))
      q (in_box (around cols) q i));
}

-- ---- the margin

-- the margin is below 0 exactly when, from its own point of O, far to E is below near to B
pub closer_test : (o e b : List (List ℤ))
    → closer o e b ≡ ltb (max_dist e (best_point o e b)) (min_dist b (best_point o e b))
unfolding closer margin reached reached_from difference max_dist min_dist
closer_test o e b =
    let x = best_point o e b in
    let f = D x (farthest_point e x) in
    let n = D x (closest_point b x) in
    less_sub f n 0 0 ∙ rw (add-zero f, zero-add n)

module _ (o e b : List (List ℤ)) (vo : valid_box o ≡ true) (ve : valid_box e ≡ true) (vb : valid_box b ≡ true)
    (se : length e ≡ length o) (sb : length b ≡ length o) where
  -- the margin is the largest difference, and reached by the shown points, which lie in their boxes
  pub margin_exact : LargestDifference o e b (reached o e b)
  unfolding reached reached_from difference min_dist max_dist
  margin_exact =
      let w = three o e b vo ve vb se sb in
      record {
        o_inside = in_test (best_in w);
        e_inside = in_test (farthest_in (best_match_e w));
        b_inside = in_test (closest_in (best_match_b w));
        reached = refl;
        largest = λ x y z i j k. le_z_yes (true_T (at_most_sub (D x y) (D x z) _ _ (most x y z i j k)));
      }
    where
      most : (x y z : List ℤ) → inside o x ≡ true → inside e y ≡ true → inside b z ≡ true →
          D x y + D (best_point o e b) (closest_point b (best_point o e b))
          ≤ D (best_point o e b) (farthest_point e (best_point o e b)) + D x z
      most x y z i j k = best_most (three o e b vo ve vb se sb) (in_box o x i) (in_box e y j) (in_box b z k)

  -- E is closer than B from O exactly when every point of E is, from every point of O, than every point of B
  pub closer_exact : (closer o e b ≡ true)
      ↔ ((x y z : List ℤ) → inside o x ≡ true → inside e y ≡ true → inside b z ≡ true → D x y < D x z)
  unfolding min_dist max_dist
  closer_exact = (if, only_if)
    where
      point : List ℤ
      point = best_point o e b

      if : closer o e b ≡ true
          → (x y z : List ℤ) → inside o x ≡ true → inside e y ≡ true → inside b z ≡ true → D x y < D x z
      if h x y z i j k =
          let m = best_most (three o e b vo ve vb se sb) (in_box o x i) (in_box e y j) (in_box b z k) in
          omega (arith, ltb-true (max_dist e point) (min_dist b point) (sym (closer_test o e b) ∙ h))

      only_if : ((x y z : List ℤ) → inside o x ≡ true → inside e y ≡ true → inside b z ≡ true → D x y < D x z)
          → closer o e b ≡ true
      only_if h =
          let w = three o e b vo ve vb se sb in
          let l = h point (farthest_point e point) (closest_point b point)
          (in_test (best_in w)) (in_test (farthest_in (best_match_e w))) (in_test (closest_in (best_match_b w))) in
          closer_test o e b ∙ lt-ltb (max_dist e point) (min_dist b point) l

  -- .. and exactly when from each corner of O far to E is below near to B: each box is measured once from each corner
  pub closer-corners : closer o e b
      ≡ every (λ c. ltb (max_dist e (corner o c)) (min_dist b (corner o c))) (corners (length o))
  unfolding max_dist min_dist
  closer-corners =
      iff_eq (closer o e b) (every test (corners (length o)))
      (λ t. every_holds test (corners (length o)) (λ c l.
      let i = corner_in o vo c in
      let v = match_in w i in
      lt-ltb (max_dist e (corner o c)) (min_dist b (corner o c))
      (closer_exact.0 t (corner o c) (farthest_point e (corner o c)) (closest_point b (corner o c))
      (in_test i) (in_test (farthest_in v.0)) (in_test (closest_in v.1)))))
      (λ t.
      let k = best_corner w in
      closer_test o e b ∙ rw k.is (every_at test (corners (length o)) k.number t k.below))
    where
      test : ℕ → Bool
      test c = ltb (max_dist e (corner o c)) (min_dist b (corner o c))

      w : Three o e b
      w = three o e b vo ve vb se sb

  -- on n axes within the limits no margin is larger than n × 4,000,000,000,000, either way
  pub margin_bound : nat_abs (margin o e b) ≤ axis_bound * length o
  unfolding margin reached reached_from difference
  margin_bound =
      let w = three o e b vo ve vb se sb in
      let x = best_point o e b in
      let wx = in_limited (best_in w) vo in
      let n = in_length (best_in w) in
      let f = distance_bound wx (in_limited (farthest_in (best_match_e w)) ve) in
      let c = distance_bound wx (in_limited (closest_in (best_match_b w)) vb) in
      let d = abs_difference (D x (farthest_point e x)) (D x (closest_point b x)) in
      let m : axis_bound * length x ≡ axis_bound * length o = ap (λ (k : ℕ). axis_bound * k) n in
      omega arith

-- no box is closer than itself
pub closer_irreflexive : (o b : List (List ℤ)) → valid_box o ≡ true → valid_box b ≡ true → length b ≡ length o
    → closer o b b ≡ false
closer_irreflexive o b vo vb s = by_test (closer o b b)
    (λ t.
    let x = lowest_point o vo in
    let y = lowest_point b vb in
    let i = in_test y.1 in
    let l = (closer_exact o b b vo vb vb s s).0 t x.0 y.0 y.0 (in_test x.1) i i in
    absurd (omega arith))
    (λ t. t)

-- closer than a closer one is closer
pub closer_transitive : (o a b c : List (List ℤ))
    → valid_box o ≡ true → valid_box a ≡ true → valid_box b ≡ true → valid_box c ≡ true
    → length a ≡ length o → length b ≡ length o → length c ≡ length o
    → closer o a b ≡ true → closer o b c ≡ true → closer o a c ≡ true
closer_transitive o a b c vo va vb vc sa sb sc p q =
    let m = lowest_point b vb in
    (closer_exact o a c vo va vc sa sc).1 (λ x y z i j k.
    let l = (closer_exact o a b vo va vb sa sb).0 p x y m.0 i j (in_test m.1) in
    let r = (closer_exact o b c vo vb vc sb sc).0 q x m.0 z i (in_test m.1) k in
    omega arith)
