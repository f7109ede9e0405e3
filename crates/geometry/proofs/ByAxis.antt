-- Axis by axis, for the first n axes: each test is that of every axis, each distance the sum of the axes' squares, the
-- margin the sum of the axes' gains. The code reads a box and a point by index: its proofs are instances of these.
-- Assumes nothing.
use Prim.Native.Nat.{ℕ, zero, suc, ◌+◌, ◌<◌, ◌≤◌}
use mathlib.Core.Bool.{true, ◌&&◌}
use mathlib.Core.List.{List, [], ◌∷◌}
use mathlib.Core.Path.{◌≡◌, refl, sym, ap, ◌∙◌}
use native.Mathlib.Omega.{arith}
use lib.IntN.{ℤ, pos, ◌+ℤ◌, ◌-ℤ◌}
use lib.ListN.{length, take}
use Rattle.base.specs.Every.{every}
use Rattle.geometry.specs.Axes.{axis_at, coordinate, sum, sumℤ}
use Rattle.geometry.specs.Box.{within_limits, valid_axis, valid_box, ValidBoxes, valid_point, on_axis, inside}
use Rattle.geometry.specs.Distance.{square, D, closest, farthest, closest_point, farthest_point, min_dist, max_dist}
use Rattle.geometry.specs.Margin.{gain, best_end, best_point, difference, Reached, reached_from, reached, margin}
use Rattle.base.proofs.Every.{every_at, every_holds, every_first}
use Rattle.base.proofs.Tests.{and_both}
use Rattle.geometry.proofs.BestEnd.{Valid}
use Rattle.geometry.proofs.Shift.{add-sub}

-- ---- tests
pub valid-box-every : (b : List (List ℤ)) (n : ℕ) → n ≤ length b
    → valid_box (take n b) ≡ every (λ i. valid_axis (axis_at b i)) n
unfolding valid_box every
valid-box-every b zero l = refl
valid-box-every [] (suc n) l = absurd (omega arith)
valid-box-every (s ∷ b) (suc n) l =
    rw (every_first (λ i. valid_axis (axis_at (s ∷ b) i)) n, valid-box-every b n (omega arith))

pub valid_point_every : (p : List ℤ) (n : ℕ) → n ≤ length p
    → valid_point (take n p) ≡ every (λ i. within_limits (coordinate p i)) n
unfolding valid_point every
valid_point_every p zero l = refl
valid_point_every [] (suc n) l = absurd (omega arith)
valid_point_every (x ∷ p) (suc n) l =
    rw (every_first (λ i. within_limits (coordinate (x ∷ p) i)) n, valid_point_every p n (omega arith))

pub inside-every : (b : List (List ℤ)) (p : List ℤ) (n : ℕ) → n ≤ length b → n ≤ length p
    → inside (take n b) (take n p) ≡ every (λ i. on_axis (axis_at b i) (coordinate p i)) n
unfolding inside every
inside-every b p zero l m = refl
inside-every [] p (suc n) l m = absurd (omega arith)
inside-every (s ∷ b) [] (suc n) l m = absurd (omega arith)
inside-every (s ∷ b) (x ∷ p) (suc n) l m =
    rw (
      every_first (λ i. on_axis (axis_at (s ∷ b) i) (coordinate (x ∷ p) i)) n,
      inside-every b p n (omega arith) (omega arith),
    )

pub valid_axis_at : (b : List (List ℤ)) (n : ℕ) → n ≤ length b → valid_box (take n b) ≡ true → (i : ℕ) → i < n
    → valid_axis (axis_at b i) ≡ true
valid_axis_at b n l v i = every_at (λ i. valid_axis (axis_at b i)) n i (sym (valid-box-every b n l) ∙ v)

pub within_at : (p : List ℤ) (n : ℕ) → n ≤ length p → valid_point (take n p) ≡ true → (i : ℕ) → i < n
    → within_limits (coordinate p i) ≡ true
within_at p n l v i = every_at (λ i. within_limits (coordinate p i)) n i (sym (valid_point_every p n l) ∙ v)

-- .. of a box and of a point
pub valid_at : (b : List (List ℤ)) (p : List ℤ) (n : ℕ) → n ≤ length b → n ≤ length p
    → valid_box (take n b) ≡ true → valid_point (take n p) ≡ true
    → (i : ℕ) → i < n → (valid_axis (axis_at b i) ≡ true) × (within_limits (coordinate p i) ≡ true)
valid_at b p n l m v w i k = (valid_axis_at b n l v i k, within_at p n m w i k)

-- .. of three boxes
pub valid_axes_at : (o e b : List (List ℤ)) (n : ℕ) → n ≤ length o → n ≤ length e → n ≤ length b
    → ValidBoxes (take n o) (take n e) (take n b) → (i : ℕ) → i < n → Valid (axis_at o i) (axis_at e i) (axis_at b i)
valid_axes_at o e b n p q r v i l =
    (valid_axis_at o n p v.0 i l, (valid_axis_at e n q v.1.0 i l, valid_axis_at b n r v.1.1 i l))

-- what the test of three boxes shows
pub all_valid : (o e b : List (List ℤ)) → (valid_box o && valid_box e) && valid_box b ≡ true → ValidBoxes o e b
all_valid o e b t =
    let p = and_both (valid_box o && valid_box e) (valid_box b) t in
    let q = and_both (valid_box o) (valid_box e) p.0 in
    (q.0, (q.1, p.1))

-- fewer axes of a valid box are valid
pub valid_fewer : (b : List (List ℤ)) (n : ℕ) → n ≤ length b → valid_box (take n b) ≡ true → (m : ℕ) → m ≤ n
    → valid_box (take m b) ≡ true
valid_fewer b n l v m k =
    valid-box-every b m (omega arith)
    ∙ every_holds (λ i. valid_axis (axis_at b i)) m (λ i j. valid_axis_at b n l v i (omega arith))

-- ---- distances
pub dist-sum : (p q : List ℤ) (n : ℕ) → n ≤ length p → n ≤ length q
    → D (take n p) (take n q) ≡ sum (λ i. square (coordinate p i) (coordinate q i)) n
unfolding D sum
dist-sum p q zero l m = refl
dist-sum [] q (suc n) l m = absurd (omega arith)
dist-sum (x ∷ p) [] (suc n) l m = absurd (omega arith)
dist-sum (x ∷ p) (y ∷ q) (suc n) l m = ap (λ z. square x y + z) (dist-sum p q n (omega arith) (omega arith))

pub min-dist-sum : (b : List (List ℤ)) (p : List ℤ) (n : ℕ) → n ≤ length b → n ≤ length p
    → min_dist (take n b) (take n p) ≡ sum (λ i. square (coordinate p i) (closest (axis_at b i) (coordinate p i))) n
unfolding min_dist closest_point D sum
min-dist-sum b p zero l m = refl
min-dist-sum [] p (suc n) l m = absurd (omega arith)
min-dist-sum (s ∷ b) [] (suc n) l m = absurd (omega arith)
min-dist-sum (s ∷ b) (x ∷ p) (suc n) l m =
    ap (λ z. square x (closest s x) + z) (min-dist-sum b p n (omega arith) (omega arith))

pub max-dist-sum : (b : List (List ℤ)) (p : List ℤ) (n : ℕ) → n ≤ length b → n ≤ length p
    → max_dist (take n b) (take n p) ≡ sum (λ i. square (coordinate p i) (farthest (axis_at b i) (coordinate p i))) n
unfolding max_dist farthest_point D sum
max-dist-sum b p zero l m = refl
max-dist-sum [] p (suc n) l m = absurd (omega arith)
max-dist-sum (s ∷ b) [] (suc n) l m = absurd (omega arith)
max-dist-sum (s ∷ b) (x ∷ p) (suc n) l m =
    ap (λ z. square x (farthest s x) + z) (max-dist-sum b p n (omega arith) (omega arith))

-- ---- the margin
pub margin-sum : (o e b : List (List ℤ)) (n : ℕ) → n ≤ length o → n ≤ length e → n ≤ length b
    → margin (take n o) (take n e) (take n b)
    ≡ sumℤ (λ i. gain (axis_at e i) (axis_at b i) (best_end (axis_at o i) (axis_at e i) (axis_at b i))) n
unfolding margin reached reached_from difference gain best_point farthest_point closest_point D sumℤ
margin-sum o e b zero p q r = refl
margin-sum [] e b (suc n) p q r = absurd (omega arith)
margin-sum (o ∷ os) [] b (suc n) p q r = absurd (omega arith)
margin-sum (o ∷ os) (e ∷ es) [] (suc n) p q r = absurd (omega arith)
margin-sum (o ∷ os) (e ∷ es) (b ∷ bs) (suc n) p q r =
    let oz = take n os in
    let ez = take n es in
    let bz = take n bs in
    let x = best_end o e b in
    let xs = best_point oz ez bz in
    let f = square x (farthest e x) in
    let c = square x (closest b x) in
    sym (add-sub f c (D xs (farthest_point ez xs)) (D xs (closest_point bz xs)))
    ∙ ap (λ z. (pos f -ℤ pos c) +ℤ z) (margin-sum os es bs n (omega arith) (omega arith) (omega arith))

-- ---- the points that reach it

-- f 0, .., f (n - 1)
unfoldable pub each : (ℕ → ℤ) → ℕ → List ℤ
each f zero = []
each f (suc n) = f 0 ∷ each (λ i. f (suc i)) n

-- points and margins that agree, by their parts
pub next : {x y : ℤ} {p q : List ℤ} → x ≡ y → p ≡ q → x ∷ p ≡ y ∷ q
next e f = cc

pub same-reached : {m n : ℤ} {o p e f b c : List ℤ} → m ≡ n → o ≡ p → e ≡ f → b ≡ c
    → ◌≡◌ {A = Reached} (record { margin = m; o = o; e = e; b = b }) (record { margin = n; o = p; e = f; b = c })
same-reached h i j k = cc

-- the first n coordinates of a point, by index
pub take-each : (p : List ℤ) (n : ℕ) → n ≤ length p → take n p ≡ each (coordinate p) n
unfolding each
take-each p zero l = refl
take-each [] (suc n) l = absurd (omega arith)
take-each (x ∷ p) (suc n) l = ap (λ z. x ∷ z) (take-each p n (omega arith))

best_each : (o e b : List (List ℤ)) (n : ℕ) → n ≤ length o → n ≤ length e → n ≤ length b
    → best_point (take n o) (take n e) (take n b) ≡ each (λ i. best_end (axis_at o i) (axis_at e i) (axis_at b i)) n
unfolding best_point each
best_each o e b zero p q r = refl
best_each [] e b (suc n) p q r = absurd (omega arith)
best_each (o ∷ os) [] b (suc n) p q r = absurd (omega arith)
best_each (o ∷ os) (e ∷ es) [] (suc n) p q r = absurd (omega arith)
best_each (o ∷ os) (e ∷ es) (b ∷ bs) (suc n) p q r =
    ap (λ z. best_end o e b ∷ z) (best_each os es bs n (omega arith) (omega arith) (omega arith))

farthest-each : (e : List (List ℤ)) (f : ℕ → ℤ) (n : ℕ) → n ≤ length e
    → farthest_point (take n e) (each f n) ≡ each (λ i. farthest (axis_at e i) (f i)) n
unfolding farthest_point each
farthest-each e f zero l = refl
farthest-each [] f (suc n) l = absurd (omega arith)
farthest-each (s ∷ e) f (suc n) l =
    ap (λ z. farthest s (f 0) ∷ z) (farthest-each e (λ i. f (suc i)) n (omega arith))

closest-each : (b : List (List ℤ)) (f : ℕ → ℤ) (n : ℕ) → n ≤ length b
    → closest_point (take n b) (each f n) ≡ each (λ i. closest (axis_at b i) (f i)) n
unfolding closest_point each
closest-each b f zero l = refl
closest-each [] f (suc n) l = absurd (omega arith)
closest-each (s ∷ b) f (suc n) l = ap (λ z. closest s (f 0) ∷ z) (closest-each b (λ i. f (suc i)) n (omega arith))

pub reached-each : (o e b : List (List ℤ)) (n : ℕ) → n ≤ length o → n ≤ length e → n ≤ length b
    → let x : ℕ → ℤ = λ i. best_end (axis_at o i) (axis_at e i) (axis_at b i) in
    reached (take n o) (take n e) (take n b) ≡ record {
      margin = margin (take n o) (take n e) (take n b);
      o = each x n;
      e = each (λ i. farthest (axis_at e i) (x i)) n;
      b = each (λ i. closest (axis_at b i) (x i)) n;
    }
unfolding margin reached reached_from
reached-each o e b n p q r =
    let x : ℕ → ℤ = λ i. best_end (axis_at o i) (axis_at e i) (axis_at b i) in
    rw (best_each o e b n p q r, farthest-each e x n q, closest-each b x n r)
