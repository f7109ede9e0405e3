use Prim.Native.Nat.{ℕ, ◌≤◌, ◌<◌}
use mathlib.Core.Path.{◌≡◌, sym, ap, ◌∙◌}
use native.Mathlib.Omega.{arith}
use lib.IntN.{ℤ, ◌+ℤ◌, +ℤ_assoc}
use lib.ListN.{length, take}
use lib.Seq.{length-take-le}
use mir.Facts.{to_z-of_z}
use mir.Syntax.{w64}
use mir.Val.{SFits, to_z, of_z}
use borrow.Author.Rules.{sfits_of}
use Rattle.geometry.specs.Axes.{axis_at, sumℤ}
use Rattle.geometry.specs.Margin.{gain, best_end, margin}
use Rattle.geometry.proofs.BestEnd.{Valid}
use Rattle.geometry.proofs.ByAxis.{valid_axes_at, valid_fewer, margin-sum}
use Rattle.geometry.proofs.Shift.{mag_abs, add_none}
use Rattle.geometry.proofs.Theorems.{margin_bound}
use Rattle.geometry.proofs.margin.margin_within.Goals as goal
use Rattle.geometry.proofs.margin.margin_within.Goals.{Start}

-- the three boxes on an axis
valid : (s : Start) (i : ℕ) → i < s.args.axes
    → Valid (axis_at s.args.o i) (axis_at s.args.e i) (axis_at s.args.b i)
valid s i l =
    valid_axes_at s.args.o s.args.e s.args.b s.args.axes (omega arith) (omega arith) (omega arith)
    s.requires.1 i l

-- the margin of the first n axes, which is small
abbrev margin_of : Start → ℕ → ℤ
margin_of s n = margin (take n s.args.o) (take n s.args.e) (take n s.args.b)

fits : (s : Start) (n : ℕ) → n ≤ s.args.axes → SFits w64 (margin_of s n)
fits s n l =
    let o = s.args.o in
    let e = s.args.e in
    let b = s.args.b in
    let v = s.requires.1 in
    let lo : length (take n o) ≡ n = length-take-le n o (omega arith) in
    let le : length (take n e) ≡ n = length-take-le n e (omega arith) in
    let lb : length (take n b) ≡ n = length-take-le n b (omega arith) in
    let small = margin_bound (take n o) (take n e) (take n b)
    (valid_fewer o s.args.axes (omega arith) v.0 n l)
    (valid_fewer e s.args.axes (omega arith) v.1.0 n l)
    (valid_fewer b s.args.axes (omega arith) v.1.1 n l)
    (le ∙ sym lo) (lb ∙ sym lo) in
    record { sfits = omega (arith, mag_abs (margin_of s n)) }

-- the sum over them
abbrev gain-at : Start → ℕ → ℤ
gain-at s i =
    let o = axis_at s.args.o i in
    let e = axis_at s.args.e i in
    let b = axis_at s.args.b i in
    gain e b (best_end o e b)

total : (s : Start) (n : ℕ) → n ≤ s.args.axes → margin_of s n ≡ sumℤ (gain-at s) n
total s n l = margin-sum s.args.o s.args.e s.args.b n (omega arith) (omega arith) (omega arith)

-- the gains of two axes, as the code adds them
module _ (s : Start) (x y : ℤ) (fx : SFits w64 x) (fy : SFits w64 y) (ex : x ≡ gain-at s 0) (ey : y ≡ gain-at s 1) where
  plan : 2 ≤ s.args.axes → to_z w64 (of_z w64 x) +ℤ to_z w64 (of_z w64 y) ≡ margin_of s 2
  unfolding sumℤ
  plan l =
      rw (to_z-of_z {w = w64} fx, to_z-of_z {w = w64} fy, ex, ey)
      (sym (total s 2 l ∙ ap (λ z. gain-at s 0 +ℤ z) (add_none (gain-at s 1))))

  -- .. and of the third
  with-height : (z : ℤ) → SFits w64 z → z ≡ gain-at s 2 → 3 ≤ s.args.axes
      → to_z w64 (of_z w64 (to_z w64 (of_z w64 x) +ℤ to_z w64 (of_z w64 y))) +ℤ to_z w64 (of_z w64 z) ≡ margin_of s 3
  unfolding sumℤ
  with-height z fz ez l =
      let g = gain-at s in
      rw (plan (omega arith), to_z-of_z {w = w64} (fits s 2 (omega arith)), to_z-of_z {w = w64} fz, ez)
      (ap (λ k. k +ℤ g 2) (total s 2 (omega arith) ∙ ap (λ k. g 0 +ℤ k) (add_none (g 1)))
      ∙ +ℤ_assoc (g 0) (g 1) (g 2)
      ∙ sym (total s 3 l ∙ ap (λ k. g 0 +ℤ (g 1 +ℤ k)) (add_none (g 2))))

pub best_gain-requires : goal.best_gain-requires
best_gain-requires c = valid (goal.at.best_gain-requires c).Start 0 (omega arith)

pub best_gain-requires-2 : goal.best_gain-requires-2
best_gain-requires-2 c = valid (goal.at.best_gain-requires-2 c).Start 1 (omega arith)

pub overflow_add-plan : goal.overflow_add-plan
overflow_add-plan c =
    let s = (goal.at.overflow_add-plan c).Start in
    rw (plan s _ _ (sfits_of c.best_gain.type_inv) (sfits_of c.best_gain-2.type_inv) c.best_gain.ensures
    c.best_gain-2.ensures (omega arith))
    (fits s 2 (omega arith))

pub best_gain-requires-then-axes-eq-HEIGHT : goal.best_gain-requires-then-axes-eq-HEIGHT
best_gain-requires-then-axes-eq-HEIGHT c =
    valid (goal.at.best_gain-requires-then-axes-eq-HEIGHT c).Start 2 (omega arith)

pub overflow_add-result : goal.overflow_add-result
overflow_add-result c =
    let s = (goal.at.overflow_add-result c).Start in
    let h = c.best_gain-then-axes-eq-HEIGHT in
    rw (with-height s _ _ (sfits_of c.best_gain.type_inv) (sfits_of c.best_gain-2.type_inv) c.best_gain.ensures
    c.best_gain-2.ensures _ (sfits_of h.type_inv) h.ensures (omega arith))
    (fits s 3 (omega arith))

pub returns-then-axes-eq-HEIGHT : goal.returns-then-axes-eq-HEIGHT
returns-then-axes-eq-HEIGHT c =
    let s = (goal.at.returns-then-axes-eq-HEIGHT c).Start in
    let h = c.best_gain-then-axes-eq-HEIGHT in
    let e : c.args.axes ≡ 3 = c.if-axes-eq-HEIGHT.true in
    let t = with-height s _ _ (sfits_of c.best_gain.type_inv) (sfits_of c.best_gain-2.type_inv) c.best_gain.ensures
    c.best_gain-2.ensures _ (sfits_of h.type_inv) h.ensures (omega arith) in
    rw e (to_z-of_z {w = w64} (rw t (fits s 3 (omega arith))) ∙ t)

pub returns-else-axes-eq-HEIGHT : goal.returns-else-axes-eq-HEIGHT
returns-else-axes-eq-HEIGHT c =
    let s = (goal.at.returns-else-axes-eq-HEIGHT c).Start in
    let e : c.args.axes ≡ 2 = omega arith in
    let t = plan s _ _ (sfits_of c.best_gain.type_inv) (sfits_of c.best_gain-2.type_inv) c.best_gain.ensures
    c.best_gain-2.ensures (omega arith) in
    rw e (to_z-of_z {w = w64} (rw t (fits s 2 (omega arith))) ∙ t)
