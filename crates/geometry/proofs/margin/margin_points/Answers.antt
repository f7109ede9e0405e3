use Prim.Native.Nat.{ℕ, ◌<◌, ◌≤◌}
use mathlib.Core.Path.{◌≡◌, refl, sym, ◌∙◌}
use native.Mathlib.Omega.{arith}
use lib.IntN.{ℤ}
use lib.ListN.{length}
use mir.Facts.{to_z-of_z}
use mir.Syntax.{Width, w32, w64}
use mir.Val.{SFits, to_z, of_z}
use borrow.Author.Rules.{sfits_of, rules}
use Rattle.geometry.specs.Axes.{axis_at}
use Rattle.geometry.specs.Calls.{reached_in}
use Rattle.geometry.proofs.BestEnd.{Valid}
use Rattle.geometry.proofs.ByAxis.{valid_axes_at, each, next, same-reached, reached-each}
use Rattle.geometry.proofs.margin.margin_points.Goals as goal
use Rattle.geometry.proofs.margin.margin_points.Goals.{Else-axes-eq-HEIGHT, Start}

-- the three boxes on an axis
valid : (s : Start) (i : ℕ) → i < s.args.axes
    → Valid (axis_at s.args.o i) (axis_at s.args.e i) (axis_at s.args.b i)
valid s i l =
    valid_axes_at s.args.o s.args.e s.args.b s.args.axes (omega arith) (omega arith) (omega arith)
    s.requires.1 i l

-- a number that is passed on
kept : {w : Width} {x y : ℤ} → SFits w x → x ≡ y → to_z w (of_z w x) ≡ y
kept f e = to_z-of_z f ∙ e

axes-of : (s : Start)
    → (3 ≤ length s.args.o) × ((3 ≤ length s.args.e) × (3 ≤ length s.args.b))
axes-of s = (omega arith, (omega arith, omega arith))

on_plan : (c : Else-axes-eq-HEIGHT) → c.args.axes ≡ 2
on_plan c = omega arith

pub best_ends-x-requires : goal.best_ends-x-requires
best_ends-x-requires c = valid (goal.at.best_ends-x-requires c).Start 0 (omega arith)

pub best_ends-y-requires : goal.best_ends-y-requires
best_ends-y-requires c = valid (goal.at.best_ends-y-requires c).Start 1 (omega arith)

pub best_ends-z-requires : goal.best_ends-z-requires
best_ends-z-requires c = valid (goal.at.best_ends-z-requires c).Start 2 (omega arith)

pub returns-then-axes-eq-HEIGHT : goal.returns-then-axes-eq-HEIGHT
unfolding reached_in each
returns-then-axes-eq-HEIGHT c =
    let l = axes-of (goal.at.returns-then-axes-eq-HEIGHT c).Start in
    let h : c.args.axes ≡ 3 = c.if-axes-eq-HEIGHT.true in
    rw h
    (same-reached
    (kept {w = w64} (sfits_of c.margin_within-margin.type_inv) (rw h at c.margin_within-margin.ensures))
    (next (kept {w = w32} (search rules) c.best_ends-x.ensures.o)
    (next (kept {w = w32} (search rules) c.best_ends-y.ensures.o)
    (next (kept {w = w32} (search rules) c.best_ends-z.ensures.o) refl)))
    (next (kept {w = w32} (search rules) c.best_ends-x.ensures.e)
    (next (kept {w = w32} (search rules) c.best_ends-y.ensures.e)
    (next (kept {w = w32} (search rules) c.best_ends-z.ensures.e) refl)))
    (next (kept {w = w32} (search rules) c.best_ends-x.ensures.b)
    (next (kept {w = w32} (search rules) c.best_ends-y.ensures.b)
    (next (kept {w = w32} (search rules) c.best_ends-z.ensures.b) refl)))
    ∙ sym (reached-each c.args.o c.args.e c.args.b 3 (omega arith) (omega arith) (omega arith)))

pub returns-else-axes-eq-HEIGHT : goal.returns-else-axes-eq-HEIGHT
unfolding reached_in each
returns-else-axes-eq-HEIGHT c =
    let l = axes-of (goal.at.returns-else-axes-eq-HEIGHT c).Start in
    let h : c.args.axes ≡ 2 = on_plan (goal.at.returns-else-axes-eq-HEIGHT c).Else-axes-eq-HEIGHT in
    rw h
    (same-reached
    (kept {w = w64} (sfits_of c.margin_within-margin.type_inv) (rw h at c.margin_within-margin.ensures))
    (next (kept {w = w32} (search rules) c.best_ends-x.ensures.o)
    (next (kept {w = w32} (search rules) c.best_ends-y.ensures.o) refl))
    (next (kept {w = w32} (search rules) c.best_ends-x.ensures.e)
    (next (kept {w = w32} (search rules) c.best_ends-y.ensures.e) refl))
    (next (kept {w = w32} (search rules) c.best_ends-x.ensures.b)
    (next (kept {w = w32} (search rules) c.best_ends-y.ensures.b) refl))
    ∙ sym (reached-each c.args.o c.args.e c.args.b 2 (omega arith) (omega arith) (omega arith)))
