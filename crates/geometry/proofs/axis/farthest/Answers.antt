use mir.Syntax.{w32}
use mathlib.Core.Bool.{true, false}
use mathlib.Core.Path.{◌≡◌, sym, ◌∙◌}
use lib.IntN.{◌-ℤ◌}
use lib.Signed.{lt_z}
use mir.Facts.{to_z-of_z}
use Rattle.geometry.specs.Box.{lo, hi}
use Rattle.geometry.proofs.OneAxis.{Axis, axis, farthest_test}
use Rattle.geometry.proofs.Shift.{Limited, limited}
use Rattle.geometry.proofs.Subtracting.{limited_fits, subtract_fits, subtract_is}
use Rattle.geometry.proofs.axis.farthest.Goals as goal
use Rattle.geometry.proofs.axis.farthest.Goals.{Start}

on-axis : (s : Start) → Axis s.args.s
on-axis s = axis s.args.s s.requires.0

at : (s : Start) → Limited s.args.x
at s = limited s.args.x s.requires.1

pub overflow_sub-x : goal.overflow_sub-x
overflow_sub-x c = subtract_fits (at (goal.at.overflow_sub-x c).Start) (on-axis (goal.at.overflow_sub-x c).Start).low

pub overflow_sub-h : goal.overflow_sub-h
overflow_sub-h c = subtract_fits (on-axis (goal.at.overflow_sub-h c).Start).high (at (goal.at.overflow_sub-h c).Start)

pub returns-then-x-l : goal.returns-then-x-l
returns-then-x-l c =
    let t : lt_z (c.args.x -ℤ lo c.args.s) (hi c.args.s -ℤ c.args.x)
    ≡ true = simp (
      subtract_is (at (goal.at.returns-then-x-l c).Start) (on-axis (goal.at.returns-then-x-l c).Start).low,
      subtract_is (on-axis (goal.at.returns-then-x-l c).Start).high (at (goal.at.returns-then-x-l c).Start),
    ) at
    c.if-x-l.true in
    to_z-of_z {w = w32} (limited_fits (on-axis (goal.at.returns-then-x-l c).Start).high)
    ∙ sym (farthest_test c.args.s c.args.x (on-axis (goal.at.returns-then-x-l c).Start)
    (at (goal.at.returns-then-x-l c).Start) ∙ rw t)

pub returns-else-x-l : goal.returns-else-x-l
returns-else-x-l c =
    let t : lt_z (c.args.x -ℤ lo c.args.s) (hi c.args.s -ℤ c.args.x)
    ≡ false = simp (
      subtract_is (at (goal.at.returns-else-x-l c).Start) (on-axis (goal.at.returns-else-x-l c).Start).low,
      subtract_is (on-axis (goal.at.returns-else-x-l c).Start).high (at (goal.at.returns-else-x-l c).Start),
    ) at
    c.if-x-l.false in
    to_z-of_z {w = w32} (limited_fits (on-axis (goal.at.returns-else-x-l c).Start).low)
    ∙ sym (farthest_test c.args.s c.args.x (on-axis (goal.at.returns-else-x-l c).Start)
    (at (goal.at.returns-else-x-l c).Start) ∙ rw t)
