use mathlib.Core.Bool.{true, false}
use mathlib.Core.Path.{◌≡◌, ◌∙◌}
use lib.IntN.{◌-ℤ◌}
use lib.Signed.{lt_z}
use Rattle.geometry.specs.Box.{lo, hi}
use Rattle.geometry.specs.Distance.{gap, square}
use Rattle.geometry.proofs.OneAxis.{Axis, axis, farthest_test}
use Rattle.geometry.proofs.Shift.{Limited, limited, gap_comm}
use Rattle.geometry.proofs.Subtracting.{subtract_fits, subtract_is}
use Rattle.geometry.proofs.axis.max_square.Goals as goal
use Rattle.geometry.proofs.axis.max_square.Goals.{Start}

on-axis : (s : Start) → Axis s.args.s
on-axis s = axis s.args.s s.requires.0

at : (s : Start) → Limited s.args.x
at s = limited s.args.x s.requires.1

pub overflow_sub-a : goal.overflow_sub-a
overflow_sub-a c = subtract_fits (at (goal.at.overflow_sub-a c).Start) (on-axis (goal.at.overflow_sub-a c).Start).low

pub overflow_sub-b : goal.overflow_sub-b
overflow_sub-b c = subtract_fits (on-axis (goal.at.overflow_sub-b c).Start).high (at (goal.at.overflow_sub-b c).Start)

pub returns-then-a-b : goal.returns-then-a-b
unfolding square gap
returns-then-a-b c =
    let t : lt_z (c.args.x -ℤ lo c.args.s) (hi c.args.s -ℤ c.args.x)
    ≡ true = simp (
      subtract_is (at (goal.at.returns-then-a-b c).Start) (on-axis (goal.at.returns-then-a-b c).Start).low,
      subtract_is (on-axis (goal.at.returns-then-a-b c).Start).high (at (goal.at.returns-then-a-b c).Start),
    ) at c.if-a-b.true in
    c.squared.ensures ∙ rw (
      subtract_is (on-axis (goal.at.returns-then-a-b c).Start).high (at (goal.at.returns-then-a-b c).Start),
      farthest_test c.args.s c.args.x (on-axis (goal.at.returns-then-a-b c).Start)
          (at (goal.at.returns-then-a-b c).Start),
      t,
      gap_comm (hi c.args.s) c.args.x (on-axis (goal.at.returns-then-a-b c).Start).high
          (at (goal.at.returns-then-a-b c).Start),
    )

pub returns-else-a-b : goal.returns-else-a-b
unfolding square gap
returns-else-a-b c =
    let t : lt_z (c.args.x -ℤ lo c.args.s) (hi c.args.s -ℤ c.args.x)
    ≡ false = simp (
      subtract_is (at (goal.at.returns-else-a-b c).Start) (on-axis (goal.at.returns-else-a-b c).Start).low,
      subtract_is (on-axis (goal.at.returns-else-a-b c).Start).high (at (goal.at.returns-else-a-b c).Start),
    ) at c.if-a-b.false in
    c.squared-else-a-b.ensures ∙ rw (
      subtract_is (at (goal.at.returns-else-a-b c).Start) (on-axis (goal.at.returns-else-a-b c).Start).low,
      farthest_test c.args.s c.args.x (on-axis (goal.at.returns-else-a-b c).Start)
          (at (goal.at.returns-else-a-b c).Start),
      t,
    )
