use mathlib.Core.Bool.{true}
use mathlib.Core.Path.{◌≡◌, ◌∙◌}
use native.Mathlib.Omega.{arith}
use lib.IntN.{pos, ◌-ℤ◌}
use mir.Facts.{to_z-of_z}
use mir.Syntax.{w32, w64}
use mir.Val.{to_z, of_z}
use borrow.Author.Rules.{sfits_of}
use Rattle.geometry.specs.Box.{lo, hi, within_limits}
use Rattle.geometry.proofs.OneAxis.{Axis, axis, low_on, high_on, valid_on}
use Rattle.geometry.proofs.Subtracting.{limited_fits}
use Rattle.geometry.specs.Margin.{gain}
use Rattle.geometry.proofs.BestEnd.{far_on, near_on, square_bounds}
use Rattle.geometry.proofs.gains.gains_at_ends.Goals as goal
use Rattle.geometry.proofs.gains.gains_at_ends.Goals.{After-min_square, After-min_square-2, Start}

-- the ends of O, within the limits
over : (s : Start) → Axis s.args.o
over s = axis s.args.o s.requires.0

-- and as the code passes them on
low : (s : Start) → within_limits (to_z w32 (of_z w32 (lo s.args.o))) ≡ true
low s = rw (to_z-of_z {w = w32} (limited_fits (over s).low)) (valid_on s.requires.0 (low_on (over s)))

high : (s : Start) → within_limits (to_z w32 (of_z w32 (hi s.args.o))) ≡ true
high s = rw (to_z-of_z {w = w32} (limited_fits (over s).high)) (valid_on s.requires.0 (high_on (over s)))

squares-low : (c : After-min_square) → (c.max_square.result ≡ far_on c.args.e (lo c.args.o))
    × (c.min_square.result ≡ near_on c.args.b (lo c.args.o))
squares-low c =
    let fits = limited_fits (axis c.args.o c.requires.0).low in
    (simp (to_z-of_z {w = w32} fits) at c.max_square.ensures, simp (to_z-of_z {w = w32} fits) at c.min_square.ensures)

squares-high : (c : After-min_square-2) → (c.max_square-2.result ≡ far_on c.args.e (hi c.args.o))
    × (c.min_square-2.result ≡ near_on c.args.b (hi c.args.o))
squares-high c =
    let fits = limited_fits (axis c.args.o c.requires.0).high in (
      simp (to_z-of_z {w = w32} fits) at c.max_square-2.ensures,
      simp (to_z-of_z {w = w32} fits) at c.min_square-2.ensures,
    )

-- the squares from the low end
pub max_square-requires : goal.max_square-requires
max_square-requires c
    = (c.requires.1.0, search (low (goal.at.max_square-requires c).Start, high (goal.at.max_square-requires c).Start))

pub min_square-requires : goal.min_square-requires
min_square-requires c
    = (c.requires.1.1, search (low (goal.at.min_square-requires c).Start, high (goal.at.min_square-requires c).Start))

pub difference-low-requires : goal.difference-low-requires
difference-low-requires c =
    let o = c.args.o in
    let b = square_bounds o c.args.e c.args.b c.requires (lo o) (low_on (axis o c.requires.0)) in
    let q = squares-low c in
    omega arith

-- the squares from the high end
pub max_square-requires-2 : goal.max_square-requires-2
max_square-requires-2 c
    = (
      c.requires.1.0,
      search (low (goal.at.max_square-requires-2 c).Start, high (goal.at.max_square-requires-2 c).Start),
    )

pub min_square-requires-2 : goal.min_square-requires-2
min_square-requires-2 c
    = (
      c.requires.1.1,
      search (low (goal.at.min_square-requires-2 c).Start, high (goal.at.min_square-requires-2 c).Start),
    )

pub difference-high-requires : goal.difference-high-requires
difference-high-requires c =
    let o = c.args.o in
    let b = square_bounds o c.args.e c.args.b c.requires (hi o) (high_on (axis o c.requires.0)) in
    let q = squares-high c in
    omega arith

pub returns : goal.returns
unfolding gain
returns c =
    let l = squares-low (goal.at.returns c).After-min_square in
    let h = squares-high (goal.at.returns c).After-min_square-2 in
    let low-gain : c.difference-low.result ≡ pos c.max_square.result -ℤ pos c.min_square.result =
    c.difference-low.ensures in
    let high-gain : c.difference-high.result ≡ pos c.max_square-2.result -ℤ pos c.min_square-2.result =
    c.difference-high.ensures in (
      to_z-of_z {w = w64} (sfits_of c.difference-low.type_inv) ∙ low-gain ∙ cc (l.0, l.1),
      to_z-of_z {w = w64} (sfits_of c.difference-high.type_inv) ∙ high-gain ∙ cc (h.0, h.1),
    )
