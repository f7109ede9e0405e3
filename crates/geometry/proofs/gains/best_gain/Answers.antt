use mathlib.Core.Path.{◌≡◌, sym, ◌∙◌}
use lib.Signed.{lt_z}
use mir.Facts.{to_z-of_z}
use mir.Syntax.{w64}
use mir.Val.{to_z, of_z}
use borrow.Author.Rules.{sfits_of}
use Rattle.geometry.specs.Box.{lo, hi}
use Rattle.geometry.specs.Margin.{gain}
use Rattle.geometry.proofs.BestEnd.{best_gain}
use Rattle.geometry.proofs.gains.best_gain.Goals as goal
use Rattle.geometry.proofs.gains.best_gain.Goals.{After-struct_told-1}

-- the gains as the code compares them
tested : (c : After-struct_told-1)
    → lt_z (to_z w64 (of_z w64 c.gains_at_ends-g.result.low)) (to_z w64 (of_z w64 c.gains_at_ends-g.result.high))
    ≡ lt_z (gain c.args.e c.args.b (lo c.args.o)) (gain c.args.e c.args.b (hi c.args.o))
tested c =
    let r = c.gains_at_ends-g.result in
    let l : to_z w64 (of_z w64 r.low) ≡ gain c.args.e c.args.b (lo c.args.o) =
    to_z-of_z {w = w64} (sfits_of c.struct_told-1.given.0.1) ∙ c.gains_at_ends-g.ensures.0 in
    let h : to_z w64 (of_z w64 r.high) ≡ gain c.args.e c.args.b (hi c.args.o) =
    to_z-of_z {w = w64} (sfits_of c.struct_told-1.given.1.0.1) ∙ c.gains_at_ends-g.ensures.1 in
    rw (l, h)

pub returns-then-g : goal.returns-then-g
returns-then-g c =
    to_z-of_z {w = w64} (sfits_of c.struct_told-1.given.1.0.1) ∙ c.gains_at_ends-g.ensures.1
    ∙ sym (best_gain c.args.o c.args.e c.args.b
    ∙ rw (sym (tested (goal.at.returns-then-g c).After-struct_told-1) ∙ c.if-g.true))

pub returns-else-g : goal.returns-else-g
returns-else-g c =
    to_z-of_z {w = w64} (sfits_of c.struct_told-1.given.0.1) ∙ c.gains_at_ends-g.ensures.0
    ∙ sym (best_gain c.args.o c.args.e c.args.b
    ∙ rw (sym (tested (goal.at.returns-else-g c).After-struct_told-1) ∙ c.if-g.false))
