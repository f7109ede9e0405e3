use mathlib.Core.Path.{sym, ◌∙◌}
use borrow.Author.Rules.{rules}
use Rattle.base.proofs.InTurn.{turn_refused, turn_accepted, turn_end}
use Rattle.base.proofs.Passing.{passed_on}
use Rattle.tiles.specs.Tile.{open_tile}
use Rattle.tiles.specs.Validate.{open_all}
use Rattle.tiles.proofs.validate.open_all.Goals as goal

pub returns-in_err-open_tile : goal.returns-in_err-open_tile
unfolding open_all
returns-in_err-open_tile c =
    passed_on c.from_residual.result _ c.from_residual.ensures
    ∙ sym (rw (sym c.loop-t.invariant
    ∙ turn_refused (open_tile c.args.f.now c.args.h) c.loop-t.t c.args.h.tiles _ _ (search rules)
    (sym c.in_err-open_tile.ensures)))

pub loop-t-preserved : goal.loop-t-preserved
loop-t-preserved c =
    turn_accepted (open_tile c.args.f.now c.args.h) c.loop-t.t c.args.h.tiles _ (search rules)
    (sym c.in_ok-open_tile.ensures) ∙ c.loop-t.invariant

pub returns : goal.returns
unfolding open_all
returns c =
    sym (rw (sym c.loop-t.invariant
    ∙ turn_end (open_tile c.args.f.now c.args.h) c.loop-t.t c.args.h.tiles (search rules)))
