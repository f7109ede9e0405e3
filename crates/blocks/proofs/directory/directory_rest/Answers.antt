use mathlib.Core.Path.{sym, ◌∙◌}
use borrow.Author.Rules.{rules}
use Rattle.base.proofs.InTurn.{turn_refused, turn_accepted, turn_end}
use Rattle.base.proofs.Passing.{passed_on}
use Rattle.blocks.specs.Directory.{directory_block_at, directory_rest}
use Rattle.blocks.proofs.directory.directory_rest.Goals as goal

pub returns-in_err-directory_block_at : goal.returns-in_err-directory_block_at
unfolding directory_rest
returns-in_err-directory_block_at c =
    passed_on c.from_residual.result _ c.from_residual.ensures
    ∙ sym (rw (sym c.loop-p.invariant
    ∙ turn_refused (directory_block_at c.args.f.now) c.loop-p.p c.directory_blocks-d.result _ _ (search rules)
    (sym c.in_err-directory_block_at.ensures)))

pub loop-p-preserved : goal.loop-p-preserved
loop-p-preserved c =
    turn_accepted (directory_block_at c.args.f.now) c.loop-p.p c.directory_blocks-d.result _ (search rules)
    (sym c.in_ok-directory_block_at.ensures) ∙ c.loop-p.invariant

pub returns : goal.returns
unfolding directory_rest
returns c =
    sym (rw (sym c.loop-p.invariant
    ∙ turn_end (directory_block_at c.args.f.now) c.loop-p.p c.directory_blocks-d.result (search rules)))
