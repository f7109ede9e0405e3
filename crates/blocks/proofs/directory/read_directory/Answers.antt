use mathlib.Core.Bool.{true}
use mathlib.Core.Path.{◌≡◌, sym, ap, ◌∙◌}
use native.Mathlib.Omega.{arith}
use lib.ListN.{length}
use borrow.Author.Rules.{rules}
use Rattle.base.proofs.Tests.{passed}
use Rattle.blocks.specs.Block.{block_at, header_in}
use Rattle.blocks.specs.Directory.{length_due, directory}
use Rattle.blocks.proofs.DirectoryLaws.{length_good, first_block}
use Rattle.blocks.proofs.directory.read_directory.Goals as goal
use Rattle.blocks.proofs.directory.read_directory.Goals.{After-header_in-h, Else-not-length_due}

-- the length has passed
due : (c : Else-not-length_due) →
    length_due (length c.args.f.now) ≡ true
due c = passed c.length_due.ensures c.if-not-length_due.false

-- the header as it was read from block 0
header : (c : After-header_in-h) →
    c.header_in-h.result ≡ header_in (block_at c.args.f.now 0)
header c =
    c.header_in-h.ensures.0 ∙ ap (λ s. header_in s) c.block_at.ensures.0

pub block_at-requires : goal.block_at-requires
block_at-requires c = omega (arith, length_good _ (due c))

pub directory_block_at-requires : goal.directory_block_at-requires
directory_block_at-requires c =
    let l = due (goal.at.directory_block_at-requires c).Else-not-length_due in
    (omega (arith, length_good _ l), search rules, header c)

pub directory_rest-requires : goal.directory_rest-requires
directory_rest-requires c =
    let h = header (goal.at.directory_rest-requires c).After-header_in-h in
    let k = first_block _ _ (sym c.in_ok-directory_block_at.ensures) h in
    (k.1, k.2, k.3, h)

pub returns : goal.returns
unfolding directory
returns c =
    let first = sym c.in_ok-directory_block_at.ensures in
    c.directory_rest.ensures
    ∙ sym (rw (
      due (goal.at.returns c).Else-not-length_due,
      first,
      (first_block _ _ first (header (goal.at.returns c).After-header_in-h)).0,
    ))
