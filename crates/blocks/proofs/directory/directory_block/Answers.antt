use mathlib.Core.Path.{◌≡◌, sym, ap, ◌∙◌}
use Rattle.blocks.specs.Layout.{directory_kind}
use Rattle.blocks.proofs.BlockLaws.{axes_of_kind, start_kind}
use Rattle.blocks.proofs.directory.directory_block.Goals as goal
use Rattle.blocks.proofs.directory.directory_block.Goals.{After-header_in-h}

-- the block's axes, by its kind, are block 0's
axes : (c : After-header_in-h) → c.header_in-h.result.axes ≡ c.args.first.axes
axes c =
    let a = c.args.first.axes in
    let start = sym (rw c.directory_kind.ensures at (c.in_default.ensures c.args.p)) in
    ap (λ h. h.axes) c.header_in-h.ensures.0
    ∙ axes_of_kind a c.args.s.now c.requires.2 (start_kind (directory_kind a) c.args.s.now c.args.p start)

pub directory_padding-requires : goal.directory_padding-requires
directory_padding-requires c = (
  c.requires.2,
  rw (axes (goal.at.directory_padding-requires c).After-header_in-h) at c.entries_due-due.ensures.1,
  c.requires.0,
)

pub entries_valid-requires : goal.entries_valid-requires
entries_valid-requires c = (
  c.requires.2,
  rw (axes (goal.at.entries_valid-requires c).After-header_in-h) at c.entries_due-due.ensures.1,
  c.requires.0,
)
