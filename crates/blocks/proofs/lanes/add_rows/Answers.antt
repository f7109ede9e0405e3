use Prim.Native.Nat.{◌+◌, ◌*◌}
use mathlib.Core.Path.{◌≡◌, ◌∙◌}
use native.Mathlib.Omega.{arith}
use borrow.Author.Rules.{rules}
use Rattle.blocks.specs.Inner.Lanes.{lanes}
use Rattle.blocks.proofs.ChecksumLaws.{within_next}
use Rattle.blocks.proofs.LaneLaws.{row_added}
use Rattle.blocks.proofs.lanes.add_rows.Goals as goal

pub loop-row-preserved : goal.loop-row-preserved
loop-row-preserved c =
    let bytes = c.args.s.now in
    let at = c.args.i + lanes * c.loop-row.row in
    let next : c.args.i + lanes * (c.loop-row.row + 1) ≡ at + lanes = omega arith in (
      λ j h. rw ((c.add_row-l.ensures j h).0, (c.add_row-l.ensures j h).1)
          (within_next (omega (arith, c.type_inv.s (at + j))) (c.loop-row.invariant.0 j h)),
      rw next (row_added c.loop-row.l c.add_row-l.result bytes at (omega arith) (search rules) c.add_row-l.ensures)
          ∙ c.loop-row.invariant.1,
    )
