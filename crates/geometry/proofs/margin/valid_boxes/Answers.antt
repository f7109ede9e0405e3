use Rattle.base.proofs.Tests.{passed, failed}
use Rattle.geometry.proofs.margin.valid_boxes.Goals as goal

pub returns-then-not-valid_box : goal.returns-then-not-valid_box
returns-then-not-valid_box c = rw (failed c.valid_box.ensures c.if-not-valid_box.true)

pub returns-then-not-valid_box-2 : goal.returns-then-not-valid_box-2
returns-then-not-valid_box-2 c =
    rw (
      passed c.valid_box.ensures c.if-not-valid_box.false,
      failed c.valid_box-2.ensures c.if-not-valid_box-2.true,
    )

pub returns : goal.returns
returns c =
    rw (
      passed c.valid_box.ensures c.if-not-valid_box.false,
      passed c.valid_box-2.ensures c.if-not-valid_box-2.false,
    ) c.valid_box-3.ensures
