use borrow.Author.Tests.{eq-eqb, ne_eqb}
use Rattle.base.proofs.Tests.{passed, failed}
use Rattle.host.specs.Cab.{block_check, block_tests}
use Rattle.host.proofs.cab.nearby_block_check.Goals as goal

pub returns-then-block-ne-BLOCK_SIZE : goal.returns-then-block-ne-BLOCK_SIZE
unfolding block_check block_tests
returns-then-block-ne-BLOCK_SIZE c = rw (ne_eqb _ _ c.if-block-ne-BLOCK_SIZE.true) c.number.ensures

pub returns-then-block : goal.returns-then-block
unfolding block_check block_tests
returns-then-block c =
    rw (eq-eqb _ _ c.if-block-ne-BLOCK_SIZE.false, ne_eqb _ _ c.if-block.true) c.number-then-block.ensures

pub returns-then-not-agrees : goal.returns-then-not-agrees
unfolding block_check block_tests
returns-then-not-agrees c =
    rw (
      eq-eqb _ _ c.if-block-ne-BLOCK_SIZE.false,
      eq-eqb _ _ c.if-block.false,
      failed c.agrees.ensures c.if-not-agrees.true,
    ) c.number-then-not-agrees.ensures

pub returns : goal.returns
unfolding block_check block_tests
returns c =
    rw (
      eq-eqb _ _ c.if-block-ne-BLOCK_SIZE.false,
      eq-eqb _ _ c.if-block.false,
      passed c.agrees.ensures c.if-not-agrees.false,
    )
