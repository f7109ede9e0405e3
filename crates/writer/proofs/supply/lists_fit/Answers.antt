use Rattle.writer.specs.Write.{lists_fit}
use Rattle.writer.proofs.WriteLaws.{columns_test}
use Rattle.writer.proofs.supply.lists_fit.Goals as goal

pub returns : goal.returns
unfolding lists_fit
returns c =
    let a = c.args in
    rw (
      c.both-3.ensures,
      c.both-2.ensures,
      c.both.ensures,
      columns_test a.axes a.sum a.xs.now a.ys.now a.zs.now c.requires,
    )
