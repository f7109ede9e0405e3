use Rattle.console.proofs.LineLaws.{separator_later}
use Rattle.console.proofs.line.put_distance.Goals as goal

pub returns-then-j-eq0-clause-text : goal.returns-then-j-eq0-clause-text
returns-then-j-eq0-clause-text c = rw c.if-j-eq0.true c.put_labelled.ensures

pub returns-clause-text : goal.returns-clause-text
returns-clause-text c = rw (separator_later _ c.if-j-eq0.false) c.put_labelled-2.ensures
