use Rattle.console.specs.Line.{refused_line}
use Rattle.console.proofs.TextLaws.{then}
use Rattle.console.proofs.line.put_refused.Goals as goal

pub returns-clause-text : goal.returns-clause-text
unfolding refused_line
returns-clause-text c =
    then (then c.put_labelled-after_number.ensures c.put_labelled-after_block.ensures) c.put_text.ensures
