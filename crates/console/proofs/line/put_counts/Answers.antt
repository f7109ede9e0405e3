use Rattle.console.specs.Line.{counts_line}
use Rattle.console.proofs.TextLaws.{then}
use Rattle.console.proofs.line.put_counts.Goals as goal

pub returns-clause-text : goal.returns-clause-text
unfolding counts_line
returns-clause-text c =
    let opened = then c.put_labelled-after_tiles.ensures c.put_labelled-after_opened.ensures in
    then (then opened c.put_labelled-after_pruned.ensures) c.put_text.ensures
