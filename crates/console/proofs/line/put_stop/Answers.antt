use Rattle.console.specs.Line.{stop_line}
use Rattle.console.proofs.TextLaws.{then}
use Rattle.console.proofs.line.put_stop.Goals as goal

pub returns-clause-text : goal.returns-clause-text
unfolding stop_line
returns-clause-text c =
    let colon = then c.put_labelled-after_number.ensures c.put_text-after_colon.ensures in
    then (then colon c.put_places-after_places.ensures.text) c.put_text.ensures
