use Rattle.console.specs.Line.{place_text}
use Rattle.console.proofs.TextLaws.{then}
use Rattle.console.proofs.line.put_place.Goals as goal

pub returns-clause-text : goal.returns-clause-text
unfolding place_text
returns-clause-text c =
    then (then c.put_distance-after_dist.ensures.text c.put_labelled-after_site.ensures) c.put_labelled.ensures
