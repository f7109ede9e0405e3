use Rattle.console.specs.Text.{labelled}
use Rattle.console.proofs.TextLaws.{then}
use Rattle.console.proofs.text.put_labelled.Goals as goal

pub returns : goal.returns
unfolding labelled
returns c =
    then c.put_text-after.ensures c.put_decimal.ensures
