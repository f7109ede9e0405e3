use mathlib.Core.Path.{ap, ◌∙◌}
use Rattle.host.specs.Reports.{level_report}
use Rattle.host.proofs.mixer.nearby_level.Goals as goal

pub returns : goal.returns
returns c =
    c.into.ensures ∙ ap level_report c.level.ensures
