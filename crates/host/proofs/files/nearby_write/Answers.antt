use mathlib.Core.Path.{ap, ◌∙◌}
use Rattle.host.specs.Reports.{write_report}
use Rattle.host.proofs.files.nearby_write.Goals as goal

pub returns : goal.returns
returns c =
    let end = c.write.ensures in
    record { answer = c.into.ensures ∙ ap write_report end.answer; output = end.output }
