use mathlib.Core.Path.{ap, ◌∙◌}
use Rattle.host.specs.Reports.{join_report}
use Rattle.host.proofs.files.nearby_join3.Goals as goal

pub returns : goal.returns
returns c =
    let end = c.join3.ensures in
    record {
      answer = c.into.ensures ∙ ap (λ e. join_report e.outcome) end;
      slices = ap (λ e. e.slices) end;
    }
