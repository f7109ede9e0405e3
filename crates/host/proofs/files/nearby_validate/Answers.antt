use mathlib.Core.Path.{sym, ap, ◌∙◌}
use Rattle.tiles.proofs.Theorems.{validate_exactly}
use Rattle.host.specs.Reports.{validate_report}
use Rattle.host.proofs.files.nearby_validate.Goals as goal

pub report_validate-requires : goal.report_validate-requires
report_validate-requires c =
    λ h e.
    let g = ((validate_exactly c.args.file.now h).0 (sym c.validate.ensures ∙ e)).directory in
    (g.tiles.most, g.axes)

pub returns : goal.returns
returns c = c.report_validate.ensures ∙ ap validate_report c.validate.ensures
