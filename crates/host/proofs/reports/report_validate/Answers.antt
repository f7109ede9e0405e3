use mathlib.Core.Path.{sym, ap}
use native.Mathlib.Omega.{arith}
use Rattle.base.specs.Answer.{outcome_of}
use Rattle.host.specs.Reports.{validate_report}
use Rattle.host.proofs.reports.report_validate.Goals as goal

pub overflow_cast-result : goal.overflow_cast-result
overflow_cast-result c =
    omega (arith, (c.requires _ (ap outcome_of c.in-Ok.is)).0)

pub overflow_cast-result-in-Ok : goal.overflow_cast-result-in-Ok
overflow_cast-result-in-Ok c =
    omega (arith, (c.requires _ (ap outcome_of c.in-Ok.is)).1.1)

pub returns-in-Ok : goal.returns-in-Ok
returns-in-Ok c =
    ap (λ r. validate_report (outcome_of r)) (sym c.in-Ok.is)

pub returns-in-Err : goal.returns-in-Err
returns-in-Err c = rw (c.number.ensures, c.in-Err.is)
