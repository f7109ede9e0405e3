use mathlib.Core.Path.{ap, ◌∙◌}
use Rattle.base.specs.Refusal.{accepted}
use Rattle.base.proofs.Passing.{passed_at_0, refused_before, accepted_before}
use Rattle.geometry.specs.Calls.{max_dist_call}
use Rattle.geometry.proofs.distance.max_dist.Goals as goal

pub returns-in_err-tests : goal.returns-in_err-tests
unfolding max_dist_call
returns-in_err-tests g c =
    passed_at_0 c.from_residual.result _ c.from_residual.ensures
    ∙ refused_before _ (rw (c.pad_box-bounds.ensures, c.pad_point-point.ensures) at c.in_err-tests.ensures)

pub returns : goal.returns
unfolding max_dist_call
returns g c =
    ap accepted (rw (c.pad_box-bounds.ensures, c.pad_point-point.ensures) at c.max_dist_within.ensures)
    ∙ accepted_before _ (rw (c.pad_box-bounds.ensures, c.pad_point-point.ensures) at c.in_ok-tests.ensures)
