use mathlib.Core.Bool.{◌&&◌}
use mathlib.Core.Path.{◌≡◌, ap, ◌∙◌}
use borrow.Author.Rules.{rules}
use Rattle.base.specs.Refusal.{accepted}
use Rattle.base.proofs.Tests.{passed, failed}
use Rattle.geometry.specs.Box.{valid_box}
use Rattle.geometry.specs.Calls.{margin_call}
use Rattle.geometry.proofs.ByAxis.{all_valid}
use Rattle.geometry.proofs.margin.margin.Given.{Over}
use Rattle.geometry.proofs.margin.margin.Goals as goal
use Rattle.geometry.proofs.margin.margin.Goals.{After-valid_boxes}

-- the test of the padded boxes is that of the boxes
tested : (g : Over) (c : After-valid_boxes g)
    → c.valid_boxes.result ≡ (valid_box c.args.o && valid_box c.args.e) && valid_box c.args.b
tested g c =
    rw (c.pad_box-po.ensures, c.pad_box-pe.ensures, c.pad_box-pb.ensures) at c.valid_boxes.ensures

pub returns-then-not-valid_boxes : goal.returns-then-not-valid_boxes
unfolding margin_call
returns-then-not-valid_boxes g c =
    let t = tested g (goal.at.returns-then-not-valid_boxes g c).After-valid_boxes in
    rw (c.at.ensures.reason, c.at.ensures.block, failed t c.if-not-valid_boxes.true)

pub margin_points-requires : goal.margin_points-requires
margin_points-requires g c = (search rules, all_valid _ _ _ (passed c.valid_boxes.ensures c.if-not-valid_boxes.false))

pub returns : goal.returns
unfolding margin_call
returns g c =
    rw (passed (tested g (goal.at.returns g c).After-valid_boxes) c.if-not-valid_boxes.false)
    (ap accepted
    (c.shown.ensures
    ∙ (rw (c.pad_box-po.ensures, c.pad_box-pe.ensures, c.pad_box-pb.ensures) at c.margin_points.ensures)))
