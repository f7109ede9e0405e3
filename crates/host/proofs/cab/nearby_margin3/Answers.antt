use mir.Syntax.{w32}
use mathlib.Core.Path.{◌≡◌, ◌∙◌}
use mir.Facts.{to_z-of_z}
use mir.Syntax.{w64}
use mir.Val.{SFits}
use borrow.Author.Rules.{sfits_of, rules}
use Rattle.base.proofs.Tests.{and_both, passed, failed}
use Rattle.host.specs.Cab.{box_from3}
use Rattle.host.proofs.MarginLaws.{bad_number, good_number}
use Rattle.host.proofs.cab.nearby_margin3.Goals as goal
use Rattle.host.proofs.cab.nearby_margin3.Goals.{After-box3_of-b, After-box3_of-e, After-box3_of-o}

-- the boxes that are measured are those of the arguments
box-o : (c : After-box3_of-o) →
    c.box3_of-o.result
    ≡ box_from3 c.args.ox0 c.args.ox1 c.args.oy0 c.args.oy1 c.args.oz0 c.args.oz1
box-o c =
    let a = c.ranges in
    simp (
      to_z-of_z {w = w32} a.ox0,
      to_z-of_z {w = w32} a.ox1,
      to_z-of_z {w = w32} a.oy0,
      to_z-of_z {w = w32} a.oy1,
      to_z-of_z {w = w32} a.oz0,
      to_z-of_z {w = w32} a.oz1,
    ) at c.box3_of-o.ensures

box-e : (c : After-box3_of-e) →
    c.box3_of-e.result
    ≡ box_from3 c.args.ex0 c.args.ex1 c.args.ey0 c.args.ey1 c.args.ez0 c.args.ez1
box-e c =
    let a = c.ranges in
    simp (
      to_z-of_z {w = w32} a.ex0,
      to_z-of_z {w = w32} a.ex1,
      to_z-of_z {w = w32} a.ey0,
      to_z-of_z {w = w32} a.ey1,
      to_z-of_z {w = w32} a.ez0,
      to_z-of_z {w = w32} a.ez1,
    ) at c.box3_of-e.ensures

box-b : (c : After-box3_of-b) →
    c.box3_of-b.result
    ≡ box_from3 c.args.bx0 c.args.bx1 c.args.by0 c.args.by1 c.args.bz0 c.args.bz1
box-b c =
    let a = c.ranges in
    simp (
      to_z-of_z {w = w32} a.bx0,
      to_z-of_z {w = w32} a.bx1,
      to_z-of_z {w = w32} a.by0,
      to_z-of_z {w = w32} a.by1,
      to_z-of_z {w = w32} a.bz0,
      to_z-of_z {w = w32} a.bz1,
    ) at c.box3_of-b.ensures

pub returns-then-not-valid_boxes : goal.returns-then-not-valid_boxes
returns-then-not-valid_boxes c =
    bad_number _ _ _ (failed c.valid_boxes.ensures c.if-not-valid_boxes.true)
    ∙ rw (
      box-o (goal.at.returns-then-not-valid_boxes c).After-box3_of-o,
      box-e (goal.at.returns-then-not-valid_boxes c).After-box3_of-e,
      box-b (goal.at.returns-then-not-valid_boxes c).After-box3_of-b,
    )

pub margin_within-requires : goal.margin_within-requires
margin_within-requires c =
    let p = and_both _ _ (passed c.valid_boxes.ensures c.if-not-valid_boxes.false) in
    let q = and_both _ _ p.0 in
    (search rules, (q.0, (q.1, p.1)))

pub returns : goal.returns
returns c =
    let fits : SFits w64 c.margin_within.result = sfits_of c.margin_within.type_inv in
    to_z-of_z {w = w64} fits ∙ c.margin_within.ensures
    ∙ good_number _ _ _ (passed c.valid_boxes.ensures c.if-not-valid_boxes.false)
    ∙ rw (
      box-o (goal.at.returns c).After-box3_of-o,
      box-e (goal.at.returns c).After-box3_of-e,
      box-b (goal.at.returns c).After-box3_of-b,
    )
