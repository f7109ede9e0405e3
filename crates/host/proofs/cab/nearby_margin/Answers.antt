use mir.Syntax.{w32}
use mathlib.Core.Path.{◌≡◌, ◌∙◌}
use lib.ListN.{take}
use mir.Facts.{to_z-of_z}
use mir.Syntax.{w64}
use mir.Val.{SFits}
use borrow.Author.Rules.{sfits_of, rules}
use Rattle.base.proofs.Tests.{and_both, passed, failed}
use Rattle.host.specs.Cab.{box_from}
use Rattle.host.proofs.MarginLaws.{bad_number, good_number}
use Rattle.host.proofs.cab.nearby_margin.Goals as goal
use Rattle.host.proofs.cab.nearby_margin.Goals.{After-pad_box-b, After-pad_box-e, After-pad_box-o}

-- the boxes that are measured are those of the arguments
box-o : (c : After-pad_box-o) →
    take 2 c.pad_box-o.result ≡ box_from c.args.ox0 c.args.ox1 c.args.oy0 c.args.oy1
box-o c =
    let a = c.ranges in
    c.pad_box-o.ensures
    ∙ simp (to_z-of_z {w = w32} a.ox0, to_z-of_z {w = w32} a.ox1, to_z-of_z {w = w32} a.oy0, to_z-of_z {w = w32} a.oy1)
    at c.box_of.ensures

box-e : (c : After-pad_box-e) →
    take 2 c.pad_box-e.result ≡ box_from c.args.ex0 c.args.ex1 c.args.ey0 c.args.ey1
box-e c =
    let a = c.ranges in
    c.pad_box-e.ensures
    ∙ simp (to_z-of_z {w = w32} a.ex0, to_z-of_z {w = w32} a.ex1, to_z-of_z {w = w32} a.ey0, to_z-of_z {w = w32} a.ey1)
    at c.box_of-2.ensures

box-b : (c : After-pad_box-b) →
    take 2 c.pad_box-b.result ≡ box_from c.args.bx0 c.args.bx1 c.args.by0 c.args.by1
box-b c =
    let a = c.ranges in
    c.pad_box-b.ensures
    ∙ simp (to_z-of_z {w = w32} a.bx0, to_z-of_z {w = w32} a.bx1, to_z-of_z {w = w32} a.by0, to_z-of_z {w = w32} a.by1)
    at c.box_of-3.ensures

pub returns-then-not-valid_boxes : goal.returns-then-not-valid_boxes
returns-then-not-valid_boxes c =
    bad_number _ _ _ (failed c.valid_boxes.ensures c.if-not-valid_boxes.true)
    ∙ rw (
      box-o (goal.at.returns-then-not-valid_boxes c).After-pad_box-o,
      box-e (goal.at.returns-then-not-valid_boxes c).After-pad_box-e,
      box-b (goal.at.returns-then-not-valid_boxes c).After-pad_box-b,
    )

pub margin_within-requires : goal.margin_within-requires
margin_within-requires c =
    let p = and_both _ _ (passed c.valid_boxes.ensures c.if-not-valid_boxes.false) in
    let q = and_both _ _ p.0 in
    (search rules, (q.0, (q.1, p.1)))

pub returns : goal.returns
returns c =
    let fits : SFits w64 c.margin_within.result = sfits_of c.margin_within.type_inv in
    to_z-of_z {w = w64} fits ∙ c.margin_within.ensures
    ∙ good_number _ _ _ (passed c.valid_boxes.ensures c.if-not-valid_boxes.false)
    ∙ rw (
      box-o (goal.at.returns c).After-pad_box-o,
      box-e (goal.at.returns c).After-pad_box-e,
      box-b (goal.at.returns c).After-pad_box-b,
    )
