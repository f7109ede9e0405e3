use mir.Syntax.{w32}
use mathlib.Core.Path.{ap, ◌∙◌}
use mir.Facts.{to_z-of_z}
use Rattle.host.specs.Reports.{stream_report}
use Rattle.host.proofs.files.nearby_stream_order.Goals as goal

pub returns : goal.returns
returns c =
    let a = c.ranges in
    let o = simp
    (to_z-of_z {w = w32} a.x0, to_z-of_z {w = w32} a.x1, to_z-of_z {w = w32} a.y0, to_z-of_z {w = w32} a.y1) at
    c.box_of.ensures in
    let end = c.stream_order.ensures in
    record {
      answer = c.into.ensures ∙ ap stream_report (rw o at end.result_value);
      order = rw o at end.order_after;
    }
