use mathlib.Core.Path.{◌≡◌}
use native.Mathlib.Nat.{add-zero}
use native.Mathlib.Omega.{arith}
use Rattle.base.specs.Tabulate.{tabulate}
use Rattle.encode.specs.Supply.{box_of}
use Rattle.writer.proofs.supply.box_of.Goals as goal

pub returns-then-axes-eq-HEIGHT : goal.returns-then-axes-eq-HEIGHT
unfolding box_of tabulate
returns-then-axes-eq-HEIGHT c =
    let e : c.args.axes ≡ 3 = omega arith in
    simp (e, c.axis_of.ensures, c.axis_of-then-axes-eq-HEIGHT.ensures, c.axis_of-then-axes-eq-HEIGHT-2.ensures)
    (simp (c.numbers_per_box.ensures, e, add-zero))

pub returns-else-axes-eq-HEIGHT : goal.returns-else-axes-eq-HEIGHT
unfolding box_of tabulate
returns-else-axes-eq-HEIGHT c =
    let e : c.args.axes ≡ 2 = omega arith in
    simp (e, c.axis_of-else-axes-eq-HEIGHT.ensures, c.axis_of-else-axes-eq-HEIGHT-2.ensures)
    (simp (c.numbers_per_box.ensures, e, add-zero))
