use mathlib.Core.Path.{◌≡◌}
use native.Mathlib.Omega.{arith}
use borrow.Author.Rules.{rules}
use Rattle.plan.proofs.Measures.{known_axes}
use Rattle.stream.proofs.taking.put_order.Goals as goal

pub order_with-requires-else-h-eq-HEIGHT : goal.order_with-requires-else-h-eq-HEIGHT
order_with-requires-else-h-eq-HEIGHT c =
    let known = known_axes c.args.f.now c.args.h c.requires.0 in
    let e : c.args.h.axes ≡ 2 = omega (arith, known) in
    (c.requires.0, c.requires.1, c.requires.2, rw e (search rules))
