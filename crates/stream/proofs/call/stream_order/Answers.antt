use mathlib.Core.Path.{◌≡◌, refl, sym, ap, ◌∙◌}
use native.Mathlib.Omega.{arith}
use lib.ListN.{length, take}
use lib.Seq.{length-take-le}
use borrow.Author.Rules.{rules}
use borrow.Author.Tests.{le-leb, lt-leb}
use Rattle.base.proofs.Passing.{passed_on, refused_before}
use Rattle.base.proofs.Tests.{passed, failed, equal, unequal}
use Rattle.plan.proofs.Measures.{tiles_few}
use Rattle.stream.specs.Stream.{stream_call, order_after}
use Rattle.stream.proofs.call.stream_order.Given.{Over}
use Rattle.stream.proofs.call.stream_order.Goals as goal
use Rattle.stream.proofs.call.stream_order.Goals.{After-pad_box-region}

-- the box has as many axes as the call
axes : (g : Over) (c : After-pad_box-region g) → length c.args.o ≡ g.row.N
axes g c = sym (ap length c.pad_box-region.ensures) ∙ length-take-le g.row.N c.pad_box-region.result (search rules)

pub returns-in_err-h : goal.returns-in_err-h
unfolding stream_call order_after
returns-in_err-h g c =
    let e = refused_before _ c.in_err-h.ensures in
    record {
      result_value = passed_on c.from_residual.result _ c.from_residual.ensures ∙ e;
      order_after = ap (order_after c.args.f.now c.args.o c.args.order.now) e;
    }

pub returns-then-h : goal.returns-then-h
unfolding stream_call order_after
returns-then-h g c =
    let n = axes g (goal.at.returns-then-h g c).After-pad_box-region in
    let r = c.at.ensures in
    rw (sym c.in_ok-h.ensures, unequal refl (sym n) c.if-h.true)
    record { result_value = rw (r.reason, r.block); order_after = refl }

pub returns-then-not-valid_box : goal.returns-then-not-valid_box
unfolding stream_call order_after
returns-then-not-valid_box g c =
    let n = axes g (goal.at.returns-then-not-valid_box g c).After-pad_box-region in
    let r = c.at-then-not-valid_box.ensures in
    rw (
      sym c.in_ok-h.ensures,
      equal refl (sym n) c.if-h.false,
      failed (rw c.pad_box-region.ensures at c.valid_box.ensures) c.if-not-valid_box.true,
    )
    record { result_value = rw (r.reason, r.block); order_after = refl }

pub returns-then-order-h : goal.returns-then-order-h
unfolding stream_call order_after
returns-then-order-h g c =
    let n = axes g (goal.at.returns-then-order-h g c).After-pad_box-region in
    let r = c.at-then-order-h.ensures in
    rw (
      sym c.in_ok-h.ensures,
      equal refl (sym n) c.if-h.false,
      passed (rw c.pad_box-region.ensures at c.valid_box.ensures) c.if-not-valid_box.false,
      lt-leb _ _ c.if-order-h.true,
    )
    record { result_value = rw (r.reason, r.block); order_after = refl }

pub put_order-requires : goal.put_order-requires
put_order-requires g c =
    let n = axes g (goal.at.put_order-requires g c).After-pad_box-region in
    let box = passed (rw c.pad_box-region.ensures at c.valid_box.ensures) c.if-not-valid_box.false in
    let same = c.pad_box-region.ensures in
    let e = c.if-h.false in
    (sym c.in_ok-h.ensures, c.if-order-h.false, record { valid = rw (e, same) box; axes = rw (e, same) n })

pub overflow_cast-tiles : goal.overflow_cast-tiles
overflow_cast-tiles g c = omega (arith, tiles_few c.args.f.now c.in_ok-h.h (sym c.in_ok-h.ensures))

pub returns : goal.returns
unfolding stream_call order_after
returns g c =
    let n = axes g (goal.at.returns g c).After-pad_box-region in
    let same : take c.in_ok-h.h.axes c.pad_box-region.result ≡ c.args.o = rw c.if-h.false c.pad_box-region.ensures in
    rw (
      sym c.in_ok-h.ensures,
      equal refl (sym n) c.if-h.false,
      passed (rw c.pad_box-region.ensures at c.valid_box.ensures) c.if-not-valid_box.false,
      le-leb _ _ c.if-order-h.false,
    )
    record { result_value = refl; order_after = rw (sym c.in_ok-h.ensures) (rw same at c.put_order.ensures) }
