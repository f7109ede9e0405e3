use mathlib.Core.Path.{◌≡◌, refl, sym, ap, ◌∙◌}
use native.Mathlib.Omega.{arith}
use lib.ListN.{length, take}
use lib.Seq.{length-take-le}
use borrow.Author.Rules.{rules}
use borrow.Author.Tests.{le-leb, lt-leb}
use Rattle.base.proofs.Passing.{passed_on, refused_before}
use Rattle.base.proofs.Tests.{passed, failed, equal, unequal}
use Rattle.plan.proofs.Measures.{tiles_few}
use Rattle.prune.specs.Prune.{prune_call, marks_after}
use Rattle.prune.proofs.call.prune.Given.{Over}
use Rattle.prune.proofs.call.prune.Goals as goal
use Rattle.prune.proofs.call.prune.Goals.{After-pad_box-region}

-- the box has as many axes as the call
axes : (g : Over) (c : After-pad_box-region g) → length c.args.o ≡ g.row.N
axes g c = sym (ap length c.pad_box-region.ensures) ∙ length-take-le g.row.N c.pad_box-region.result (search rules)

pub returns-in_err-h : goal.returns-in_err-h
unfolding prune_call marks_after
returns-in_err-h g c =
    let e = refused_before _ c.in_err-h.ensures in
    record {
      result_value = passed_on c.from_residual.result _ c.from_residual.ensures ∙ e;
      marks_after = ap (marks_after c.args.f.now c.args.o c.args.k c.args.marks.now) e;
    }

pub returns-then-not-valid_k : goal.returns-then-not-valid_k
unfolding prune_call marks_after
returns-then-not-valid_k g c =
    let r = c.at.ensures in
    rw (sym c.in_ok-h.ensures, failed c.valid_k.ensures c.if-not-valid_k.true)
    record { result_value = rw (r.reason, r.block); marks_after = refl }

pub returns-then-h : goal.returns-then-h
unfolding prune_call marks_after
returns-then-h g c =
    let n = axes g (goal.at.returns-then-h g c).After-pad_box-region in
    let r = c.at-then-h.ensures in
    rw (
      sym c.in_ok-h.ensures,
      passed c.valid_k.ensures c.if-not-valid_k.false,
      unequal refl (sym n) c.if-h.true,
    )
    record { result_value = rw (r.reason, r.block); marks_after = refl }

pub returns-then-not-valid_box : goal.returns-then-not-valid_box
unfolding prune_call marks_after
returns-then-not-valid_box g c =
    let n = axes g (goal.at.returns-then-not-valid_box g c).After-pad_box-region in
    let r = c.at-then-not-valid_box.ensures in
    rw (
      sym c.in_ok-h.ensures,
      passed c.valid_k.ensures c.if-not-valid_k.false,
      equal refl (sym n) c.if-h.false,
      failed (rw c.pad_box-region.ensures at c.valid_box.ensures) c.if-not-valid_box.true,
    )
    record { result_value = rw (r.reason, r.block); marks_after = refl }

pub returns-then-marks-h : goal.returns-then-marks-h
unfolding prune_call marks_after
returns-then-marks-h g c =
    let n = axes g (goal.at.returns-then-marks-h g c).After-pad_box-region in
    let r = c.at-then-marks-h.ensures in
    rw (
      sym c.in_ok-h.ensures,
      passed c.valid_k.ensures c.if-not-valid_k.false,
      equal refl (sym n) c.if-h.false,
      passed (rw c.pad_box-region.ensures at c.valid_box.ensures) c.if-not-valid_box.false,
      lt-leb _ _ c.if-marks-h.true,
    )
    record { result_value = rw (r.reason, r.block); marks_after = refl }

pub overflow_cast-tiles : goal.overflow_cast-tiles
overflow_cast-tiles g c = omega (arith, tiles_few c.args.f.now c.in_ok-h.h (sym c.in_ok-h.ensures))

pub overflow_cast-pruned : goal.overflow_cast-pruned
overflow_cast-pruned g c =
    omega (arith, tiles_few c.args.f.now c.in_ok-h.h (sym c.in_ok-h.ensures), c.mark_pruned-count.ensures.value.1)

pub returns : goal.returns
unfolding prune_call marks_after
returns g c =
    let n = axes g (goal.at.returns g c).After-pad_box-region in
    let same : take c.in_ok-h.h.axes c.pad_box-region.result ≡ c.args.o = rw c.if-h.false c.pad_box-region.ensures in
    let e = c.mark_pruned-count.ensures in
    rw (
      sym c.in_ok-h.ensures,
      passed c.valid_k.ensures c.if-not-valid_k.false,
      equal refl (sym n) c.if-h.false,
      passed (rw c.pad_box-region.ensures at c.valid_box.ensures) c.if-not-valid_box.false,
      le-leb _ _ c.if-marks-h.false,
    )
    record { result_value = rw (rw same at e.value.0); marks_after = rw (sym c.in_ok-h.ensures) (rw same at e.marks_after) }
