use mathlib.Core.Path.{refl, ap, sym, ◌∙◌}
use lib.ListN.{length, set}
use lib.Seq.{set-get_or}
use native.Mathlib.Omega.{arith}
use Rattle.base.specs.Answer.{outcome_of}
use Rattle.base.specs.Refusal.{accepted}
use Rattle.plan.specs.FilePlan.{opening_of}
use Rattle.base.proofs.Outcomes.{and_then_accepted, and_then_refused, told}
use Rattle.serve.proofs.marks.open_once.Goals as goal

pub bounds-marks-t : goal.bounds-marks-t
bounds-marks-t c = omega (arith, c.requires.0.below, c.requires.1)

-- it was opened before
pub returns-then-marks-t-eq-OPENED : goal.returns-then-marks-t-eq-OPENED
returns-then-marks-t-eq-OPENED c =
    let marks = c.args.marks.now in
    let t = c.args.t in
    let opens = c.requires.2 t c.requires.0.below c.if-marks-t-eq-OPENED.true in
    rw opens (record {
      result_value = ap accepted c.count.ensures.0;
      marks_after = sym (ap (set marks t) (sym c.if-marks-t-eq-OPENED.true) ∙ set-get_or marks t 0);
    })

pub returns-in_default : goal.returns-in_default
returns-in_default c =
    let d = told outcome_of c.open_tile-answer.ensures c.in_default.is in
    let q = and_then_refused (opening_of c.args.f.now c.args.h c.args.t) (λ l. length l) d in
    rw q (record { result_value = ap outcome_of c.in_default.is; marks_after = refl })

pub bounds-marks-t-2 : goal.bounds-marks-t-2
bounds-marks-t-2 c = omega (arith, c.requires.0.below, c.requires.1)

pub returns : goal.returns
returns c =
    let a = and_then_accepted (opening_of c.args.f.now c.args.h c.args.t) (λ l. accepted (length l))
    (told outcome_of c.open_tile-answer.ensures c.in-Ok.is) in
    rw a.1 (record { result_value = sym a.2; marks_after = refl })
