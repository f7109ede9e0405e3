use mathlib.Core.Path.{ap, sym, ◌∙◌}
use Rattle.base.specs.Refusal.{accepted}
use lib.ListN.{length}
use Rattle.plan.specs.FilePlan.{opening_of}
use Rattle.plan.specs.Inner.Seam.{Opens}
use Rattle.base.proofs.Outcomes.{and_then_accepted, and_then_refused}
use Rattle.base.proofs.Passing.{passed_on}
use Rattle.plan.proofs.Theorems.{opens_own_town}
use Rattle.serve.proofs.serving.take_tile.Goals as goal
use Rattle.serve.proofs.serving.take_tile.Goals.{In_ok-open_once}

-- it opens, with the file's own sites
opened : (c : In_ok-open_once) → (Opens c.args.f.now c.args.h c.args.t)
opened c =
    let a = and_then_accepted (opening_of c.args.f.now c.args.h c.args.t) (λ l. accepted (length l))
    (sym c.in_ok-open_once.ensures.result_value) in
    a.1 ∙ ap accepted (opens_own_town c.args.f.now c.args.h c.args.t a.1)

pub returns-in_err-open_once : goal.returns-in_err-open_once
returns-in_err-open_once c =
    let d = and_then_refused (opening_of c.args.f.now c.args.h c.args.t) (λ l. length l)
    (sym c.in_err-open_once.ensures.result_value) in
    let m = rw d at c.open_once.ensures.marks_after in
    rw d (record { result_value = passed_on c.from_residual.result _ c.from_residual.ensures; marks_after = rw m })

pub add_tile-requires : goal.add_tile-requires
add_tile-requires c =
    (c.requires.tile, opened (goal.at.add_tile-requires c).In_ok-open_once, c.requires.stop, c.requires.list)

pub returns : goal.returns
returns c =
    let e = opened (goal.at.returns c).In_ok-open_once in
    let m = rw e at c.open_once.ensures.marks_after in
    let added = c.add_tile.ensures in
    rw e (record { result_value = ap accepted added.number; marks_after = rw (m, added.laid) })
