use mathlib.Core.List.{List, [], ◌∷◌}
use mathlib.Core.Path.{◌≡◌, sym, ap, ◌∙◌, subst}
use lib.IntN.{ℤ}
use lib.ListN.{take}
use lib.Seq.{length-take-le}
use native.Mathlib.Omega.{arith}
use Rattle.base.specs.Answer.{tested_at}
use Rattle.base.specs.Refusal.{accepted}
use Rattle.blocks.specs.Directory.{directory}
use Rattle.list.specs.Slices.{lent}
use Rattle.stops.specs.Arguments.{arguments}
use Rattle.base.proofs.Passing.{passed_on}
use Rattle.join.specs.Inner.Running.{RunReady}
use Rattle.join.specs.Join.{lengths_of, tests, run_end, join_from, join_end}
use Rattle.join.proofs.Calling.{tests_pass, run_ready}
use Rattle.join.proofs.call.join_columns.Goals as goal
use Rattle.join.proofs.call.join_columns.Goals.{In_ok-h, In_default}

-- the stops by columns
abbrev three : List ℤ → List ℤ → List ℤ → List (List ℤ)
three xs ys zs = xs ∷ ys ∷ zs ∷ []

-- the directory is accepted, and every argument is good
dir : (c : In_ok-h) → directory c.args.f.now ≡ accepted c.in_ok-h.h
dir c = sym c.in_ok-h.ensures

good : (c : In_default) → let a = c.args in
    arguments c.in_ok-h.h (take a.axes (three a.xs.now a.ys.now a.zs.now)) a.k
    (lengths_of (lent a.dist.now a.site.now a.cue.now a.marks.now)) ≡ accepted tt
good c = sym c.check_arguments.ensures ∙ ap (tested_at 0) c.in_default.is

-- test 17 has passed
same-axes : (c : In_default) → directory c.args.f.now ≡ accepted c.in_ok-h.h → c.in_ok-h.h.axes ≡ c.args.axes
same-axes c d =
    let a = c.args in
    let cols = take a.axes (three a.xs.now a.ys.now a.zs.now) in
    let out = lent a.dist.now a.site.now a.cue.now a.marks.now in
    let e = (run_ready a.f.now cols a.k out d (good c)).args.axes in
    sym e ∙ length-take-le a.axes _ (omega (arith, c.requires.0.1))

pub returns-in_err-h : goal.returns-in_err-h
unfolding join_end join_from tests
returns-in_err-h c =
    rw (passed_on c.from_residual.result _ c.from_residual.ensures, ← c.in_err-h.ensures)

pub returns-in-Err : goal.returns-in-Err
unfolding join_end join_from tests
returns-in-Err c =
    rw (c.at.ensures.reason, c.at.ensures.block, dir (goal.at.returns-in-Err c).In_ok-h, ← c.in-Err.ensures)

pub run-requires : goal.run-requires
run-requires c =
    let a = c.args in
    let h = c.in_ok-h.h in
    let cols = take a.axes (three a.xs.now a.ys.now a.zs.now) in
    let out = lent a.dist.now a.site.now a.cue.now a.marks.now in
    let d = dir (goal.at.run-requires c).In_ok-h in
    let e = (goal.at.run-requires c).In_default in
    let ready = run_ready a.f.now cols a.k out d (good e) in (
      rw (same-axes e d) c.requires,
      subst (λ n. RunReady a.f.now h (take n (three a.xs.now a.ys.now a.zs.now)) a.k out) (sym (same-axes e d)) ready,
    )

pub returns : goal.returns
returns c =
    let a = c.args in
    let h = c.in_ok-h.h in
    let cols = take a.axes (three a.xs.now a.ys.now a.zs.now) in
    let out = lent a.dist.now a.site.now a.cue.now a.marks.now in
    let d = dir (goal.at.returns c).In_ok-h in
    let e = (goal.at.returns c).In_default in
    c.run.ensures
    ∙ ap (λ n. run_end a.f.now h (take n (three a.xs.now a.ys.now a.zs.now)) a.k out) (same-axes e d)
    ∙ sym (tests_pass a.f.now cols a.k out d (good e))
