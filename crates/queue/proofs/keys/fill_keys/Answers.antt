use mathlib.Core.Path.{◌≡◌, ◌∙◌}
use native.Mathlib.Omega.{arith}
use lib.ListN.{length, length-set}
use Rattle.plan.specs.FilePlan.{entries}
use Rattle.plan.specs.Inner.Seam.{stop_of}
use Rattle.search.specs.Plan.{near}
use Rattle.queue.proofs.Filling.{keys_turn, keys_done}
use Rattle.queue.proofs.keys.fill_keys.Goals as goal

pub loop-j-preserved : goal.loop-j-preserved
loop-j-preserved c =
    let a = c.args in
    let g = near (entries a.f.now a.h) (stop_of a.h a.p) in
    let turn = keys_turn g a.order.now c.loop-j.keys c.loop-j.j c.loop-j-test.true in
    let n = length-set c.loop-j.keys c.loop-j.j c.near.result in
    (n ∙ c.loop-j.invariant.0, rw c.near.ensures (turn ∙ c.loop-j.invariant.1))

pub returns : goal.returns
returns c =
    let a = c.args in
    let g = near (entries a.f.now a.h) (stop_of a.h a.p) in
    let end : c.loop-j.j ≡ length a.order.now = omega (arith, c.loop-j-test.false) in
    keys_done g a.order.now c.loop-j.keys c.loop-j.j end ∙ c.loop-j.invariant.1
