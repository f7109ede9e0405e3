use Prim.Native.Nat.{◌-◌}
use mathlib.Core.Path.{sym, ◌∙◌}
use native.Mathlib.Omega.{arith}
use borrow.Author.Tests.{le-leb, leb-true}
use Rattle.corners.specs.Inner.Tables.{below_all}
use Rattle.plan.specs.FilePlan.{entries}
use Rattle.search.specs.Lists.{range, total}
use Rattle.search.specs.Plan.{ranked}
use Rattle.plan.proofs.Measures.{tiles_few}
use Rattle.prune.proofs.Summing.{sum-part}
use Rattle.prune.proofs.marking.reaches.Goals as goal

pub overflow_add-middle : goal.overflow_add-middle
overflow_add-middle c = omega (arith, tiles_few c.args.f.now c.args.h c.requires.0)

pub returns-then-reaches_among : goal.returns-then-reaches_among
returns-then-reaches_among c =
    let p = below_all c.args.h c.args.far.now c.args.near in
    let w = ranked (entries c.args.f.now c.args.h) in
    let e = c.min-to.result in
    let part = sum-part p w c.args.middle e c.args.h.tiles (omega arith) (omega arith) in
    let enough = leb-true c.args.k (total p w (range c.args.middle (e - c.args.middle)))
    (sym c.reaches_among.ensures ∙ c.if-reaches_among.true) in
    c.if-reaches_among.true
    ∙ sym (le-leb c.args.k (total p w (range 0 c.args.h.tiles)) (omega (arith, part, enough)))
