use mathlib.Core.Path.{refl}
use native.Mathlib.Nat.{div-le_self}
use native.Mathlib.Omega.{arith}
use borrow.Author.Rules.{rules}
use Rattle.blocks.specs.Layout.{payload_size, site_size}
use Rattle.encode.specs.Supply.{offset}
use Rattle.encode.proofs.SupplyLaws.{offset_next, offset-small}
use Rattle.writer.proofs.supply.sum_of.Goals as goal

pub loop-n-init : goal.loop-n-init
unfolding offset
loop-n-init c = refl

pub overflow_add-sum : goal.overflow_add-sum
overflow_add-sum c =
    let few = c.requires.2 in
    let most = div-le_self payload_size (site_size c.args.axes) in
    let small = offset-small c.args.counts.now payload_size c.loop-n.n-index
    (λ i h. omega (arith, few i (omega arith), most)) in
    omega (arith, small, few c.loop-n.n-index (search rules), most, c.loop-n.invariant)

pub loop-n-preserved : goal.loop-n-preserved
loop-n-preserved c = omega (arith, offset_next c.args.counts.now c.loop-n.n-index, c.loop-n.invariant)
