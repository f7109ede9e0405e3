use Prim.Native.Nat.{◌<◌, ◌≤◌}
use mathlib.Core.Path.{◌≡◌, ap, ◌∙◌}
use native.Mathlib.Omega.{arith}
use lib.Dec.{eqb}
use lib.ListN.{length, length-set}
use borrow.Author.Tests.{eqb-true, eqb-false}
use Rattle.blocks.specs.Layout.{max_tiles}
use Rattle.plan.specs.Inner.Seam.{region_of}
use Rattle.base.proofs.Tests.{by_test}
use Rattle.plan.proofs.Measures.{tiles_few}
use Rattle.stream.specs.Stream.{closer_from}
use Rattle.stream.proofs.Standing.{left_same, this_stands, other_stands}
use Rattle.stream.proofs.blocking.settle_all.Goals as goal
use Rattle.stream.proofs.blocking.settle_all.Goals.{Start}

most : (s : Start) → s.args.h.tiles ≤ max_tiles
most s = tiles_few s.args.f.now s.args.h s.requires.f_value.0

pub loop-b-preserved : goal.loop-b-preserved
loop-b-preserved c =
    let few = most (goal.at.loop-b-preserved c).Start in
    let b = c.loop-b.b in
    let inv = c.loop-b.invariant in
    let n = c.args.h.tiles in
    let closer = closer_from c.args.f.now c.args.h (region_of c.args.h c.args.o) in
    let keys = c.args.keys.now in
    let found = c.settle_first.ensures in
    let room : b < length c.loop-b.waits = omega (arith, few, inv.0, c.requires.waits_len.0) in
    let room' : b < length c.loop-b.from = omega (arith, few, inv.1, c.requires.waits_len.1) in (
      ap length found.waits_set ∙ length-set c.loop-b.waits b found.w ∙ inv.0,
      ap length found.from_set ∙ length-set c.loop-b.from b found.r ∙ inv.1,
      (λ x. left_same closer n keys found room room' (inv.2 b) x ∙ inv.2 x),
      λ j u. by_test (eqb j b)
          (λ e. let q : j ≡ b = eqb-true j b e in rw q (this_stands closer n keys found room room' (inv.2 b)))
          (λ e.
          let d = eqb-false j b e in
          other_stands closer n keys found room room' (inv.2 b) j n d (inv.3 j (omega arith))),
    )
