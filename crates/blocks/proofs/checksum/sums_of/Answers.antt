use Prim.Native.Nat.{◌+◌, ◌*◌}
use mathlib.Core.Path.{◌≡◌, ◌∙◌}
use native.Mathlib.Omega.{arith}
use Rattle.blocks.specs.Inner.Lanes.{rows_size, sums_on}
use Rattle.blocks.proofs.LaneLaws.{lanes-zero, lanes_start, lanes-reduced}
use Rattle.blocks.proofs.checksum.sums_of.Goals as goal

pub loop-time-init : goal.loop-time-init
loop-time-init c = (lanes_start c.args.s.now, lanes-zero)

pub loop-time-preserved : goal.loop-time-preserved
loop-time-preserved c =
    let e = c.reduced-l.ensures in
    let at = 1 + rows_size * c.loop-time.time in
    let next : 1 + rows_size * (c.loop-time.time + 1) ≡ at + rows_size = omega arith in (
      rw next (lanes-reduced c.add_rows.result c.reduced-l.result c.args.s.now (at + rows_size) e)
          ∙ c.add_rows.ensures ∙ c.loop-time.invariant.0,
      (λ j h. let f = e j h in omega (arith, f), λ j h. let f = e j h in omega (arith, f)),
    )

pub returns : goal.returns
unfolding sums_on
returns c =
    let all : c.loop-time.time ≡ 3 = omega arith in
    c.add_last.ensures ∙ rw (c.whole.ensures.0, c.whole.ensures.1) (rw all at c.loop-time.invariant.0)
