use Prim.Native.Nat.{◌%◌}
use mathlib.Core.Path.{ap, ◌∙◌}
use Rattle.blocks.proofs.LaneLaws.{minus_moment}
use Rattle.blocks.proofs.lanes.whole.Goals as goal

pub returns : goal.returns
returns c =
    let m = c.moment in (
      ap (λ t. t % 255) c.total-a.ensures.0,
      minus_moment c.total.result m.result m.ensures.1 ∙ rw (c.total.ensures.0, m.ensures.0),
    )
