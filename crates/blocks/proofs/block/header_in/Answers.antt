use mathlib.Core.Path.{ap, ◌∙◌}
use Rattle.blocks.specs.Block.{header_in}
use Rattle.blocks.proofs.block.header_in.Goals as goal

pub returns : goal.returns
returns c =
    let axes = c.axes_in-axes.ensures in (
      ap (λ t. record { tiles = t; axes = c.axes_in-axes.result }) c.u16_at-tiles.ensures.0
          ∙ ap (λ n. record { tiles = (header_in c.args.s.now).tiles; axes = n }) axes.0,
      c.u16_at-tiles.ensures.1,
      axes.1,
    )
