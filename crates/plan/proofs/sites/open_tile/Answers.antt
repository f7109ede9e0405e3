use mathlib.Core.Path.{sym, ◌∙◌}
use Rattle.plan.proofs.Openings.{opening_counted}
use Rattle.plan.proofs.sites.open_tile.Goals as goal

pub returns : goal.returns
returns c =
    c.open_tile.ensures ∙ sym (opening_counted c.args.f.now c.args.h c.args.t)
