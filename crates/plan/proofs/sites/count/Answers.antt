use mathlib.Core.Path.{sym, ◌∙◌}
use Rattle.blocks.proofs.DirectoryLaws.{directory_good}
use Rattle.blocks.proofs.Theorems.{entry_of_accepted}
use Rattle.tiles.proofs.Theorems.{sites-length}
use Rattle.plan.proofs.Lawful.{sites-few}
use Rattle.plan.proofs.sites.count.Goals as goal

pub returns : goal.returns
returns c =
    let e = entry_of_accepted c.args.f.now c.args.h c.args.t c.requires.dir c.requires.below in (
      c.count_at.ensures ∙ sym (sites-length c.args.f.now c.args.h c.args.t),
      rw c.count_at.ensures (sites-few c.args.h.axes _ (directory_good _ c.requires.dir).axes e.1),
    )
