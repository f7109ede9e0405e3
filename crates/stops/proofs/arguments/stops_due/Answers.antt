use mathlib.Core.Bool.{◌&&◌}
use mathlib.Core.Path.{◌≡◌}
use borrow.Author.Rules.{rules}
use lib.Dec.{leb}
use lib.ListN.{length}
use Rattle.search.specs.Limits.{max_stops}
use Rattle.stops.proofs.ArgumentLaws.{columns_told}
use Rattle.stops.proofs.arguments.stops_due.Goals as goal

pub returns : goal.returns
returns c =
    let a = c.args in
    let few : c.contains.result ≡ (leb 1 (length a.xs.now) && leb (length a.xs.now) max_stops) = search rules in
    rw (c.both-2.ensures, c.both.ensures, few) (columns_told a.axes a.xs.now a.ys.now a.zs.now c.requires)
