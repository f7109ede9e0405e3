use mathlib.Core.List.{[], ◌∷◌}
use mathlib.Core.Path.{◌≡◌}
use lib.ListN.{take}
use Rattle.base.specs.Over.{over}
use Rattle.base.specs.Tabulate.{joined}
use Rattle.encode.specs.Encode.{site_bytes}
use Rattle.encode.proofs.tile.put_sites.Given as goal

abbrev pub invariant-loop-i : goal.invariant-loop-i
invariant-loop-i l =
    let s = l.sites in
    l.d ≡ over l.initial.d l.start
    (joined (site_bytes l.axes (take l.axes (s.xs.now ∷ s.ys.now ∷ s.zs.now ∷ [])) s.cues.now) l.first l.i)
