use mathlib.Core.Path.{◌≡◌, ap, ◌∙◌}
use lib.ListN.{take}
use Rattle.geometry.proofs.Theorems.{inside_axes, inside-valid, corner-inside, take-corner}
use Rattle.plan.specs.Inner.Seam.{stop_of, region_of, corner_of}
use Rattle.plan.proofs.region.corner_of.Goals as goal

pub returns : goal.returns
returns c =
    let h = c.args.h in
    let o = region_of h c.args.o in
    let v = c.requires.1 in
    let e : stop_of h c.corner.result ≡ corner_of o c.args.c =
    ap (take h.axes) c.corner.ensures ∙ take-corner h.axes c.args.o c.args.c in
    let i = corner-inside o v.valid c.args.c in (
      e,
      record { valid = rw e (inside-valid o _ v.valid i); axes = rw e (inside_axes o _ i ∙ v.axes) },
    )
