use Prim.Native.Nat.{◌<◌}
use mathlib.Core.Path.{◌≡◌, ◌∙◌}
use native.Mathlib.Omega.{arith}
use lib.ListN.{get_or, set, length-set}
use lib.Seq.{get_or-set_same, get_or-set_other}
use borrow.Author.Count.{below_more}
use Rattle.geometry.specs.Axes.{KnownAxes}
use Rattle.plan.specs.FilePlan.{entries}
use Rattle.plan.specs.Inner.Seam.{region_of, corner_of}
use Rattle.search.specs.Plan as plan
use Rattle.corners.specs.Inner.Tables.{max_corners}
use Rattle.plan.proofs.Measures.{known_axes}
use Rattle.corners.proofs.CornerTables.{corners-few}
use Rattle.corners.proofs.tables.near_from.Goals as goal
use Rattle.corners.proofs.tables.near_from.Goals.{After-near, Start}

known : (s : Start) → KnownAxes s.args.h.axes
known s = known_axes s.args.f.now s.args.h s.requires.0.dir

-- there is room for the corner
room : (c : After-near) → c.loop-c.c < max_corners
room c =
    let known = known_axes c.args.f.now c.args.h c.requires.0.dir in
    omega (arith, c.corners-c-end.ensures, (corners-few c.args.h known).1)

pub corners-c-end-requires : goal.corners-c-end-requires
corners-c-end-requires c = known (goal.at.corners-c-end-requires c).Start

pub corner_of-requires : goal.corner_of-requires
corner_of-requires c = (known (goal.at.corner_of-requires c).Start, c.requires.1)

pub offset_bounds-near-c : goal.offset_bounds-near-c
offset_bounds-near-c c = omega (arith, room (goal.at.offset_bounds-near-c c).After-near)

pub bounds-near-c : goal.bounds-near-c
bounds-near-c c = room (goal.at.bounds-near-c c).After-near

pub loop-c-preserved : goal.loop-c-preserved
loop-c-preserved c =
    let here = room (goal.at.loop-c-preserved c).After-near in
    let d = c.loop-c.near in
    let i = c.loop-c.c in
    let v = c.near.result in
    let h = c.args.h in
    let o = region_of h c.args.o in (
      length-set d i v ∙ c.loop-c.invariant.0,
      below_more (λ j. get_or (set d i v) j 0 ≡ plan.near (entries c.args.f.now h) (corner_of o j) c.args.t) i
          (λ j u. get_or-set_other d i j v 0 (omega arith) ∙ c.loop-c.invariant.1 j u)
          (get_or-set_same d i v 0 (omega (arith, here)) ∙ c.near.ensures ∙ rw c.corner_of.ensures.0),
    )
