use Prim.Native.Nat.{◌+◌, ◌*◌, ◌<◌}
use mathlib.Core.Path.{◌≡◌, ◌∙◌}
use native.Mathlib.Omega.{arith}
use lib.ListN.{get_or, set, length-set}
use lib.Seq.{get_or-set_same, get_or-set_other}
use borrow.Author.Count.{below_more}
use Rattle.blocks.specs.Layout.{max_tiles}
use Rattle.geometry.specs.Axes.{KnownAxes}
use Rattle.plan.specs.Inner.Seam as seam
use Rattle.blocks.proofs.Theorems.{entry_of_accepted}
use Rattle.plan.proofs.Measures.{known_axes}
use Rattle.corners.proofs.CornerTables.{far_of_box}
use Rattle.corners.proofs.tables.fill_tile.Goals as goal
use Rattle.corners.proofs.tables.fill_tile.Goals.{Start}

known : (s : Start) → KnownAxes s.args.h.axes
known s = known_axes s.args.f.now s.args.h s.requires.0.dir

pub corners-c-end-requires : goal.corners-c-end-requires
corners-c-end-requires c = known (goal.at.corners-c-end-requires c).Start

pub corner_of-requires : goal.corner_of-requires
corner_of-requires c = (known (goal.at.corner_of-requires c).Start, c.requires.1)

pub max_dist_within-requires : goal.max_dist_within-requires
max_dist_within-requires c =
    let valid = (entry_of_accepted c.args.f.now c.args.h c.args.t c.requires.0.dir c.requires.0.below).0 in
    (known (goal.at.max_dist_within-requires c).Start, (rw c.box_at-b.ensures valid, c.corner_of.ensures.1.valid))

pub loop-c-preserved : goal.loop-c-preserved
loop-c-preserved c =
    let here : c.loop-c.c < seam.corner_count c.args.h = omega (arith, c.corners-c-end.ensures) in
    let d = c.loop-c.far in
    let i = c.loop-c.c in
    let x = c.args.at in
    let t = c.args.t in
    let v = c.max_dist_within.result in
    let f = c.args.f.now in
    let h = c.args.h in
    let o = seam.region_of h c.args.o in
    let few = c.requires.2 in (
      length-set d (i * max_tiles + x) v ∙ c.loop-c.invariant.0,
      below_more (λ j. get_or (set d (i * max_tiles + x) v) (j * max_tiles + x) 0 ≡ seam.far f h (seam.corner_of o j) t)
          i
          (λ j u. get_or-set_other d (i * max_tiles + x) (j * max_tiles + x) v 0 (omega arith)
          ∙ c.loop-c.invariant.1 j u)
          (get_or-set_same d (i * max_tiles + x) v 0 (omega (arith, here, c.requires.3, c.loop-c.invariant.0))
          ∙ c.max_dist_within.ensures
          ∙ far_of_box f h (seam.stop_of h c.corner_of.result) t c.box_at-b.ensures
          ∙ rw c.corner_of.ensures.0),
      λ k j u w.
          get_or-set_other d (i * max_tiles + x) (k * max_tiles + j) v 0 (omega arith)
          ∙ c.loop-c.invariant.2 k j u w,
    )
