use Prim.Native.Nat.{◌≤◌}
use mathlib.Core.Path.{◌≡◌, sym, ap, ◌∙◌}
use native.Mathlib.Omega.{arith}
use lib.ListN.{length}
use Rattle.blocks.specs.Directory.{box_at}
use Rattle.geometry.specs.Axes.{KnownAxes}
use Rattle.geometry.specs.Distance.{max_dist}
use Rattle.plan.specs.Inner.Seam.{stop_of}
use Rattle.blocks.proofs.Theorems.{entry_of_accepted}
use Rattle.geometry.proofs.Theorems.{max-dist_bounded}
use Rattle.plan.proofs.Lawful.{box_axes}
use Rattle.plan.proofs.Measures.{known_axes, tile_few}
use Rattle.arrange.proofs.places.key_of.Goals as goal
use Rattle.arrange.proofs.places.key_of.Goals.{After-max_dist_within-far, Start}

known : (s : Start) → KnownAxes s.args.h.axes
known s = known_axes s.args.f.now s.args.h s.requires.0.dir

-- no far is so large that there is no room for a tile below it
small : (c : After-max_dist_within-far) → c.max_dist_within-far.result ≤ 12000000000000
small c =
    let f = c.args.f.now in
    let h = c.args.h in
    let t = c.args.t in
    let q = stop_of h c.corner_of.result in
    let v = c.corner_of.ensures.1 in
    let same : length q ≡ length (box_at f h t) = v.axes ∙ sym (box_axes f h t) in
    let valid = (entry_of_accepted f h t c.requires.0.dir c.requires.0.below).0 in
    let few : length q ≤ 3 = rw v.axes (known_axes f h c.requires.0.dir).1 in
    let far : c.max_dist_within-far.result ≡ max_dist (box_at f h t) q =
    c.max_dist_within-far.ensures ∙ ap (λ z. max_dist z q) c.box_at.ensures in
    omega (arith, far, max-dist_bounded (box_at f h t) q valid v.valid same)

pub corner_of-requires : goal.corner_of-requires
corner_of-requires c = (known (goal.at.corner_of-requires c).Start, c.requires.1)

pub max_dist_within-far-requires : goal.max_dist_within-far-requires
max_dist_within-far-requires c =
    let valid = (entry_of_accepted c.args.f.now c.args.h c.args.t c.requires.0.dir c.requires.0.below).0 in
    (known (goal.at.max_dist_within-far-requires c).Start, (rw c.box_at.ensures valid, c.corner_of.ensures.1.valid))

pub overflow_mul-result : goal.overflow_mul-result
overflow_mul-result c = omega (arith, small (goal.at.overflow_mul-result c).After-max_dist_within-far)

pub overflow_add-result : goal.overflow_add-result
overflow_add-result c =
    omega (arith, small (goal.at.overflow_add-result c).After-max_dist_within-far, tile_few c.requires.0)

pub returns : goal.returns
returns c = omega (arith, tile_few c.requires.0)
