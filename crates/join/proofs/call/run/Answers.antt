use Prim.Native.Nat.{ℕ, ◌*◌, ◌<◌, ◌≤◌}
use mathlib.Core.List.{List, [], ◌∷◌, map}
use mathlib.Core.Path.{◌≡◌, ap, ◌∙◌}
use native.Mathlib.Omega.{arith}
use lib.IntN.{ℤ}
use lib.ListN.{length, take, length-take}
use Rattle.base.specs.Answer.{outcome_of}
use Rattle.base.specs.Lists.{All}
use Rattle.blocks.specs.declared.header.Header.{Header}
use Rattle.geometry.specs.Around.{around}
use Rattle.list.specs.Slices.{lent}
use Rattle.plan.specs.FilePlan.{entries}
use Rattle.plan.specs.Inner.Seam.{stop_of, region_of}
use Rattle.search.specs.Pruning.{pruned_count}
use Rattle.stops.specs.Stops.{stop_count, stops_of}
use Rattle.geometry.proofs.Theorems.{all-points, row_axes}
use Rattle.plan.proofs.Measures.{tiles_few}
use Rattle.stops.proofs.StopLaws.{points_gathered}
use Rattle.stops.proofs.TakeLaws.{take-around, take_count, take_stops, same-columns}
use Rattle.join.proofs.Running.{few_enough, region, started, begun, stops_ready, Attempted, attempted, used_few}
use Rattle.join.proofs.Running.{run_answers, run_refuses}
use Rattle.join.proofs.call.run.Goals as goal
use Rattle.join.proofs.call.run.Goals.{After-around, After-gather_stops, After-mark_pruned-pruned, After-serve, Start}

-- the columns handed on, and those of the call
module _ (h : Header) (xs ys zs : List ℤ) where
  abbrev three : List (List ℤ)
  three = xs ∷ ys ∷ zs ∷ []

  abbrev cols : List (List ℤ)
  cols = take h.axes three

  count : 1 ≤ h.axes → stop_count cols ≡ length xs
  count some = take_count h.axes some three

  all-places : (k : ℕ) → 1 ≤ h.axes → stop_count cols * k ≡ length xs * k
  all-places k some = ap (λ n. n * k) (count some)

  -- each has room for three axes, and on those of the town it is a stop of the call
  roomy : All (λ p. length p ≡ 3) (stops_of three)
  roomy = all-points (λ p. length p ≡ 3) three (stop_count three) (λ i l. row_axes three i)

  stops-are : 1 ≤ h.axes → map (stop_of h) (stops_of three) ≡ stops_of cols
  stops-are some = take_stops h.axes some three

some : (s : Start) → 1 ≤ s.args.h.axes
some s = omega (arith, s.requires.0.0.0)

long : (s : Start) → (length s.args.ys.now ≡ length s.args.xs.now)
    × (length s.args.zs.now ≡ length s.args.xs.now)
long s = same-columns s.args.h.axes s.args.xs.now s.args.ys.now s.args.zs.now s.requires.0 s.requires.1.args.same

-- the box around the stops, on the axes of the town
box : (c : After-around) →
    region_of c.args.h c.around.result ≡ around (cols c.args.h c.args.xs.now c.args.ys.now c.args.zs.now)
box c =
    ap (take c.args.h.axes) c.around.ensures
    ∙ take-around c.args.h.axes (three c.args.h c.args.xs.now c.args.ys.now c.args.zs.now)

-- ---- the slices when the stops are served, and the stops as points

begins : (c : After-mark_pruned-pruned) →
    lent c.clear_places.new.dist c.clear_places.new.site c.clear_places.new.cue
    c.mark_pruned-pruned.new.marks ≡ started c.requires.1
begins c =
    let a = c.args in
    let n = all-places a.h a.xs.now a.ys.now a.zs.now a.k (omega (arith, c.requires.0.0.0)) in
    let o = ap (take a.h.axes) c.around.ensures ∙ take-around a.h.axes (three a.h a.xs.now a.ys.now a.zs.now) in
    begun c.requires.1 (rw n c.clear_places.ensures) o c.mark_pruned-pruned.ensures.marks_after

points : (c : After-gather_stops)
    → take (length c.args.xs.now) c.gather_stops.new.stops
    ≡ stops_of (three c.args.h c.args.xs.now c.args.ys.now c.args.zs.now)
points c =
    let a = c.args in
    let n = count a.h a.xs.now a.ys.now a.zs.now (omega (arith, c.requires.0.0.0)) in
    points_gathered (three a.h a.xs.now a.ys.now a.zs.now) _ c.gather_stops.ensures
    (omega (arith, c.requires.1.args.few, n))

-- ---- what holds after it

tried : (c : After-serve)
    → lent c.clear_places.new.dist c.clear_places.new.site c.clear_places.new.cue
    c.mark_pruned-pruned.new.marks ≡ started c.requires.1
    → take (length c.args.xs.now) c.gather_stops.new.stops
    ≡ stops_of (three c.args.h c.args.xs.now c.args.ys.now c.args.zs.now)
    → Attempted c.requires.1 (outcome_of c.serve.result)
    (lent c.serve.new.dist c.serve.new.site c.serve.new.cue c.serve.new.marks)
tried c b p =
    let a = c.args in
    attempted c.requires.1 b
    (rw (p, stops-are a.h a.xs.now a.ys.now a.zs.now (omega (arith, c.requires.0.0.0))) at c.serve.ensures)

-- no slice has got longer or shorter
lengths : (c : After-serve) →
    (length c.serve.new.dist ≡ length c.args.dist.now)
    × (length c.serve.new.site ≡ length c.args.site.now)
    × (length c.serve.new.cue ≡ length c.args.cue.now)
    × (length c.serve.new.marks ≡ length c.args.marks.now)
lengths c =
    let s = c.serve.auto in (
      s.dist ∙ c.clear_places.auto.dist,
      s.site ∙ c.clear_places.auto.site,
      s.cue ∙ c.clear_places.auto.cue,
      s.marks ∙ c.mark_pruned-pruned.auto.marks,
    )

pub overflow_mul-n : goal.overflow_mul-n
overflow_mul-n c = omega (
  arith,
  few_enough c.requires.1,
  all-places c.args.h c.args.xs.now c.args.ys.now c.args.zs.now c.args.k
      (some (goal.at.overflow_mul-n c).Start),
)

pub clear_places-requires : goal.clear_places-requires
clear_places-requires c =
    let a = c.requires.1.args in
    let n = all-places c.args.h c.args.xs.now c.args.ys.now c.args.zs.now c.args.k
    (some (goal.at.clear_places-requires c).Start) in
    (omega (arith, n, a.dist), (omega (arith, n, a.site), omega (arith, n, a.cue)))

pub around-requires : goal.around-requires
around-requires c =
    let some : 0 < length c.args.xs.now = omega (
      arith,
      c.requires.1.args.some,
      count c.args.h c.args.xs.now c.args.ys.now c.args.zs.now
          (some (goal.at.around-requires c).Start),
    ) in (
      some,
      omega (arith, (long (goal.at.around-requires c).Start).0),
      omega (arith, (long (goal.at.around-requires c).Start).1),
    )

pub mark_pruned-pruned-requires : goal.mark_pruned-pruned-requires
mark_pruned-pruned-requires c = (
  c.requires.1.dir,
  c.requires.1.args.marks,
  rw (box (goal.at.mark_pruned-pruned-requires c).After-around)
      (region c.requires.1),
)

pub gather_stops-requires : goal.gather_stops-requires
gather_stops-requires c = (
  (long (goal.at.gather_stops-requires c).Start).0,
  (long (goal.at.gather_stops-requires c).Start).1,
  omega (
    arith,
    c.requires.1.args.few,
    count c.args.h c.args.xs.now c.args.ys.now c.args.zs.now
        (some (goal.at.gather_stops-requires c).Start),
  ),
)

pub slice_bounds-stops-end : goal.slice_bounds-stops-end
slice_bounds-stops-end c =
    omega (
      arith,
      c.requires.1.args.few,
      count c.args.h c.args.xs.now c.args.ys.now c.args.zs.now
          (some (goal.at.slice_bounds-stops-end c).Start),
    )

pub slice_bounds-serve-end : goal.slice_bounds-serve-end
slice_bounds-serve-end c =
    omega (
      arith,
      c.requires.1.args.few,
      count c.args.h c.args.xs.now c.args.ys.now c.args.zs.now (some (goal.at.slice_bounds-serve-end c).Start),
      c.gather_stops.auto.stops,
      length-take (length c.args.xs.now) c.gather_stops.new.stops,
    )

pub serve-requires : goal.serve-requires
serve-requires c = (
  rw (points (goal.at.serve-requires c).After-gather_stops)
      (roomy c.args.h c.args.xs.now c.args.ys.now c.args.zs.now),
  rw (
    points (goal.at.serve-requires c).After-gather_stops,
    stops-are c.args.h c.args.xs.now c.args.ys.now c.args.zs.now (some (goal.at.serve-requires c).Start),
  )
      (stops_ready c.requires.1 (begins (goal.at.serve-requires c).After-mark_pruned-pruned)),
)

pub count_opened-opened-requires : goal.count_opened-opened-requires
count_opened-opened-requires c =
    omega (arith, (lengths (goal.at.count_opened-opened-requires c).After-serve).3, c.requires.1.args.marks)

pub overflow_cast-result : goal.overflow_cast-result
overflow_cast-result c =
    omega (
      arith,
      used_few c.requires.1 (λ i. omega (arith, c.type_inv.f i))
          (tried (goal.at.overflow_cast-result c).After-serve
          (begins (goal.at.overflow_cast-result c).After-mark_pruned-pruned)
          (points (goal.at.overflow_cast-result c).After-gather_stops)) (ap outcome_of c.in-Ok.is),
    )

pub overflow_cast-result-2 : goal.overflow_cast-result-2
overflow_cast-result-2 c = omega (arith, tiles_few c.args.f.now c.args.h c.requires.1.dir)

pub overflow_cast-result-3 : goal.overflow_cast-result-3
overflow_cast-result-3 c =
    omega (arith, tiles_few c.args.f.now c.args.h c.requires.1.dir, c.count_opened-opened.ensures.1)

pub overflow_cast-result-4 : goal.overflow_cast-result-4
overflow_cast-result-4 c = omega
    (arith, tiles_few c.args.f.now c.args.h c.requires.1.dir, c.mark_pruned-pruned.ensures.value.1)

pub shape_of-dist : goal.shape_of-dist
shape_of-dist c = (lengths (goal.at.shape_of-dist c).After-serve).0

pub shape_of-site : goal.shape_of-site
shape_of-site c = (lengths (goal.at.shape_of-site c).After-serve).1

pub shape_of-cue : goal.shape_of-cue
shape_of-cue c = (lengths (goal.at.shape_of-cue c).After-serve).2

pub shape_of-marks : goal.shape_of-marks
shape_of-marks c = (lengths (goal.at.shape_of-marks c).After-serve).3

pub returns : goal.returns
returns c =
    run_answers c.requires.1 (λ i. omega (arith, c.type_inv.f i))
    (tried (goal.at.returns c).After-serve (begins (goal.at.returns c).After-mark_pruned-pruned)
    (points (goal.at.returns c).After-gather_stops)) (ap outcome_of c.in-Ok.is)
    (c.mark_pruned-pruned.ensures.value.0
    ∙ ap (λ b. pruned_count (entries c.args.f.now c.args.h) b c.args.k)
    (box (goal.at.returns c).After-around))
    c.count_opened-opened.ensures.0

pub shape_of-dist-in-Err : goal.shape_of-dist-in-Err
shape_of-dist-in-Err c = (lengths (goal.at.shape_of-dist-in-Err c).After-serve).0

pub shape_of-site-in-Err : goal.shape_of-site-in-Err
shape_of-site-in-Err c = (lengths (goal.at.shape_of-site-in-Err c).After-serve).1

pub shape_of-cue-in-Err : goal.shape_of-cue-in-Err
shape_of-cue-in-Err c = (lengths (goal.at.shape_of-cue-in-Err c).After-serve).2

pub shape_of-marks-in-Err : goal.shape_of-marks-in-Err
shape_of-marks-in-Err c = (lengths (goal.at.shape_of-marks-in-Err c).After-serve).3

pub returns-in-Err : goal.returns-in-Err
returns-in-Err c =
    run_refuses c.requires.1 (λ i. omega (arith, c.type_inv.f i))
    (tried (goal.at.returns-in-Err c).After-serve (begins (goal.at.returns-in-Err c).After-mark_pruned-pruned)
    (points (goal.at.returns-in-Err c).After-gather_stops)) (ap outcome_of c.in-Err.is)
