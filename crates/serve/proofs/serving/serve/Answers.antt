use Prim.Native.Nat.{ℕ, ◌*◌, ◌<◌, ◌≤◌}
use mathlib.Core.List.{List, [], map}
use mathlib.Core.Path.{◌≡◌, refl, sym, ap, ◌∙◌}
use native.Mathlib.Omega.{arith}
use lib.IntN.{ℤ}
use lib.ListN.{get_or, length, take, length-take, length-map}
use Rattle.base.specs.Answer.{outcome_of}
use Rattle.blocks.specs.declared.header.Header.{Header}
use Rattle.blocks.specs.Layout.{max_tiles}
use Rattle.list.specs.Slices.{lent}
use Rattle.list.proofs.Clearing.{filled}
use Rattle.plan.specs.FilePlan.{entries}
use Rattle.plan.specs.Inner.Seam.{stop_of, ValidStop}
use Rattle.plan.proofs.Measures.{tiles_few}
use Rattle.queue.specs.Inner.Keys.{waits}
use Rattle.search.proofs.Lists.{all_get_d, get_d_map_lt}
use Rattle.queue.proofs.Gathering.{gathered, waiting_tiles, waiting_rise}
use Rattle.serve.specs.Inner.Serving.{waiting, walk_of, StopServed}
use Rattle.serve.proofs.StopLoop.{stop, stop_starts, stop_ends, stop_refused, stop_next, stop_ready}
use Rattle.serve.proofs.serving.serve.Goals as goal
use Rattle.serve.proofs.serving.serve.Goals.{After-gather-m, After-serve_stop-served}

-- what was gathered: the waiting tiles, in their order
waiting-gathered : (c : After-gather-m) →
    (c.gather-m.result ≤ c.args.h.tiles)
    × (take c.gather-m.result c.gather-m.new.order ≡ waiting c.args.f.now c.args.h c.args.marks.now)
waiting-gathered c = gathered c.gather-m.ensures (tiles_few c.args.f.now c.args.h c.requires.1.dir)

few-gathered : (c : After-gather-m) → c.gather-m.result ≤ max_tiles
few-gathered c = omega (arith, (waiting-gathered c).0, tiles_few c.args.f.now c.args.h c.requires.1.dir)

-- the stops as points: as many, and each by its first coordinates
module _ (h : Header) (stops : List (List ℤ)) where
  abbrev ps : List (List ℤ)
  ps = map (stop_of h) stops

  as_many : length ps ≡ length stops
  as_many = length-map stops (stop_of h)

  all-places : (k : ℕ) → length ps * k ≡ length stops * k
  all-places k = ap (λ n. n * k) as_many

  a-stop : {i : ℕ} → i < length stops → i < length ps
  a-stop l = rw as_many l

  point : {i : ℕ} → i < length stops → get_or ps i [] ≡ stop_of h (get_or stops i [])
  point {i} l = get_d_map_lt (stop_of h) stops i [] [] l

-- what the stop made of the slices, and what it answered
served : (c : After-serve_stop-served) →
    StopServed c.args.f.now c.args.h
    (stop c.loop-i.invariant.1 (a-stop c.args.h c.args.stops.now c.loop-i-test.true)) c.args.k c.loop-i.at
    (lent c.loop-i.dist c.loop-i.site c.loop-i.cue c.loop-i.marks) (outcome_of c.serve_stop-served.result)
    (lent c.serve_stop-served.new.dist c.serve_stop-served.new.site c.serve_stop-served.new.cue
    c.serve_stop-served.new.marks)
served c =
    let a = c.args in
    let tiles = waiting a.f.now a.h a.marks.now in
    let here = ap (stop_of a.h) c.stop_in-stop.ensures ∙ sym (point a.h a.stops.now c.loop-i-test.true) in
    let order = (gathered c.gather-m.ensures (tiles_few a.f.now a.h c.requires.1.dir)).1 in
    let same = ap (λ order. walk_of a.f.now a.h order (stop_of a.h c.stop_in-stop.result) a.k) order
    ∙ ap (λ stop. walk_of a.f.now a.h tiles stop a.k) here in
    rw same at c.serve_stop-served.ensures

-- ---- it is refused: the slices are still as long, and are cleared

kept : (c : After-serve_stop-served) →
    (length c.serve_stop-served.new.dist ≡ length c.args.dist.now)
    × (length c.serve_stop-served.new.site ≡ length c.args.site.now)
    × (length c.serve_stop-served.new.cue ≡ length c.args.cue.now)
    × (length c.serve_stop-served.new.marks ≡ length c.args.marks.now)
kept c =
    let t = c.loop-i.invariant.1 in
    let s = c.serve_stop-served.auto in
    (s.dist ∙ t.lengths.dist, s.site ∙ t.lengths.site, s.cue ∙ t.lengths.cue, s.marks ∙ t.long)

pub gather-m-requires : goal.gather-m-requires
gather-m-requires c =
    (c.requires.1.dir, c.requires.1.marks, tiles_few c.args.f.now c.args.h c.requires.1.dir)

pub loop-i-init : goal.loop-i-init
loop-i-init c =
    let a = c.args in
    let o = lent a.dist.now a.site.now a.cue.now a.marks.now in
    let ps = map (stop_of a.h) a.stops.now in
    (refl, stop_starts a.f.now a.h ps a.k o c.requires.1.clear c.requires.1.opens)

pub stop_in-stop-requires : goal.stop_in-stop-requires
stop_in-stop-requires c =
    let below = c.loop-i-test.true in
    (below, all_get_d (λ p. length p ≡ 3) c.args.stops.now c.loop-i.i [] below c.requires.0)

pub slice_bounds-order-end : goal.slice_bounds-order-end
slice_bounds-order-end c =
    omega (arith, few-gathered (goal.at.slice_bounds-order-end c).After-gather-m)

pub slice_bounds-serve_stop-end : goal.slice_bounds-serve_stop-end
slice_bounds-serve_stop-end c =
    omega (
      arith,
      few-gathered (goal.at.slice_bounds-serve_stop-end c).After-gather-m,
      c.gather-m.auto.order,
      length-take c.gather-m.result c.gather-m.new.order,
    )

pub serve_stop-served-requires : goal.serve_stop-served-requires
serve_stop-served-requires c =
    let w = waiting-gathered (goal.at.serve_stop-served-requires c).After-gather-m in
    let waits' = waits (entries c.args.f.now c.args.h) c.args.marks.now in
    let t = c.loop-i.invariant.1 in
    let a = c.args in
    let below = c.loop-i-test.true in
    record {
      dir = c.requires.1.dir;
      tiles = rw w.1 (waiting_tiles waits' c.args.h.tiles);
      rise = rw w.1 (waiting_rise waits' c.args.h.tiles);
      stop = rw (c.stop_in-stop.ensures, ← (point c.args.h c.args.stops.now below))
          (all_get_d (ValidStop a.h) (ps c.args.h c.args.stops.now) c.loop-i.i []
          (a-stop c.args.h c.args.stops.now below) c.requires.1.valid);
      list = stop_ready t (a-stop c.args.h c.args.stops.now below) c.requires.1.some c.requires.1.long;
      room =
          omega (
            arith,
            few-gathered (goal.at.serve_stop-served-requires c).After-gather-m,
            c.loop-i.invariant.0,
            length-take c.gather-m.result c.gather-m.new.order,
          );
      marks = omega (arith, c.requires.1.marks, t.long);
      opens = t.opens;
    }

pub overflow_mul-stops : goal.overflow_mul-stops
overflow_mul-stops c =
    omega (arith, c.requires.1.few, all-places c.args.h c.args.stops.now c.args.k)

pub clear_places-requires : goal.clear_places-requires
clear_places-requires c =
    let n = all-places c.args.h c.args.stops.now c.args.k in
    let long = c.requires.1.long in
    let k = kept (goal.at.clear_places-requires c).After-serve_stop-served in
    (omega (arith, n, k.0, long.0), (omega (arith, n, k.1, long.1.0), omega (arith, n, k.2, long.1.1)))

pub shape_of-dist-in_default : goal.shape_of-dist-in_default
shape_of-dist-in_default c =
    c.clear_places.auto.dist ∙ (kept (goal.at.shape_of-dist-in_default c).After-serve_stop-served).0

pub shape_of-site-in_default : goal.shape_of-site-in_default
shape_of-site-in_default c =
    c.clear_places.auto.site ∙ (kept (goal.at.shape_of-site-in_default c).After-serve_stop-served).1

pub shape_of-cue-in_default : goal.shape_of-cue-in_default
shape_of-cue-in_default c =
    c.clear_places.auto.cue ∙ (kept (goal.at.shape_of-cue-in_default c).After-serve_stop-served).2

pub returns-in_default : goal.returns-in_default
returns-in_default c =
    let marks = c.serve_stop-served.new.marks in
    let k = kept (goal.at.returns-in_default c).After-serve_stop-served in
    let room : c.args.h.tiles ≤ length marks = omega (arith, k.3, c.requires.1.marks) in
    stop_refused c.loop-i.invariant.1 (a-stop c.args.h c.args.stops.now c.loop-i-test.true)
    (served (goal.at.returns-in_default c).After-serve_stop-served)
    (ap outcome_of c.in_default.is) (rw (all-places c.args.h c.args.stops.now c.args.k) c.clear_places.ensures)
    (filled marks c.fill.new.self c.args.h.tiles 0 room (c.fill.ensures.after (λ y e. e)))

pub overflow_add-at : goal.overflow_add-at
overflow_add-at c =
    let ready = stop_ready c.loop-i.invariant.1 (a-stop c.args.h c.args.stops.now c.loop-i-test.true) c.requires.1.some
    c.requires.1.long
    in
    omega (arith, ready.long.0)

pub loop-i-preserved : goal.loop-i-preserved
loop-i-preserved c =
    let t = c.loop-i.invariant in (
      c.serve_stop-served.auto.keys ∙ t.0,
      stop_next t.1 (a-stop c.args.h c.args.stops.now c.loop-i-test.true)
          (served (goal.at.loop-i-preserved c).After-serve_stop-served) _
          (ap outcome_of c.in-Ok.is),
    )

pub returns : goal.returns
returns c =
    stop_ends c.loop-i.invariant.1 (omega (arith, c.loop-i-test.false, as_many c.args.h c.args.stops.now))
