use Prim.Native.Nat.{◌<◌}
use mathlib.Core.Bool.{false}
use mathlib.Core.Path.{◌≡◌, refl, sym, ◌∙◌}
use native.Mathlib.Omega.{arith}
use lib.ListN.{length, length-set, get_or}
use Rattle.list.specs.Inner.Keeping.{places}
use Rattle.list.specs.Slices.{lists, lent}
use Rattle.plan.specs.FilePlan.{opening_of}
use Rattle.queue.specs.Inner.Keys.{none, least_key}
use Rattle.search.specs.Inner.Cut.{last_ahead}
use Rattle.base.proofs.Outcomes.{accepted_injective, and_then_accepted, and_then_refused}
use Rattle.base.proofs.Passing.{passed_on}
use Rattle.plan.proofs.Measures.{tiles_few}
use Rattle.queue.proofs.Scanning.{passed_none, passed_next, some_key-some, some_key-none}
use Rattle.queue.proofs.Waiting.{keyed_start, living_start, living_fewer, index_at, tile_in_order}
use Rattle.serve.specs.Inner.Serving.{after_tile}
use Rattle.serve.proofs.TileLoop.{tile_starts, tile_none, tile_full, tile_refused, tile_next}
use Rattle.serve.proofs.serving.serve_stop.Goals as goal
use Rattle.serve.proofs.serving.serve_stop.Goals.{After-take_tile, In-Some, Else-last_ahead}

-- ---- facts, each at the place where it first holds

-- a key is left: it is that of a tile that waits
least-is : (c : In-Some) → c.in-Some.least ≡ least_key c.loop-least.keys 0 (length c.args.order.now)
least-is c = (some_key-some _ _ c.in-Some.ensures).0

key_left : (c : In-Some) → c.in-Some.least.key < none
key_left c = (some_key-some _ _ c.in-Some.ensures).1

index_below : (c : In-Some) → c.in-Some.least.at < length c.args.order.now
index_below c = index_at c.loop-least.invariant.1.keyed c.in-Some.least (least-is c) (key_left c)

tile-below : (c : In-Some) → get_or c.args.order.now c.in-Some.least.at 0 < c.args.h.tiles
tile-below c =
    tile_in_order c.loop-least.invariant.1.keyed c.in-Some.least (least-is c) (key_left c)
    (λ t. t < c.args.h.tiles) c.requires.tiles

-- it is not: the tile is taken
not_full : (c : Else-last_ahead) →
    let r = c.in-Some.least in
    last_ahead c.args.target.k
    (places (lists c.loop-least.dist c.loop-least.site c.loop-least.cue) c.args.target.at c.loop-least.used)
    r.key (get_or c.args.order.now r.at 0) ≡ false
not_full c = sym (c.last_ahead.ensures c.loop-least.cue) ∙ c.if-last_ahead.false

-- what the tile made of the slices, and what it answered
slices-taken : (c : After-take_tile) →
    let a = c.args in
    let t = get_or a.order.now c.in-Some.least.at 0 in
    lent c.take_tile.new.dist c.take_tile.new.site c.take_tile.new.cue
    c.take_tile.new.marks
    ≡ after_tile a.h t a.target c.loop-least.used (opening_of a.f.now a.h t)
    (lent c.loop-least.dist c.loop-least.site c.loop-least.cue c.loop-least.marks)
slices-taken c = c.take_tile.ensures.marks_after

pub fill_keys-requires : goal.fill_keys-requires
fill_keys-requires c =
    (c.requires.dir, c.requires.stop, c.requires.tiles, c.requires.room)

pub loop-least-init : goal.loop-least-init
loop-least-init c =
    let a = c.args in
    let p = c.requires in
    let o = lent a.dist.now a.site.now a.cue.now a.marks.now in
    let f = a.f.now in
    let order = a.order.now in
    let e = c.fill_keys.ensures in
    let keyed = keyed_start f a.h p.dir p.stop order p.tiles a.keys.now p.room p.rise in
    let all = living_start f a.h p.dir p.stop order p.tiles a.keys.now p.room in (
      refl,
      tile_starts f a.h order a.target o p.list (rw e keyed) (rw e all) p.opens,
      passed_none _ (length order),
    )

pub next_key-requires : goal.next_key-requires
next_key-requires c =
    (c.loop-least.invariant.1.keyed.long, c.loop-least.invariant.2)

pub returns : goal.returns
returns c =
    tile_none c.loop-least.invariant.1 _ refl (some_key-none _ (sym c.in_default.is ∙ c.next_key.ensures))

pub offset_bounds-order-j : goal.offset_bounds-order-j
offset_bounds-order-j c =
    omega (arith, index_below (goal.at.offset_bounds-order-j c).In-Some)

pub bounds-order-j : goal.bounds-order-j
bounds-order-j c = index_below (goal.at.bounds-order-j c).In-Some

pub overflow_cast-t : goal.overflow_cast-t
overflow_cast-t c =
    omega (arith, tile-below (goal.at.overflow_cast-t c).In-Some, tiles_few c.args.f.now c.args.h c.requires.dir)

pub last_ahead-requires : goal.last_ahead-requires
last_ahead-requires c =
    let ready = c.loop-least.invariant.1.ready in
    (ready.some, ready.few, ready.long.0, ready.long.1.0)

-- the list is full ahead of the key
pub returns-then-last_ahead : goal.returns-then-last_ahead
returns-then-last_ahead c =
    let some = (goal.at.returns-then-last_ahead c).In-Some in
    let full = sym (c.last_ahead.ensures c.loop-least.cue) ∙ c.if-last_ahead.true in
    tile_full c.loop-least.invariant.1 c.in-Some.least (least-is some) (key_left some) full

pub take_tile-requires : goal.take_tile-requires
take_tile-requires c =
    let p = c.requires in
    let t = c.loop-least.invariant.1 in
    record {
      tile = record { dir = p.dir; below = tile-below (goal.at.take_tile-requires c).In-Some };
      stop = p.stop;
      list = t.ready;
      marks = omega (arith, p.marks, t.long);
      opens = t.opens;
    }

pub returns-in_err-used : goal.returns-in_err-used
returns-in_err-used c =
    let a = c.args in
    let n = c.in-Some.least in
    let some = (goal.at.returns-in_err-used c).In-Some in
    let t = get_or a.order.now n.at 0 in
    let d = and_then_refused (opening_of a.f.now a.h t) _ (sym c.in_err-used.ensures.result_value) in
    let same = rw d at (slices-taken (goal.at.returns-in_err-used c).After-take_tile) in
    rw (passed_on c.from_residual.result _ c.from_residual.ensures, same)
    (tile_refused c.loop-least.invariant.1 n (least-is some) (key_left some)
    (not_full (goal.at.returns-in_err-used c).Else-last_ahead) _ _ d)

pub offset_bounds-keys-j : goal.offset_bounds-keys-j
offset_bounds-keys-j c =
    omega (arith, index_below (goal.at.offset_bounds-keys-j c).In-Some)

pub bounds-keys-j : goal.bounds-keys-j
bounds-keys-j c =
    omega (arith, index_below (goal.at.bounds-keys-j c).In-Some, c.loop-least.invariant.1.keyed.long)

pub overflow_add-from : goal.overflow_add-from
overflow_add-from c =
    omega (arith, index_below (goal.at.overflow_add-from c).In-Some)

-- the tile opened, and the walk goes on
pub loop-least-smaller : goal.loop-least-smaller
loop-least-smaller c =
    let some = (goal.at.loop-least-smaller c).In-Some in
    living_fewer c.loop-least.invariant.1.keyed c.in-Some.least (least-is some) (key_left some)

pub loop-least-preserved : goal.loop-least-preserved
loop-least-preserved c =
    let a = c.args in
    let n = c.in-Some.least in
    let some = (goal.at.loop-least-preserved c).In-Some in
    let t = get_or a.order.now n.at 0 in
    let turn = c.loop-least.invariant.1 in
    let d = and_then_accepted (opening_of a.f.now a.h t) _
    (sym c.in_ok-used.ensures.result_value) in
    let same = rw d.1 at (slices-taken (goal.at.loop-least-preserved c).After-take_tile) in
    let next = tile_next turn n (least-is some) (key_left some)
    (not_full (goal.at.loop-least-preserved c).Else-last_ahead) d.0 d.1 (tile-below (goal.at.loop-least-preserved c).In-Some)
    (omega (arith, c.requires.marks, turn.long)) (sym (accepted_injective d.2)) in (
      length-set c.loop-least.keys n.at none ∙ c.loop-least.invariant.0,
      rw same next,
      passed_next c.loop-least.keys (length a.order.now) n (least-is some) (key_left some) turn.keyed.long,
    )
