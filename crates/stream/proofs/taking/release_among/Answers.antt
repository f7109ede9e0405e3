use Prim.Native.Nat.{ℕ, ◌+◌, ◌<◌, ◌≤◌}
use mathlib.Core.Bool.{true}
use mathlib.Core.Path.{◌≡◌, ap, sym, ◌∙◌}
use native.Mathlib.Omega.{arith}
use lib.ListN.{length, length-set}
use Rattle.blocks.specs.Layout.{max_tiles}
use Rattle.plan.specs.Inner.Seam.{region_of}
use Rattle.plan.proofs.Measures.{tiles_few}
use Rattle.stream.specs.Inner.State.{is_left, taken_mark}
use Rattle.stream.specs.Stream.{closer_from}
use Rattle.stream.proofs.Standing.{left_by, left_same, waits_kept, standing_next, standing_skip}
use Rattle.stream.proofs.taking.release_among.Goals as goal
use Rattle.stream.proofs.taking.release_among.Goals.{At-loop-b, Start, else-waits-b, then-waits-b}

most : (s : Start) → s.args.h.tiles ≤ max_tiles
most s = tiles_few s.args.f.now s.args.h s.requires.f_value.0

-- there is room for tile b
room : (l : At-loop-b) → (b : ℕ) → b < l.args.to → (b < length l.loop-b.waits) × (b < length l.loop-b.from)
room l b u =
    let table = l.requires.keys_len in
    let few = tiles_few l.args.f.now l.args.h l.requires.f_value.0 in
    let inside : b < max_tiles = omega (arith, few, l.requires.t_lt_tiles.2) in
    (omega (arith, l.loop-b.invariant.1.long_waits, table.2), omega (arith, l.loop-b.invariant.1.long_from, table.3))

pub bounds-waits-b : goal.bounds-waits-b
bounds-waits-b c =
    (room (goal.at.bounds-waits-b c).At-loop-b c.loop-b.b (omega arith)).0

pub overflow_cast-t : goal.overflow_cast-t
overflow_cast-t c =
    omega (arith, most (goal.at.overflow_cast-t c).Start, c.requires.t_lt_tiles.0)

pub loop-b-preserved : goal.loop-b-preserved
loop-b-preserved c =
    let inv = c.loop-b.invariant in
    let b = c.loop-b.b in
    let n = c.args.h.tiles in
    let keys = c.args.keys.now in
    let closer = closer_from c.args.f.now c.args.h (region_of c.args.h c.args.o) in
    let ends = c.requires.t_lt_tiles in
    elim c.if-waits-b.branch [
      | then-waits-b w ↦
          let found = w.release.ensures in
          let least = w.min-before.ensures in
          let places = room (goal.at.loop-b-preserved c).At-loop-b b (omega arith) in
          let here : is_left c.loop-b.waits b ≡ true =
          left_by c.loop-b.waits b (λ e.
          let q : c.args.t ≡ taken_mark = sym w.if-waits-b.true ∙ e in
          omega (arith, most (goal.at.loop-b-preserved c).Start, ends.0)) in
          rw (w.waits-is, w.from-is, w.before-is) (
            omega (arith, least, inv.0),
            record {
              long_waits = ap length found.waits_set ∙ length-set c.loop-b.waits b found.w ∙ inv.1.long_waits;
              long_from = ap length found.from_set ∙ length-set c.loop-b.from b found.r ∙ inv.1.long_from;
              standing = standing_next closer n keys found places.0 places.1 here inv.1.standing;
              same_left = λ a. left_same closer n keys found places.0 places.1 here a ∙ inv.1.same_left a;
              same_before = λ j u.
                  waits_kept closer n keys found places.0 places.1 here j (omega (arith, least))
                  ∙ inv.1.same_before j (omega (arith, least));
            },
          )
      | else-waits-b w ↦
          rw (w.waits-is, w.from-is, w.before-is) (
            inv.0,
            record {
              long_waits = inv.1.long_waits;
              long_from = inv.1.long_from;
              standing = standing_skip closer n keys (b + 1) (omega arith)
                  (λ j u v _. let q : j ≡ b = omega arith in rw q w.if-waits-b.false) inv.1.standing;
              same_left = inv.1.same_left;
              same_before = inv.1.same_before;
            },
          )
    ]
