use Prim.Native.Nat.{◌%◌, ◌+◌, ◌≤◌, min}
use mathlib.Core.Path.{◌≡◌, ◌∙◌}
use native.Mathlib.Omega.{arith}
use Rattle.blocks.specs.Layout.{max_tiles}
use Rattle.plan.specs.Inner.Seam.{region_of}
use Rattle.plan.proofs.Measures.{tiles_few}
use Rattle.stream.specs.Stream.{closer_from}
use Rattle.stream.proofs.Standing.{standing_skip}
use Rattle.stream.proofs.taking.release_all.Goals as goal
use Rattle.stream.proofs.taking.release_all.Goals.{Start, else-not-none_waits, then-not-none_waits}

most : (s : Start) → s.args.h.tiles ≤ max_tiles
most s = tiles_few s.args.f.now s.args.h s.requires.f_value.0

pub overflow_cast-t : goal.overflow_cast-t
overflow_cast-t c = omega (arith, most (goal.at.overflow_cast-t c).Start, c.requires.t_lt_tiles.0)

-- a group lies in the table
pub none_waits-requires : goal.none_waits-requires
none_waits-requires c =
    let inv = c.loop-first.invariant in
    let few = most (goal.at.none_waits-requires c).Start in
    (omega (arith, few, inv.0, inv.3.long_waits, c.requires.keys_len.2), inv.1)

pub loop-first-smaller : goal.loop-first-smaller
loop-first-smaller c = omega (arith, most (goal.at.loop-first-smaller c).Start)

pub loop-first-preserved : goal.loop-first-preserved
loop-first-preserved c =
    let inv = c.loop-first.invariant in
    let first = c.loop-first.first in
    let n = c.args.h.tiles in
    let closer = closer_from c.args.f.now c.args.h (region_of c.args.h c.args.o) in
    let aligned : (first + 32) % 32 ≡ 0 = omega (arith, inv.0) in
    let inside : first + 32 ≤ max_tiles = omega (arith, most (goal.at.loop-first-preserved c).Start, inv.0) in
    elim c.if-not-none_waits.branch [
      | then-not-none_waits w ↦
          let freed = w.release_among-before.ensures in
          let to = c.min-to.ensures in
          let here : c.min-to.result ≡ min (first + 32) n = omega (arith, to) in
          rw (w.waits-is, w.from-is, w.before-is) (
            aligned,
            inside,
            omega (arith, freed.0, inv.2),
            record {
              long_waits = freed.1.long_waits ∙ inv.3.long_waits;
              long_from = freed.1.long_from ∙ inv.3.long_from;
              standing = rw here at freed.1.standing;
              same_left = λ a. freed.1.same_left a ∙ inv.3.same_left a;
              same_before = λ j u. freed.1.same_before j u ∙ inv.3.same_before j (omega (arith, freed.0));
            },
          )
      | else-not-none_waits w ↦
          let none = c.none_waits.ensures w.if-not-none_waits.false in
          rw (w.waits-is, w.from-is, w.before-is) (
            aligned,
            inside,
            inv.2,
            record {
              long_waits = inv.3.long_waits;
              long_from = inv.3.long_from;
              standing = standing_skip closer n c.args.keys.now (min (first + 32) n) (omega arith)
                  (λ b m u v. none b (omega arith) (omega arith)) inv.3.standing;
              same_left = inv.3.same_left;
              same_before = inv.3.same_before;
            },
          )
    ]
