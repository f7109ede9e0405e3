use Prim.Native.Nat.{ℕ, ◌-◌, ◌<◌, ◌≤◌}
use mathlib.Core.Bool.{Bool}
use mathlib.Core.Path.{◌≡◌, refl, ◌∙◌}
use native.Mathlib.Omega.{arith}
use lib.ListN.{length-set}
use borrow.Author.Rules.{rules}
use Rattle.blocks.specs.Layout.{max_tiles}
use Rattle.plan.specs.FilePlan.{entries}
use Rattle.plan.specs.Inner.Seam.{region_of}
use Rattle.search.specs.Lists.{bit}
use Rattle.search.specs.Pruning.{pruned, pruned_count}
use Rattle.base.proofs.HowMany.{bit-small}
use Rattle.plan.proofs.Tables.{table_turn, table_done}
use Rattle.prune.specs.Prune.{prune_marks}
use Rattle.plan.proofs.Measures.{known_axes, tiles_few}
use Rattle.prune.proofs.Summing.{count_turn, count_done}
use Rattle.prune.proofs.marking.prune_all.Goals as goal
use Rattle.prune.proofs.marking.prune_all.Goals.{Start}

most : (s : Start) → s.args.h.tiles ≤ max_tiles
most s = tiles_few s.args.f.now s.args.h s.requires.f_value.0

abbrev test : Start → ℕ → Bool
test s = pruned (entries s.args.f.now s.args.h) (region_of s.args.h s.args.o) s.args.k

pub middle_tile-middle-requires : goal.middle_tile-middle-requires
middle_tile-middle-requires c =
    let few = most (goal.at.middle_tile-middle-requires c).Start in
    (known_axes c.args.f.now c.args.h c.requires.f_value.0, few, c.requires.far_table.long)

pub loop-t-init : goal.loop-t-init
unfolding pruned_count prune_marks
loop-t-init c =
    let d : c.args.h.tiles - 0 ≡ c.args.h.tiles = omega arith in
    (omega arith, refl, rw d (omega arith), rw d)

pub loop-t-preserved : goal.loop-t-preserved
loop-t-preserved c =
    let i = c.loop-t.invariant in
    let x = c.prune_tile-x.ensures in
    let t = c.loop-t.t in
    let in-loop : t < c.args.h.tiles = search rules in
    let p = test (goal.at.loop-t-preserved c).Start in
    let q = count_turn p t c.args.h.tiles in-loop in (
      omega (arith, x, bit-small (p t)),
      length-set c.loop-t.marks t c.prune_tile-x.result ∙ i.1,
      omega (arith, x, q, i.2),
      rw x (table_turn (λ i. bit (p i)) c.loop-t.marks t t c.args.h.tiles in-loop ∙ i.3),
    )

pub returns : goal.returns
returns c =
    let past : c.args.h.tiles ≤ c.loop-t.t = search rules in
    let p = test (goal.at.returns c).Start in
    let q = count_done p c.loop-t.t c.args.h.tiles past in
    record {
      value = (omega (arith, q, c.loop-t.invariant.2), omega arith);
      marks_after =
          table_done (λ i. bit (p i)) c.loop-t.marks c.loop-t.t c.loop-t.t c.args.h.tiles past
          ∙ c.loop-t.invariant.3;
    }
