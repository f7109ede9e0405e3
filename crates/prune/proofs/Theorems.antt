-- The theorems of this crate for the reader. Of a call that answers, its marks and the number struck: `prunes_exactly`,
-- what is claimed `PrunesExactly` (specs/Claims). The call is `call::prune`, its definitions `prune_call` and
-- `marks_after` (specs/Prune). Of towns without height: `prune_on_plan`, `marks_on_plan` (specs/WithoutHeight). f is the
-- file, o the box O.
use Prim.Native.Nat.{ℕ, ◌≤◌}
use mathlib.Core.List.{List, [], map}
use mathlib.Core.Path.{◌≡◌, refl, sym, ap, ◌∙◌}
use native.Mathlib.Omega.{arith}
use lib.Dec.{eqb, leb}
use lib.IntN.{ℤ}
use lib.ListN.{length}
use borrow.Author.Tests.{leb-true, eq-eqb}
use Rattle.base.specs.Over.{over}
use Rattle.base.specs.Refusal.{Outcome, accepted, refused, #k, #axes, #box, #short}
use Rattle.blocks.specs.Directory.{directory}
use Rattle.blocks.specs.Layout.{plan}
use Rattle.blocks.specs.WithoutHeight.{directory_on_plan, PlanFile}
use Rattle.blocks.specs.declared.header.Header.{Header}
use Rattle.geometry.specs.Box.{valid_box}
use Rattle.plan.specs.FilePlan.{entries}
use Rattle.search.specs.Limits.{valid_k}
use Rattle.search.specs.Lists.{range, bit, member}
use Rattle.search.specs.Pruning.{pruned, pruned_count}
use Rattle.search.specs.Run.{mark, marks}
use Rattle.base.proofs.Outcomes.{accepted_injective, require_accepted, and_then_accepted, and_then-same, by_outcome}
use Rattle.base.proofs.Over.{get_d_after}
use Rattle.base.proofs.Tests.{by_test}
use Rattle.blocks.proofs.Theorems.{directory_on_plan_lem, plan_towns}
use Rattle.plan.proofs.Tables.{table-length, filled_at, filled-take}
use Rattle.search.proofs.Lists.{all_any}
use Rattle.search.proofs.Marks.{mark_pruned, mark_neither, marks_pruned}
use Rattle.search.proofs.SameEntries.{map_same}
use Rattle.prune.specs.Claims.{PrunesExactly}
use Rattle.prune.specs.Prune.{prune_call, prune_marks, marks_after}
use Rattle.prune.specs.WithoutHeight.{prune_call_on_plan, marks_after_on_plan}
use Rattle.prune.specs.declared.call.Pruned.{Pruned}

-- the marks are those of a join that has opened nothing
marks_are : (f : List ℕ) (h : Header) (o : List (List ℤ)) (k : ℕ) → prune_marks f h o k ≡ marks (entries f h) o k []
unfolding prune_marks marks mark member
marks_are f h o k =
    map_same _ _ (range 0 h.tiles)
    (all_any (λ t. bit (pruned (entries f h) o k t) ≡ mark (entries f h) o k [] t) (range 0 h.tiles)
    (λ t. by_test (pruned (entries f h) o k t) (λ e. rw e) (λ e. rw e)))

module _ (f : List ℕ) (o : List (List ℤ)) (k : ℕ) (lent : List ℕ) where
  -- what an answer shows
  record Answered (c : Pruned) : Type 0 where
    h : Header
    dir : directory f ≡ accepted h
    room : h.tiles ≤ length lent
    counts : c ≡ record { tiles = h.tiles; pruned = pruned_count (entries f h) o k }
    left : marks_after f o k lent (prune_call f o k lent) ≡ over lent 0 (marks (entries f h) o k [])

  left_by : (c : Pruned) (h : Header) → directory f ≡ accepted h
      → marks_after f o k lent (accepted c) ≡ over lent 0 (marks (entries f h) o k [])
  unfolding marks_after
  left_by c h d = rw d (ap (over lent 0) (marks_are f h o k))

  answered : (c : Pruned) → prune_call f o k lent ≡ accepted c → Answered c
  unfolding prune_call
  answered c e =
      let d = and_then_accepted (directory f) _ e in
      let h = d.0 in
      let good_k = require_accepted (valid_k k) #k 0 _ d.2 in
      let good-axes = require_accepted (eqb h.axes (length o)) #axes 0 _ good_k.1 in
      let good-box = require_accepted (valid_box o) #box 0 _ good-axes.1 in
      let long = require_accepted (leb h.tiles (length lent)) #short 0 _ good-box.1 in
      record {
        h = h;
        dir = d.1;
        room = leb-true h.tiles (length lent) long.0;
        counts = sym (accepted_injective long.1);
        left = ap (marks_after f o k lent) e ∙ left_by c h d.1;
      }

  -- "Marks: 1 struck, 0 not. The result carries T and the number struck."
  pub prunes_exactly : (c : Pruned) → prune_call f o k lent ≡ accepted c → (h : Header) × PrunesExactly f o k lent h c
  unfolding marks member
  prunes_exactly c e =
      let a = answered c e in
      let h = a.h in
      let m = mark (entries f h) o k [] in (
        h,
        record {
          header = a.dir;
          marked = λ t l. rw a.left (rw (filled_at m lent h.tiles t a.room l)
              (mark_pruned (entries f h) o k [] tt t));
          unmarked = λ t l. rw a.left (rw (filled_at m lent h.tiles t a.room l)
              (let n = mark_neither (entries f h) o k [] t in (λ x. (n.0 x).1, λ x. n.1 (refl, x))));
          tiles = ap (λ (z : Pruned). z.tiles) a.counts;
          count_pruned = ap (λ (z : Pruned). z.pruned) a.counts
              ∙ sym (rw a.left (rw (filled-take m lent h.tiles a.room)
              (marks_pruned (entries f h) o k [] tt)));
          past = λ t l. rw a.left (get_d_after lent 0 t (map m (range 0 h.tiles))
              (omega (arith, table-length m 0 h.tiles, l)));
        },
      )

-- 02.2: "plan towns keep their answers": of a call for two axes, on a file of at most 512,000 bytes whose block 0 is
-- not of kind 3, the outcome is that without 02.2, and so are the marks at its end; refusals included
module _ (f : List ℕ) (town : PlanFile f) (o : List (List ℤ)) (k : ℕ) (lent : List ℕ) where
  pub prune_on_plan : length o ≡ plan → prune_call f o k lent ≡ prune_call_on_plan f o k lent
  unfolding prune_call prune_call_on_plan
  prune_on_plan plane =
      rw (directory_on_plan_lem f town)
      (and_then-same (directory_on_plan f) _ _
      (λ h e. rw (eq-eqb h.axes (length o) (((plan_towns f h).0 e).1 ∙ sym plane))))

  -- by the outcome, and by that of the directory
  left_on_plan : (c : Outcome Pruned) → marks_after f o k lent c ≡ marks_after_on_plan f o k lent c
  unfolding marks_after marks_after_on_plan
  left_on_plan (accepted c) =
      rw (directory_on_plan_lem f town)
      (by_outcome (directory_on_plan f) (λ h e. rw e) (λ number block e. rw e))
  left_on_plan (refused number block) = refl

  pub marks_on_plan : length o ≡ plan →
      marks_after f o k lent (prune_call f o k lent) ≡ marks_after_on_plan f o k lent (prune_call_on_plan f o k lent)
  marks_on_plan plane = ap (marks_after f o k lent) (prune_on_plan plane) ∙ left_on_plan (prune_call_on_plan f o k lent)
