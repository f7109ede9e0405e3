-- The marks at the end of a run: those of pruning, with 2 for each tile asked for.
use Prim.Native.Nat.{ℕ, ◌<◌, ◌≤◌}
use mathlib.Core.Bool.{Bool, true, false, cond}
use mathlib.Core.List.{List, [], ◌∷◌, ◌++◌, map}
use mathlib.Core.Path.{◌≡◌, refl, sym, ◌∙◌}
use native.Mathlib.Decide.{dec_lt}
use native.Mathlib.Omega.{arith}
use lib.Dec.{eqb}
use lib.ListN.{length, get_or, set, length-set}
use lib.Seq.{get_or-set_same, get_or-set_other, ext_get_or}
use borrow.Author.Tests.{eqb-true, eqb-false}
use Rattle.base.specs.Over.{over}
use Rattle.search.specs.Lists.{range, bit, member, All}
use Rattle.search.specs.Plan.{Geometry, Directory}
use Rattle.search.specs.Pruning.{pruned}
use Rattle.search.specs.Run.{mark, marks}
use Rattle.base.proofs.Over.{length_over, get_d_after}
use Rattle.base.proofs.Tests.{by_test}
use Rattle.plan.proofs.Tables.{filled_at, table-length}
use Rattle.search.proofs.Equation.{with_new, with_new-member}
use Rattle.search.proofs.Lists.{all_map}
use Rattle.serve.specs.Inner.Marks.{mark_all}

pub length_mark_all : (ms ts : List ℕ) → length (mark_all ms ts) ≡ length ms
unfolding mark_all
length_mark_all ms [] = refl
length_mark_all ms (t ∷ ts) = length_mark_all (set ms t 2) ts ∙ length-set ms t 2

pub mark_all-append : (ms a b : List ℕ) → mark_all ms (a ++ b) ≡ mark_all (mark_all ms a) b
unfolding mark_all
mark_all-append ms [] b = refl
mark_all-append ms (t ∷ a) b = mark_all-append (set ms t 2) a b

mark_all_at : (ms ts : List ℕ) → All (λ t. t < length ms) ts → (i : ℕ)
    → get_or (mark_all ms ts) i 0 ≡ cond (member i ts) 2 (get_or ms i 0)
unfolding mark_all member
mark_all_at ms [] h i = refl
mark_all_at ms (t ∷ ts) h i =
    mark_all_at (set ms t 2) ts (all_map ts (λ u a. let n = length-set ms t 2 in omega (arith, a)) h.1) i
    ∙ by_test (eqb i t)
    (λ e. let q = eqb-true i t e in
    rw (e, q, get_or-set_same ms t 2 0 h.0) (same (member t ts)))
    (λ e. rw (e, get_or-set_other ms t i 2 0 (eqb-false i t e)))
  where
    same : (b : Bool) → ◌≡◌ {A = ℕ} (cond b 2 2) 2
    same true = refl
    same false = refl

module _ {G : Geometry} (E : Directory G) (O : G.Box) (k : ℕ) (asked : List ℕ) where
  -- the mark of a tile, from what pruning left
  mark_of : (i : ℕ) → mark E O k (with_new [] asked) i ≡ cond (member i asked) 2 (bit (pruned E O k i))
  unfolding mark member
  mark_of i = rw (with_new-member i [] asked) (by_test (pruned E O k i) (λ e. rw e) (λ e. rw e))

  pub marks_end : (m : List ℕ) → E.tiles ≤ length m → All (λ t. t < E.tiles) asked →
      mark_all (over m 0 (map (λ t. bit (pruned E O k t)) (range 0 E.tiles))) asked
      ≡ over m 0 (marks E O k (with_new [] asked))
  unfolding marks member
  marks_end m h a =
      ext_get_or 0 (mark_all ms asked) (over m 0 (map (mark E O k (with_new [] asked)) (range 0 E.tiles)))
      (length_mark_all ms asked ∙ length_over m 0 pruning
      ∙ sym (length_over m 0 (map (mark E O k (with_new [] asked)) (range 0 E.tiles))))
      (λ i l. mark_all_at ms asked (all_map asked (λ t b. let n = length_over m 0 pruning in omega (arith, b)) a) i
      ∙ go i (dec_lt i E.tiles))
    where
      pruning : List ℕ
      pruning = map (λ t. bit (pruned E O k t)) (range 0 E.tiles)

      ms : List ℕ
      ms = over m 0 pruning

      outside : (i : ℕ) → E.tiles ≤ i → (l : List ℕ) → All (λ t. t < E.tiles) l → member i l ≡ false
      outside i b [] a = refl
      outside i b (t ∷ l) a = by_test (eqb i t) (λ e. absurd (let q = eqb-true i t e in omega (arith, a.0)))
          (λ e. rw e (outside i b l a.1))

      go : (i : ℕ) → Dec (i < E.tiles) → cond (member i asked) 2 (get_or ms i 0)
          ≡ get_or (over m 0 (map (mark E O k (with_new [] asked)) (range 0 E.tiles))) i 0
      go i (yes l) =
          rw (
            filled_at (λ t. bit (pruned E O k t)) m E.tiles i h l,
            filled_at (mark E O k (with_new [] asked)) m E.tiles i h l,
          ) (sym (mark_of i))
      go i (no l) =
          let e = table-length (λ t. bit (pruned E O k t)) 0 E.tiles in
          let e' = table-length (mark E O k (with_new [] asked)) 0 E.tiles in
          let b : E.tiles ≤ i = omega arith in
          rw (outside i b asked a) (get_d_after m 0 i pruning (omega arith)
          ∙ sym (get_d_after m 0 i (map (mark E O k (with_new [] asked)) (range 0 E.tiles)) (omega arith)))
