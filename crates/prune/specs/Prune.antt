-- Document 01, "Striking", with 02.2: what the call comes to, and what it leaves in the marks.
--
--   prune_call                 what the call comes to
--   prune_marks, marks_after   the marks of the tiles, and the slice at the end
use Rattle.std.specs.Prelude.{ℕ, List, map, eqb, leb, ℤ, length}
use Rattle.base.specs.Over.{over}
use Rattle.base.specs.Refusal.{Outcome, accepted, refused, require, and_then, #k, #axes, #box, #short}
use Rattle.blocks.specs.Directory.{directory}
use Rattle.blocks.specs.declared.header.Header.{Header}
use Rattle.geometry.specs.Box.{valid_box}
use Rattle.plan.specs.FilePlan.{entries}
use Rattle.search.specs.Limits.{valid_k}
use Rattle.search.specs.Lists.{range, bit}
use Rattle.search.specs.Pruning.{pruned, pruned_count}
use Rattle.prune.specs.declared.call.Pruned.{Pruned}

-- "The result carries T and the number struck."; "Strike: 1, directory, 11, 9 for O, 14"; 02.2: "17 when the call has
-- another number of axes than the town .., in strike after 11"
unfoldable pub prune_call : List ℕ → List (List ℤ) → ℕ → List ℕ → Outcome Pruned
prune_call f o k marks =
    and_then (directory f) (λ h.
    require (valid_k k) #k 0
    (require (eqb h.axes (length o)) #axes 0
    (require (valid_box o) #box 0
    (require (leb h.tiles (length marks)) #short 0
    (accepted (record { tiles = h.tiles; pruned = pruned_count (entries f h) o k }))))))

-- "Marks: 1 struck, 0 not."
unfoldable pub prune_marks : List ℕ → Header → List (List ℤ) → ℕ → List ℕ
prune_marks f h o k = map (λ t. bit (pruned (entries f h) o k t)) (range 0 h.tiles)

-- the marks at the end: a refusal "leaves the lent slices unchanged", and "elements past these never change"
unfoldable pub marks_after : List ℕ → List (List ℤ) → ℕ → List ℕ → Outcome Pruned → List ℕ
marks_after f o k marks (accepted c) = marked (directory f)
  where
    marked : Outcome Header → List ℕ
    marked (accepted h) = over marks 0 (prune_marks f h o k)
    marked (refused number block) = marks
marks_after f o k marks (refused number block) = marks
