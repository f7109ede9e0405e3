-- Striking without 02.2: no test for 17.
--
--   prune_call_on_plan    what the call comes to
--   marks_after_on_plan   the marks at the end
use Rattle.std.specs.Prelude.{ℕ, List, leb, ℤ, length}
use Rattle.base.specs.Over.{over}
use Rattle.base.specs.Refusal.{Outcome, accepted, refused, require, and_then, #k, #box, #short}
use Rattle.blocks.specs.WithoutHeight.{directory_on_plan}
use Rattle.blocks.specs.declared.header.Header.{Header}
use Rattle.geometry.specs.Box.{valid_box}
use Rattle.plan.specs.FilePlan.{entries}
use Rattle.search.specs.Limits.{valid_k}
use Rattle.search.specs.Pruning.{pruned_count}
use Rattle.prune.specs.Prune.{prune_marks}
use Rattle.prune.specs.declared.call.Pruned.{Pruned}

-- "Strike: 1, directory, 11, 9 for O, 14"
unfoldable pub prune_call_on_plan : List ℕ → List (List ℤ) → ℕ → List ℕ → Outcome Pruned
prune_call_on_plan f o k marks =
    and_then (directory_on_plan f) (λ h.
    require (valid_k k) #k 0
    (require (valid_box o) #box 0
    (require (leb h.tiles (length marks)) #short 0
    (accepted (record { tiles = h.tiles; pruned = pruned_count (entries f h) o k })))))

-- "Marks: 1 struck, 0 not."; a refusal "leaves the lent slices unchanged", and "elements past these never change"
unfoldable pub marks_after_on_plan : List ℕ → List (List ℤ) → ℕ → List ℕ → Outcome Pruned → List ℕ
marks_after_on_plan f o k marks (accepted c) = marked (directory_on_plan f)
  where
    marked : Outcome Header → List ℕ
    marked (accepted h) = over marks 0 (prune_marks f h o k)
    marked (refused number block) = marks
marks_after_on_plan f o k marks (refused number block) = marks
