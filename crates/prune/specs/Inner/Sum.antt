-- The sum that the code forms over the tiles, of a table of distances from the corners of a region in which tile t
-- stands at place t.
--
--   sum_below   how many sites rank of those of some tiles that are far below near, from each corner
use Rattle.std.specs.Prelude.{ℕ, List}
use Rattle.blocks.specs.declared.header.Header.{Header}
use Rattle.corners.specs.Inner.Tables.{below_all}
use Rattle.plan.specs.FilePlan.{entries}
use Rattle.search.specs.Lists.{range, total}
use Rattle.search.specs.Plan.{ranked}

-- of the n tiles from a on
abbrev pub sum_below : List ℕ → Header → List ℕ → List ℕ → ℕ → ℕ → ℕ
sum_below f h table near a n = total (below_all h table near) (ranked (entries f h)) (range a n)
