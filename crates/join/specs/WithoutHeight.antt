-- The join without 02.2: no test for 17.
--
--   tests_on_plan      tests 1 to 14
--   join_end_on_plan   what the call comes to, and the slices at its end
use Rattle.std.specs.Prelude.{ℕ, List, ℤ}
use Rattle.base.specs.Refusal.{Outcome, accepted, and_then}
use Rattle.blocks.specs.WithoutHeight.{directory_on_plan}
use Rattle.blocks.specs.declared.header.Header.{Header}
use Rattle.list.specs.Slices.{Slices}
use Rattle.stops.specs.WithoutHeight.{arguments_on_plan}
use Rattle.join.specs.Join.{End, lengths_of, join_from}

-- "1; each directory block 2 to 9 in table order; 11 to 14"; gives the header, of two axes
unfoldable pub tests_on_plan : List ℕ → List (List ℤ) → ℕ → Slices → Outcome Header
tests_on_plan f cols k out =
    and_then (directory_on_plan f) (λ h.
    and_then (arguments_on_plan h cols k (lengths_of out)) (λ _.
    accepted h))

-- "openings", by that header
unfoldable pub join_end_on_plan : List ℕ → List (List ℤ) → ℕ → Slices → End
join_end_on_plan f cols k out = join_from f cols k out (tests_on_plan f cols k out)
