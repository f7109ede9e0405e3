-- Document 01, "The join", with 02.2: what the call comes to, and what it leaves in the four slices. A call has a
-- column of coordinates for each of its axes.
--
--   run_for                   the run of the search on a file
--   tests                     tests 1 to 14 and 17
--   filled, result_of         what a run writes, and its result
--   ended, run_end            the end of a run
--   End, join_end             what the call comes to, and the slices at its end
use Rattle.std.specs.Prelude.{ℕ, ◌*◌, List, ℤ, length}
use Rattle.base.specs.Over.{over}
use Rattle.base.specs.Refusal.{Outcome, accepted, refused, and_then}
use Rattle.blocks.specs.Directory.{directory}
use Rattle.blocks.specs.declared.header.Header.{Header}
use Rattle.geometry.specs.Around.{around}
use Rattle.list.specs.Slices.{Slices, lay, cleared}
use Rattle.plan.specs.FilePlan.{entries, opening_of}
use Rattle.search.specs.Pruning.{pruned_count}
use Rattle.search.specs.Run.{Run, join, in_rows, places_used, marks}
use Rattle.search.specs.declared.Place.{Place}
use Rattle.stops.specs.Arguments.{arguments}
use Rattle.stops.specs.Stops.{stop_count, stops_of}
use Rattle.stops.specs.declared.arguments.Lengths.{Lengths}
use Rattle.join.specs.declared.call.Joined.{Joined}

-- what the call comes to, and the slices at its end
pub record End : Type 0 where
  pub outcome : Outcome Joined
  pub slices : Slices

-- the stops by columns; "O is the smallest box around the stops"
unfoldable pub run_for : List ℕ → Header → List (List ℤ) → ℕ → Run (List (List Place))
run_for f h cols k = join (entries f h) (around cols) k (opening_of f h) (stops_of cols)

abbrev pub lengths_of : Slices → Lengths
lengths_of out = record {
  dist = length out.lists.dist;
  site = length out.lists.site;
  cue = length out.lists.cue;
  marks = length out.marks;
}

-- "1; each directory block 2 to 9 in table order; 11 to 14", 02.2: 17 "tested after 12"; gives the header
unfoldable pub tests : List ℕ → List (List ℤ) → ℕ → Slices → Outcome Header
tests f cols k out =
    and_then (directory f) (λ h.
    and_then (arguments h cols k (lengths_of out)) (λ _.
    accepted h))

-- n × k places and T marks over the slices; "elements past these never change"
unfoldable pub filled : List Place → List ℕ → Slices → Slices
filled l m out = record { lists = lay out.lists 0 l; marks = over out.marks 0 m }

-- "The result carries places used, T, opened and struck": that of a run with these openings
abbrev pub result_of : List ℕ → Header → List (List ℤ) → ℕ → List ℕ → Joined
result_of f h cols k opened = record {
  used = places_used (entries f h) k;
  tiles = h.tiles;
  opened = length opened;
  pruned = pruned_count (entries f h) (around cols) k;
}

-- the end of a run: its lists, marks and counts, or its refusal. "A refusal by an opening, the first included, leaves
-- the first n × k places and T marks zero"
unfoldable pub ended : List ℕ → Header → List (List ℤ) → ℕ → List ℕ → Slices → Outcome (List (List Place)) → End
ended f h cols k opened out (accepted ls) = record {
  outcome = accepted (result_of f h cols k opened);
  slices = filled (in_rows k ls) (marks (entries f h) (around cols) k opened) out;
}
ended f h cols k opened out (refused number block) =
    record { outcome = refused number block; slices = cleared 0 (stop_count cols * k) h.tiles out }

unfoldable pub run_end : List ℕ → Header → List (List ℤ) → ℕ → Slices → End
run_end f h cols k out = let r = run_for f h cols k in ended f h cols k r.openings out r.outcome

-- the whole call: "any earlier [refusal] leaves the lent slices unchanged"
unfoldable pub join_from : List ℕ → List (List ℤ) → ℕ → Slices → Outcome Header → End
join_from f cols k out (accepted h) = run_end f h cols k out
join_from f cols k out (refused number block) = record { outcome = refused number block; slices = out }

unfoldable pub join_end : List ℕ → List (List ℤ) → ℕ → Slices → End
join_end f cols k out = join_from f cols k out (tests f cols k out)
