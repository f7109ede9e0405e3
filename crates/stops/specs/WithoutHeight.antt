-- Tests 11 to 14 of the join without 02.2: 17 is not among them.
use Rattle.std.specs.Prelude.{ℕ, ◌*◌, List, ℤ}
use Rattle.base.specs.Refusal.{Outcome, accepted, require, #k, #stops, #spot, #short}
use Rattle.blocks.specs.declared.header.Header.{Header}
use Rattle.search.specs.Limits.{valid_k}
use Rattle.stops.specs.Arguments.{stops_due, stops_valid, room}
use Rattle.stops.specs.Stops.{stop_count}
use Rattle.stops.specs.declared.arguments.Lengths.{Lengths}

-- "11 to 14"
unfoldable pub arguments_on_plan : Header → List (List ℤ) → ℕ → Lengths → Outcome Unit
arguments_on_plan h cols k l =
    require (valid_k k) #k 0
    (require (stops_due cols) #stops 0
    (require (stops_valid cols) #spot 0
    (require (room (stop_count cols * k) h.tiles l) #short 0
    (accepted tt))))
