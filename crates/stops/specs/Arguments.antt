-- Tests 11 to 14 and 17 of the join, in their order (document 01, "Numbers given to bad input"; 02.2).
use Rattle.std.specs.Prelude.{ℕ, ◌*◌, Bool, ◌&&◌, List, eqb, leb, ℤ, length}
use Rattle.base.specs.Every.{every}
use Rattle.base.specs.Refusal.{Outcome, accepted, require, #k, #stops, #axes, #spot, #short}
use Rattle.blocks.specs.declared.header.Header.{Header}
use Rattle.geometry.specs.Around.{equal_columns}
use Rattle.search.specs.Limits.{valid_k, max_stops}
use Rattle.stops.specs.Stops.{stop_count, valid_stop}
use Rattle.stops.specs.declared.arguments.Lengths.{Lengths}

-- 12: "none, over 256, or unequal x and y slices"; 02.2: "12 takes in a z slice of another length"
unfoldable pub stops_due : List (List ℤ) → Bool
stops_due cols = (leb 1 (stop_count cols) && leb (stop_count cols) max_stops) && equal_columns (stop_count cols) cols

-- 02.2: "17 when the call has another number of axes than the town": a column for each axis of the call
unfoldable pub axes_due : Header → List (List ℤ) → Bool
axes_due h cols = eqb h.axes (length cols)

-- 13, of all stops
unfoldable pub stops_valid : List (List ℤ) → Bool
stops_valid cols = every (valid_stop cols) (stop_count cols)

-- 14: "an output slice shorter than needed: n × k for each of the join's three, T for marks"
unfoldable pub room : ℕ → ℕ → Lengths → Bool
room n tiles l = (leb n l.dist && leb n l.site) && (leb n l.cue && leb tiles l.marks)

-- of stops and k, for a town with the header h; 02.2: 17 is "tested after 12; it gives block 0, and so does every
-- number after it"
unfoldable pub arguments : Header → List (List ℤ) → ℕ → Lengths → Outcome Unit
arguments h cols k l =
    require (valid_k k) #k 0
    (require (stops_due cols) #stops 0
    (require (axes_due h cols) #axes 0
    (require (stops_valid cols) #spot 0
    (require (room (stop_count cols * k) h.tiles l) #short 0
    (accepted tt)))))
