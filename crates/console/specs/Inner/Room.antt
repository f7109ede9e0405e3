-- Room for the output: what the code that prints an answer needs of it.
--
--   distance_room, place_room             bytes for the distance of a place, for a place
--   words_room                            for what a stop's line has besides its places
--   counts_room, stop_room, output_room   for the first line, for a stop's, for all
--   refused_room                          for a refusal
--   Fitting, Printable                    an answer, an outcome that fits
use Rattle.std.specs.Prelude.{ℕ, ◌+◌, ◌*◌, ◌≤◌}
use Rattle.base.specs.Refusal.{Outcome, accepted, refused}
use Rattle.join.specs.declared.call.Joined.{Joined}
use Rattle.list.specs.Slices.{Lists, Long}
use Rattle.search.specs.Limits.{max_k}
use Rattle.console.specs.Limits.{request_stops}

-- a number of 64 bits has at most 20 digits, one of 32 bits 10
abbrev pub distance_room : ℕ
distance_room = 22

abbrev pub place_room : ℕ
place_room = distance_room + 11 + 11

-- "stop ", the stop's number, a colon and the end of the line
abbrev pub words_room : ℕ
words_room = 5 + 20 + 1 + 1

-- no line of counts, of a stop or of a refusal is longer; so is no output
abbrev pub counts_room : ℕ
counts_room = 53

abbrev pub stop_room : ℕ
stop_room = words_room + place_room * max_k

abbrev pub refused_room : ℕ
refused_room = 36

abbrev pub output_room : ℕ
output_room = counts_room + request_stops * stop_room

-- the places are in the slices, and the text fits its room
pub record Fitting (n k used : ℕ) (l : Lists) : Type 0 where
  pub stops : n ≤ request_stops
  pub few : used ≤ max_k
  pub some : used ≤ k
  pub long : Long l (n * k)

abbrev pub Printable : ℕ → ℕ → Lists → Outcome Joined → Type 0
Printable n k l (accepted r) = Fitting n k r.used l
Printable n k l (refused number block) = Unit
