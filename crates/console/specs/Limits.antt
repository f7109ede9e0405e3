-- The program's own limits.
use Rattle.std.specs.Prelude.{ℕ, ◌*◌}
use Rattle.search.specs.Limits.{max_k}

-- "reads standard input, at most 65,536 bytes"
abbrev pub max_input : ℕ
max_input = 65536

-- "n over 128 (its own limit)"
abbrev pub request_stops : ℕ
request_stops = 128

abbrev pub request_places : ℕ
request_places = request_stops * max_k
