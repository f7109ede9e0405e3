-- The places of the largest run.
use Rattle.std.specs.Prelude.{ℕ, ◌*◌}
use Rattle.search.specs.Limits.{max_k, max_stops}

abbrev pub max_places : ℕ
max_places = max_stops * max_k
