-- Document 01, "Numbers given to bad input", 11 and 12: how many places and how many stops a call may ask for.
use Rattle.std.specs.Prelude.{ℕ, Bool, ◌&&◌, leb}

abbrev pub max_k : ℕ
max_k = 64

abbrev pub max_stops : ℕ
max_stops = 256

-- 11, of k: "0 or over 64"
unfoldable pub valid_k : ℕ → Bool
valid_k k = leb 1 k && leb k max_k
