-- The stops of a run, by columns: a list of coordinates for each axis (document 01, "The join").
--
--   stop_count    how many stops
--   stop_at       stop i
--   stops_of      all stops
--   valid_stop    the test of one
use Rattle.std.specs.Prelude.{ℕ, Bool, List, [], ◌∷◌, ℤ, length}
use Rattle.geometry.specs.Around.{row, points}
use Rattle.geometry.specs.Box.{valid_point}

-- the columns have equal lengths (test 12)
abbrev pub stop_count : List (List ℤ) → ℕ
stop_count [] = 0
stop_count (c ∷ cols) = length c

abbrev pub stop_at : List (List ℤ) → ℕ → List ℤ
stop_at cols i = row cols i

abbrev pub stops_of : List (List ℤ) → List (List ℤ)
stops_of cols = points cols (stop_count cols)

-- 13: "stop beyond the limits"
unfoldable pub valid_stop : List (List ℤ) → ℕ → Bool
valid_stop cols i = valid_point (stop_at cols i)
