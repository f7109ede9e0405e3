-- What the program reads (document 01): "k, n (unsigned, 4 bytes), n stops (x, y, signed, 4 bytes each), all
-- little-endian, then a file".
--
--   k_of, stops_asked           k and n
--   coordinates, xs_of, ys_of   the stops by columns
--   head_length, file_of        the bytes before the file, and the file
--   well_formed                 whether the join is asked
use Rattle.std.specs.Prelude.{ℕ, ◌+◌, ◌*◌, Bool, ◌&&◌, List, leb, ℤ, length, drop}
use Rattle.base.specs.Tabulate.{tabulate}
use Rattle.codec.specs.Number.{u32_at, i32_at}
use Rattle.console.specs.Limits.{max_input, request_stops}

unfoldable pub k_of : List ℕ → ℕ
k_of input = u32_at input 0

unfoldable pub stops_asked : List ℕ → ℕ
stops_asked input = u32_at input 4

-- one number of every stop, the first of them at an index
unfoldable pub coordinates : List ℕ → ℕ → ℕ → List ℤ
coordinates input at n = tabulate (λ i. i32_at input (at + 8 * i)) 0 n

unfoldable pub xs_of : List ℕ → List ℤ
xs_of input = coordinates input 8 (stops_asked input)

unfoldable pub ys_of : List ℕ → List ℤ
ys_of input = coordinates input 12 (stops_asked input)

-- where the stops end and the file starts
unfoldable pub head_length : ℕ → ℕ
head_length n = 8 + 8 * n

unfoldable pub file_of : List ℕ → List ℕ
file_of input = drop (head_length (stops_asked input)) input

-- "at most 65,536 bytes"; "Too long, n over 128 (its own limit), or cut before the stops end: it prints `input`"
unfoldable pub well_formed : List ℕ → Bool
well_formed input =
    (leb 8 (length input) && leb (length input) max_input)
    && (leb (stops_asked input) request_stops && leb (head_length (stops_asked input)) (length input))
