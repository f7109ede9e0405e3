-- The lines that the program prints (document 01, "Writer, full check, host, program"). "Every printed line ends with a
-- line feed."
--
--   refused_line, counts_line   of a refusal; the first of an answer
--   separator, place_text       what stands before a place, and a place
--   text_at, places_text        places of a stop, from the slices: one, all
--   stop_line                   of a stop
use Rattle.std.specs.Prelude.{ℕ, zero, suc, ◌+◌, ◌*◌, List, ◌++◌, get_or}
use Rattle.base.specs.Tabulate.{joined}
use Rattle.console.specs.Text.{text_bytes, labelled}

-- "refused N block P"
unfoldable pub refused_line : ℕ → ℕ → List ℕ
refused_line number block =
    labelled (text_bytes "refused ") number ++ labelled (text_bytes " block ") block ++ text_bytes "\n"

-- "The first line has T, opened and struck"
unfoldable pub counts_line : ℕ → ℕ → ℕ → List ℕ
counts_line tiles opened pruned =
    labelled (text_bytes "tiles ") tiles ++ labelled (text_bytes " opened ") opened
    ++ labelled (text_bytes " struck ") pruned ++ text_bytes "\n"

-- "places are joined by a semicolon and a space", and a space stands before the first
abbrev pub separator : ℕ → List ℕ
separator zero = text_bytes " "
separator (suc j) = text_bytes "; "

-- "Each place is D, site, cue": place j of a stop
unfoldable pub place_text : ℕ → ℕ → ℕ → ℕ → List ℕ
place_text j dist site cue = labelled (separator j) dist ++ labelled (text_bytes " ") site ++ labelled (text_bytes " ") cue

-- of the three slices, where the places of a stop start at an index
unfoldable pub text_at : List ℕ → List ℕ → List ℕ → ℕ → ℕ → List ℕ
text_at dist site cue from j = place_text j (get_or dist (from + j) 0) (get_or site (from + j) 0) (get_or cue (from + j) 0)

unfoldable pub places_text : List ℕ → List ℕ → List ℕ → ℕ → ℕ → List ℕ
places_text dist site cue from used = joined (text_at dist site cue from) 0 used

-- "a line for each stop, numbered from 0": "place j of stop i is at i × k + j"; "a stop without places prints `stop 0:`
-- (its own number) alone"
unfoldable pub stop_line : List ℕ → List ℕ → List ℕ → ℕ → ℕ → ℕ → List ℕ
stop_line dist site cue k used i =
    labelled (text_bytes "stop ") i ++ text_bytes ":" ++ places_text dist site cue (i * k) used ++ text_bytes "\n"
