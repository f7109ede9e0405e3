-- Worked examples of the sequence: boxes with y 0..0, the tiles by number.
--
--   row, along       a box by its x; the sequence of boxes from a box O
--   Case, cases      boxes, O and sequence
--   holds, AllHold   a case, and all of them
use Rattle.std.specs.Prelude.{ℕ, List, [], ◌∷◌, ◌≡◌, ℤ, pos, get_or, length}
use Rattle.geometry.specs.Margin.{closer}
use Rattle.search.specs.Lists.{All}
use Rattle.sequence.specs.Sequence.{sequence}

-- x from a to b
abbrev pub row : ℕ → ℕ → List (List ℤ)
row a b = (pos a ∷ pos b ∷ []) ∷ (pos 0 ∷ pos 0 ∷ []) ∷ []

-- of the boxes as tiles, from O
abbrev pub along : List (List ℤ) → List (List (List ℤ)) → List ℕ
along o boxes = sequence (λ e b. closer o (get_or boxes e []) (get_or boxes b [])) (length boxes)

pub record Case : Type 0 where
  pub from : List (List ℤ)
  pub boxes : List (List (List ℤ))
  pub order : List ℕ

abbrev pub cases : List Case
cases =
    -- document 01, case 3: E, here tile 1, is nearer than B
    record { from = row 0 10; boxes = row 31 70 ∷ row 20 30 ∷ []; order = 1 ∷ 0 ∷ [] }
    -- case 2: the margin is 0, E is not nearer, and the lower number comes first
    ∷ record { from = row 0 10; boxes = row 30 70 ∷ row 20 30 ∷ []; order = 0 ∷ 1 ∷ [] }
    -- case 6: from the middle of O tile 1 would be nearer
    ∷ record { from = row 0 10; boxes = row 15 15 ∷ row 0 0 ∷ []; order = 0 ∷ 1 ∷ [] }
    -- in order of near distance from O, 9 and 1, tile 1 would come first; but neither is nearer than the other
    ∷ record { from = row 0 10; boxes = row 13 30 ∷ row 11 31 ∷ []; order = 0 ∷ 1 ∷ [] }
    -- 0 and 2 are free at first; 1 is as soon as 0 came, and comes before 2
    ∷ record { from = row 0 0; boxes = row 1 2 ∷ row 3 4 ∷ row 0 9 ∷ []; order = 0 ∷ 1 ∷ 2 ∷ [] }
    -- 0, 1 and 3 are free at first, 2 once both 1 and 3 came
    ∷ record {
      from = row 0 0;
      boxes = row 0 9 ∷ row 2 3 ∷ row 5 6 ∷ row 1 4 ∷ [];
      order = 0 ∷ 1 ∷ 3 ∷ 2 ∷ [];
    }
    -- a chain against the numbers
    ∷ record { from = row 0 0; boxes = row 7 8 ∷ row 5 6 ∷ row 3 4 ∷ row 1 2 ∷ []; order = 3 ∷ 2 ∷ 1 ∷ 0 ∷ [] }
    ∷ []

abbrev pub holds : Case → Type 0
holds c = along c.from c.boxes ≡ c.order

abbrev pub AllHold : Type 0
AllHold = All holds cases
