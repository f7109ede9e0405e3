-- The marks while a run goes on.
use Rattle.std.specs.Prelude.{ℕ, ◌<◌, List, [], ◌∷◌, ◌≡◌, get_or, set}
use Rattle.base.specs.Refusal.{Outcome, accepted, refused}
use Rattle.blocks.specs.declared.header.Header.{Header}
use Rattle.plan.specs.Inner.Seam.{Opens}
use Rattle.search.specs.Run.{opened_mark}

-- after an opening of tile t: "2 opened"
abbrev pub mark_from : {A : Type 0} → Outcome A → List ℕ → ℕ → List ℕ
mark_from (accepted a) marks t = set marks t opened_mark
mark_from (refused number block) marks t = marks

-- after some tiles were opened
unfoldable pub mark_all : List ℕ → List ℕ → List ℕ
mark_all marks [] = marks
mark_all marks (t ∷ ts) = mark_all (set marks t opened_mark) ts

-- a tile that is marked as opened opens
abbrev pub OpenedOpen : List ℕ → Header → List ℕ → Type 0
OpenedOpen f h marks = (t : ℕ) → t < h.tiles → get_or marks t 0 ≡ opened_mark → Opens f h t
