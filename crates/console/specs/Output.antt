-- What the program prints for all that it can read (document 01).
--
--   empty_slices, end_of    what the program lends to the join, and the join's end
--   answer_text, end_text   an outcome as text, and such an end
--   output                  all that is printed
use Rattle.std.specs.Prelude.{ℕ, cond, List, [], ◌∷◌, ◌++◌, replicate}
use Rattle.base.specs.Refusal.{Outcome, accepted, refused}
use Rattle.base.specs.Tabulate.{joined}
use Rattle.join.specs.declared.call.Joined.{Joined}
use Rattle.join.specs.Join.{End, join_end}
use Rattle.list.specs.Slices.{Lists, Slices, lent}
use Rattle.blocks.specs.Layout.{max_tiles}
use Rattle.console.specs.Limits.{request_places}
use Rattle.console.specs.Line.{refused_line, counts_line, stop_line}
use Rattle.console.specs.Text.{text_bytes}
use Rattle.console.specs.Request.{k_of, stops_asked, xs_of, ys_of, file_of, well_formed}

-- the program's own slices: room for all places and marks that a request can ask for, so that 14 never comes
unfoldable pub empty_slices : Slices
empty_slices =
    lent (replicate request_places 0) (replicate request_places 0) (replicate request_places 0) (replicate max_tiles 0)

-- of n stops, k, and the slices of places
unfoldable pub answer_text : ℕ → ℕ → Lists → Outcome Joined → List ℕ
answer_text n k l (accepted r) =
    counts_line r.tiles r.opened r.pruned ++ joined (stop_line l.dist l.site l.cue k r.used) 0 n
answer_text n k l (refused number block) = refused_line number block

-- the join of what was read
unfoldable pub end_of : List ℕ → End
end_of input = join_end (file_of input) (xs_of input ∷ ys_of input ∷ []) (k_of input) empty_slices

unfoldable pub end_text : ℕ → ℕ → End → List ℕ
end_text n k e = answer_text n k e.slices.lists e.outcome

unfoldable pub output : List ℕ → List ℕ
output input = cond (well_formed input) (end_text (stops_asked input) (k_of input) (end_of input)) (text_bytes "input\n")
