use mathlib.Core.List.{[], ◌∷◌}
use mathlib.Core.Path.{sym}
use Rattle.console.specs.Output.{end_text, empty_slices}
use Rattle.console.proofs.AnswerLaws.{printable}
use Rattle.console.proofs.answer.put_join.Goals as goal

pub put_answer-requires : goal.put_answer-requires
unfolding empty_slices
put_answer-requires c =
    let a = c.args in
    let fits = printable a.file.now (a.xs.now ∷ a.ys.now ∷ []) a.k empty_slices c.requires.0 in
    record { output_room_in_bounds = c.requires.1; printable = rw (sym c.join-answer.ensures) at fits }

pub returns : goal.returns
unfolding end_text empty_slices
returns c =
    let end = c.put_answer.ensures in
    record { text = rw (sym c.join-answer.ensures) end.text; end = end.end }
