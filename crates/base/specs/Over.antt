-- A list with a run of elements replaced: the form in which every call that writes says what it leaves.
use Rattle.std.specs.Prelude.{ℕ, List}
use Rattle.std.proofs.lemmas.List.Edits.{sets}

-- l with vs from index i on
unfoldable pub over : {A : Type 0} → List A → ℕ → List A → List A
over l i vs = sets l i vs
