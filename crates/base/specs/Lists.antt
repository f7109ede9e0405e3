-- Words for lists that every layer shares.
use Rattle.std.specs.Prelude.{List, [], ◌∷◌}

-- a property of every element
abbrev pub All : {A : Type 0} → (A → Type 0) → List A → Type 0
All P [] = Unit {0}
All P (x ∷ l) = P x × All P l
