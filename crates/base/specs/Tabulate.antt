-- Lists that are given element by element, or part by part.
use Rattle.std.specs.Prelude.{ℕ, zero, suc, ◌+◌, List, [], ◌∷◌, ◌++◌}

-- what g gives for n numbers, from a on
unfoldable pub tabulate : {A : Type 0} → (ℕ → A) → ℕ → ℕ → List A
tabulate g a zero = []
tabulate g a (suc n) = g a ∷ tabulate g (a + 1) n

-- the lists that g gives for n numbers, from a on, one after the other
unfoldable pub joined : {A : Type 0} → (ℕ → List A) → ℕ → ℕ → List A
joined g a zero = []
joined g a (suc n) = g a ++ joined g (a + 1) n
