-- Words for order: pairs of numbers, and sorting by a test that says which of two stands ahead.
use Rattle.std.specs.Prelude.{ℕ, Bool, true, cond, ◌&&◌, ◌||◌, List, [], ◌∷◌, ◌≡◌, ltb, eqb}
use Rattle.search.specs.Lists.{All}

-- the pair (a, b) is ahead of the pair (c, d): by the first parts, and where these are equal by the second
unfoldable pub lex : ℕ → ℕ → ℕ → ℕ → Bool
lex a b c d = ltb a c || (eqb a c && ltb b d)

-- insertion sort; `lt x y` says that x stands ahead of y
unfoldable pub insert : {A : Type 0} → (A → A → Bool) → A → List A → List A
insert lt x [] = x ∷ []
insert lt x (y ∷ l) = cond (lt y x) (y ∷ insert lt x l) (x ∷ y ∷ l)

unfoldable pub sort : {A : Type 0} → (A → A → Bool) → List A → List A
sort lt [] = []
sort lt (x ∷ l) = insert lt x (sort lt l)

-- each element is ahead of every later one
abbrev pub Strict : {A : Type 0} → (A → A → Bool) → List A → Type 0
Strict lt [] = Unit {0}
Strict lt (x ∷ l) = All (λ y. lt x y ≡ true) l × Strict lt l
