-- Words for lists. Nothing here knows of sites or tiles.
use Rattle.std.specs.Prelude.{ℕ, zero, suc, ◌+◌, Bool, false, cond, ◌||◌, List, [], ◌∷◌, ◌≡◌, eqb}
pub use Rattle.base.specs.HowMany.{bit}
pub use Rattle.base.specs.Lists.{All}

-- the n numbers from a on
abbrev pub range : ℕ → ℕ → List ℕ
range a zero = []
range a (suc n) = a ∷ range (suc a) n

-- how many elements pass a test
unfoldable pub count : {A : Type 0} → (A → Bool) → List A → ℕ
count p [] = 0
count p (x ∷ l) = bit (p x) + count p l

-- what the elements that pass a test add up to
unfoldable pub total : {A : Type 0} → (A → Bool) → (A → ℕ) → List A → ℕ
total p w [] = 0
total p w (x ∷ l) = cond (p x) (w x) 0 + total p w l

-- the elements that pass a test
unfoldable pub filter : {A : Type 0} → (A → Bool) → List A → List A
filter p [] = []
filter p (x ∷ l) = cond (p x) (x ∷ filter p l) (filter p l)

-- a number stands in a list
unfoldable pub member : ℕ → List ℕ → Bool
member n [] = false
member n (x ∷ l) = eqb n x || member n l

-- no element stands in it twice
abbrev pub Distinct : {A : Type 0} → List A → Type 0
Distinct [] = Unit {0}
Distinct (x ∷ l) = All (λ y. y ≡ x → ⊥) l × Distinct l
