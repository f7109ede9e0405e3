-- A list cut at k, kept sorted: what is put in goes to its place, and what falls behind k is dropped.
use Rattle.std.specs.Prelude.{ℕ, ◌-◌, Bool, false, ◌&&◌, List, [], ◌∷◌, ◌≡◌, eqb, length, take, get_or}
use Rattle.search.specs.Lists.{All}
use Rattle.search.specs.Order.{insert}
use Rattle.search.specs.Run.{Place, no_place, ahead_of}

-- no element is ahead of an earlier one
abbrev pub Sorted : {A : Type 0} → (A → A → Bool) → List A → Type 0
Sorted lt [] = Unit {0}
Sorted lt (x ∷ l) = All (λ y. lt y x ≡ false) l × Sorted lt l

-- elements put in one after another
unfoldable pub inserts : {A : Type 0} → (A → A → Bool) → ℕ → List A → List A → List A
inserts lt k [] l = l
inserts lt k (x ∷ m) l = inserts lt k m (take k (insert lt x l))

-- the list has k places and the last is ahead of a key
unfoldable pub last_ahead : ℕ → List Place → ℕ → ℕ → Bool
last_ahead k l least tile = eqb (length l) k && ahead_of (get_or l (k - 1) no_place) least tile
