-- 02.5: what the theorems claim of the sequence, of tiles by number and any relation `closer` between them.
--
--   StrictOrder   what is asked of the relation: irreflexive and transitive
--   IsNext        what it is to come next
--   IsSequence    what it is to be the sequence, a field for each sentence, without saying how it is found
use Rattle.std.specs.Prelude.{ℕ, ◌<◌, ◌≤◌, Bool, true, false, ◌↔◌, ◌≡◌, length, get_or, drop}
use mathlib.Core.List.{List, Memᴰ}
use Rattle.search.specs.Lists.{Distinct}

module _ (closer : ℕ → ℕ → Bool) where
  -- "the nearer relation is irreflexive and transitive", of the tiles below T
  pub record StrictOrder (T : ℕ) : Type 0 where
    pub irreflexive : (a : ℕ) → a < T → closer a a ≡ false
    pub transitive : (a b c : ℕ) → a < T → b < T → c < T → closer a b ≡ true → closer b c ≡ true → closer a c ≡ true

  -- t is left and free, no tile left being nearer than it, and of those that are it has the lowest number
  pub record IsNext (left : List ℕ) (t : ℕ) : Type 0 where
    pub here : Memᴰ t left
    pub foremost : (a : ℕ) → Memᴰ a left → closer a t ≡ false
    pub least : (b : ℕ) → Memᴰ b left → ((a : ℕ) → Memᴰ a left → closer a b ≡ false) → t ≤ b

  pub record IsSequence (T : ℕ) (l : List ℕ) : Type 0 where
    -- "all tiles"; "Each tile is listed once, empty ones too"
    pub all : (t : ℕ) → Memᴰ t l ↔ (t < T)
    pub once : Distinct l
    -- "each tile comes after every tile nearer than it"
    pub after : (i j : ℕ) → i < length l → j < length l → closer (get_or l i 0) (get_or l j 0) ≡ true → i < j
    -- "of those free to come next, the lowest number comes first": left at step i are the tiles from there on, and b is
    -- free when none of them is nearer than it
    pub lowest : (i : ℕ) → i < length l → (b : ℕ) → Memᴰ b (drop i l)
        → ((a : ℕ) → Memᴰ a (drop i l) → closer a b ≡ false) → get_or l i 0 ≤ b
