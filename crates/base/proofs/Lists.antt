-- Laws of lists that no other crate is the place for. Assumes nothing.
use mathlib.Core.List.{List, [], ◌∷◌}
use mathlib.Core.Path.{◌≡◌, refl}
use native.Mathlib.Omega.{arith}
use lib.ListN.{get_or, length}

-- a list of two
pub two : {A : Type 0} (l : List A) (d : A) → length l ≡ 2 → l ≡ get_or l 0 d ∷ get_or l 1 d ∷ []
two [] d e = absurd (omega arith)
two (x ∷ []) d e = absurd (omega arith)
two (x ∷ y ∷ []) d e = refl
two (x ∷ y ∷ z ∷ l) d e = absurd (omega arith)
