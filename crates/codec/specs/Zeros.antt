-- Bytes that are all zero.
use Rattle.std.specs.Prelude.{ℕ, ◌+◌, ◌-◌, Bool, List, eqb, get_or}
use Rattle.base.specs.Every.{every}

-- whether bytes a to b - 1 are all zero
unfoldable pub zeros : List ℕ → ℕ → ℕ → Bool
zeros s a b = every (λ i. eqb (get_or s (a + i) 0) 0) (b - a)
