-- What the theorems claim of a printed number.
use Rattle.std.specs.Prelude.{ℕ, ◌<◌, ◌≤◌, List, ◌≡◌, length, get_or}
use Rattle.base.specs.Lists.{All}
use Rattle.console.specs.Text.{value_from}

-- '0' to '9'
abbrev pub Digit : ℕ → Type 0
Digit c = (48 ≤ c) × (c ≤ 57)

-- characters that are the number n "in decimal": at least one, they read as n, are digits only, and the first is no
-- zero, unless it stands alone
pub record InDecimal (n : ℕ) (text : List ℕ) : Type 0 where
  pub some : 0 < length text
  pub value : value_from 0 text ≡ n
  pub digits : All Digit text
  pub leading : 1 < length text → 48 < get_or text 0 0
