-- Laws of the printed lines: what parts the places, and where those of a stop lie.
use Prim.Native.Nat.{ℕ, zero, suc, ◌+◌, ◌*◌, ◌<◌, ◌≤◌}
use mathlib.Core.Path.{◌≡◌, refl}
use native.Mathlib.Nat.{suc-mul, mul-le-mul_right}
use native.Mathlib.Omega.{arith}
use Rattle.console.specs.Line.{separator}
use Rattle.console.specs.Text.{text_bytes}

pub separator_later : (j : ℕ) → (j ≡ 0 → ⊥) → separator j ≡ text_bytes "; "
separator_later zero h = absurd (h refl)
separator_later (suc j) h = refl

-- the places of stop i lie among those of n stops
pub turn_inside : (n k used i : ℕ) → i < n → used ≤ k → i * k + used ≤ n * k
turn_inside n k used i h few = omega (arith, few, suc-mul i k, mul-le-mul_right k h)
