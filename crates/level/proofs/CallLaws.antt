-- What the tests of the call show, and the bounds that its arithmetic asks for. Assumes nothing.
use Prim.Native.Nat.{ℕ, ◌*◌, ◌≤◌}
use native.Mathlib.Nat.{mul-le-mul}
use mathlib.Core.Bool.{true}
use mathlib.Core.Path.{◌≡◌}
use lib.Dec.{leb, leb→le}
use Rattle.base.proofs.Tests.{true_T, and_both}
use Rattle.level.specs.Level.{max_reach, valid_reach}

-- a reach within its limits
pub reach_limits : (r : ℕ) → valid_reach r ≡ true → (1 ≤ r) × (r ≤ max_reach)
unfolding valid_reach
reach_limits r e =
    let b = and_both (leb 1 r) (leb r max_reach) e in
    (leb→le 1 r (true_T b.0), leb→le r max_reach (true_T b.1))

pub square_most : (r : ℕ) → r ≤ max_reach → r * r ≤ 1_000_000_000_000
square_most r h = mul-le-mul h h
