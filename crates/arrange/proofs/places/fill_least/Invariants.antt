use Prim.Native.Nat.{ℕ, ◌<◌, ◌≤◌}
use mathlib.Core.Path.{◌≡◌}
use lib.ListN.{get_or, length}
use Rattle.arrange.proofs.places.fill_least.Given as goal

-- from i on the table has the least, and `low` is not above any far
abbrev pub invariant-loop-i : goal.invariant-loop-i
invariant-loop-i l =
    (length l.least ≡ length l.initial.least)
    × ((j : ℕ) → l.i ≤ j → j < l.n → l.low ≤ get_or l.far j 0)
    × ((k j : ℕ) → l.i ≤ k → k ≤ j → j < l.n → get_or l.least k 0 ≤ get_or l.far j 0)
