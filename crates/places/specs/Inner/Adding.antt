-- The sites of a block that a full list passes over.
use Rattle.std.specs.Prelude.{ℕ, ◌+◌, ◌-◌, ◌<◌, ◌≤◌, List, ℤ, get_or}
use Rattle.blocks.specs.declared.header.Header.{Header}
use Rattle.plan.specs.FilePlan.{space}
use Rattle.plan.specs.Inner.Seam.{stop_of, site_in}
use Rattle.places.specs.declared.tile.Target.{Target}

-- the sites of slots from to r - 1 are farther from p than a bound
abbrev pub Farther : (h : Header) (s : List ℕ) (p : List ℤ) (bound from r : ℕ) → Type 0
Farther h s p bound from r = (slot : ℕ) → from ≤ slot → slot < r → bound < space.D p (site_in h.axes s slot)

-- and than the last place of a full list, so that none of them gets in
pub record Skipped (h : Header) (s : List ℕ) (n from : ℕ) (target : Target) (used : ℕ) (ds : List ℕ) (r : ℕ)
    : Type 0 where
  pub onward : from ≤ r
  pub inside : r ≤ n
  pub farther : from < r
      → (target.k ≤ used)
      × Farther h s (stop_of h target.stop) (get_or ds (target.at + (target.k - 1)) 0) from r
