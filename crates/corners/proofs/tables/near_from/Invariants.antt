use Prim.Native.Nat.{ℕ, ◌<◌}
use mathlib.Core.Path.{◌≡◌}
use lib.ListN.{get_or, length}
use Rattle.plan.specs.FilePlan.{entries}
use Rattle.plan.specs.Inner.Seam.{region_of, corner_of}
use Rattle.search.specs.Plan as plan
use Rattle.corners.specs.Inner.Tables.{max_corners}
use Rattle.corners.proofs.tables.near_from.Given as goal

abbrev pub invariant-loop-c : goal.invariant-loop-c
invariant-loop-c l =
    (length l.near ≡ max_corners)
    × ((i : ℕ) → i < l.c → get_or l.near i 0 ≡ plan.near (entries l.f l.h) (corner_of (region_of l.h l.o) i) l.t)
