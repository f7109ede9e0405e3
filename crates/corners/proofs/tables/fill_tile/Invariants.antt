use Prim.Native.Nat.{ℕ, ◌+◌, ◌*◌, ◌<◌}
use mathlib.Core.Logic.{◌≢◌}
use mathlib.Core.Path.{◌≡◌}
use lib.ListN.{get_or, length}
use Rattle.blocks.specs.Layout.{max_tiles}
use Rattle.plan.specs.Inner.Seam as seam
use Rattle.corners.proofs.tables.fill_tile.Given as goal

abbrev pub invariant-loop-c : goal.invariant-loop-c
invariant-loop-c l =
    (length l.far ≡ length l.initial.far)
    × ((i : ℕ) → i < l.c
    → get_or l.far (i * max_tiles + l.at) 0 ≡ seam.far l.f l.h (seam.corner_of (seam.region_of l.h l.o) i) l.t)
    × ((i j : ℕ) → j < max_tiles → j ≢ l.at
    → get_or l.far (i * max_tiles + j) 0 ≡ get_or l.initial.far (i * max_tiles + j) 0)
