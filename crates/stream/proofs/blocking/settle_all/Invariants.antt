use Prim.Native.Nat.{ℕ, ◌<◌}
use mathlib.Core.Bool.{true}
use mathlib.Core.Path.{◌≡◌}
use lib.ListN.{get_or, length}
use Rattle.plan.specs.Inner.Seam.{region_of}
use Rattle.stream.specs.Inner.State.{is_left, Stands}
use Rattle.stream.specs.Stream.{closer_from}
use Rattle.stream.proofs.blocking.settle_all.Given as goal

abbrev pub invariant-loop-b : goal.invariant-loop-b
invariant-loop-b l =
    (length l.waits ≡ length l.initial.waits) × (length l.from ≡ length l.initial.from)
    × ((a : ℕ) → is_left l.waits a ≡ true)
    × ((j : ℕ) → j < l.b → Stands (closer_from l.f l.h (region_of l.h l.o)) l.h.tiles l.keys (is_left l.waits) l.h.tiles
    (get_or l.waits j 0) (get_or l.from j 0) j)
