use Prim.Native.Nat.{◌%◌, ◌-◌, ◌≤◌, min}
use mathlib.Core.Path.{◌≡◌}
use Rattle.blocks.specs.Layout.{max_tiles}
use Rattle.plan.specs.Inner.Seam.{region_of}
use Rattle.stream.specs.Inner.State.{Freed}
use Rattle.stream.specs.Stream.{closer_from}
use Rattle.stream.proofs.taking.release_all.Given as goal

abbrev pub invariant-loop-first : goal.invariant-loop-first
invariant-loop-first l =
    (l.first % 32 ≡ 0) × (l.first ≤ max_tiles) × (l.before ≤ l.t)
    × Freed (closer_from l.f l.h (region_of l.h l.o)) l.h.tiles l.keys l.t (min l.first l.h.tiles)
    l.initial.waits l.waits l.initial.from l.from l.before

abbrev pub decreases-loop-first : goal.decreases-loop-first
decreases-loop-first l = max_tiles - l.first
