use mathlib.Core.Path.{◌≡◌}
use lib.ListN.{length}
use Rattle.base.specs.Over.{over}
use Rattle.plan.specs.Inner.Seam.{region_of}
use Rattle.stream.specs.Stream.{closer_from, tile_order}
use Rattle.stream.proofs.Turns.{Running}
use Rattle.stream.proofs.taking.take_all.Given as goal

abbrev pub invariant-loop-i : goal.invariant-loop-i
invariant-loop-i l =
    (length l.waits ≡ length l.initial.waits) × (length l.from ≡ length l.initial.from)
    × (length l.order ≡ length l.initial.order)
    × Running (closer_from l.f l.h (region_of l.h l.o)) l.h.tiles l.keys l.waits l.from l.order l.at l.low l.i
    (over l.initial.order 0 (tile_order l.f l.h (region_of l.h l.o)))
