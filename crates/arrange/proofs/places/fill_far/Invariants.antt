use Rattle.corners.specs.Inner.Tables.{FarTable}
use Rattle.plan.specs.Inner.Seam.{region_of}
use Rattle.arrange.specs.Inner.Places.{tile_at}
use Rattle.arrange.proofs.places.fill_far.Given as goal

abbrev pub invariant-loop-i : goal.invariant-loop-i
invariant-loop-i l = FarTable l.f l.h (region_of l.h l.o) (tile_at l.keys) l.i l.far
