use Rattle.corners.specs.Inner.Tables.{FarTable}
use Rattle.plan.specs.Inner.Seam.{region_of}
use Rattle.prune.proofs.tables.fill_corners.Given as goal

abbrev pub invariant-loop-t : goal.invariant-loop-t
invariant-loop-t l = FarTable l.f l.h (region_of l.h l.o) (λ t. t) l.t l.far
