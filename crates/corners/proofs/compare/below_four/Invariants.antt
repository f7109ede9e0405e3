use Prim.Native.Nat.{◌+◌, ◌*◌}
use mathlib.Core.Bool.{◌&&◌}
use mathlib.Core.Path.{◌≡◌}
use lib.Dec.{ltb}
use lib.ListN.{get_or}
use Rattle.base.specs.Every.{every}
use Rattle.blocks.specs.Layout.{max_tiles}
use Rattle.corners.proofs.compare.below_four.Given as goal

abbrev pub invariant-loop-c : goal.invariant-loop-c
invariant-loop-c l =
    l.all && every (λ i. ltb (get_or l.far ((l.first + i) * max_tiles + l.e) 0) (get_or l.near (l.first + i) 0)) l.c
    ≡ every (λ i. ltb (get_or l.far ((l.first + i) * max_tiles + l.e) 0) (get_or l.near (l.first + i) 0)) 4
