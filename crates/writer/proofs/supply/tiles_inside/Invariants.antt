use Prim.Native.Nat.{ℕ, ◌<◌}
use mathlib.Core.Bool.{true}
use mathlib.Core.List.{[], ◌∷◌}
use mathlib.Core.Path.{◌≡◌}
use lib.ListN.{take}
use Rattle.encode.specs.Supply.{offset}
use Rattle.writer.specs.Write.{tile_fits}
use Rattle.writer.proofs.supply.tiles_inside.Given as goal

abbrev pub invariant-loop-t : goal.invariant-loop-t
invariant-loop-t l =
    (l.first ≡ offset l.counts l.t)
    × ((i : ℕ) → i < l.t → tile_fits l.axes l.boxes l.counts (take l.axes (l.xs ∷ l.ys ∷ l.zs ∷ [])) i ≡ true)
