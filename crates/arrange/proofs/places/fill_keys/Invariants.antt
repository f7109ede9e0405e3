use Prim.Native.Nat.{ℕ, ◌<◌}
use mathlib.Core.Path.{◌≡◌}
use lib.ListN.{length}
use Rattle.blocks.specs.Layout.{max_tiles}
use Rattle.arrange.specs.Inner.Places.{tile_at}
use Rattle.arrange.proofs.places.fill_keys.Given as goal

abbrev pub invariant-loop-t : goal.invariant-loop-t
invariant-loop-t l = (length l.keys ≡ max_tiles) × ((i : ℕ) → i < l.t → tile_at l.keys i ≡ i)
