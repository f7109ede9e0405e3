use Prim.Native.Nat.{◌-◌}
use mathlib.Core.Path.{◌≡◌}
use Rattle.base.specs.Refusal.{in_turn}
use Rattle.tiles.specs.Tile.{open_tile}
use Rattle.tiles.proofs.validate.open_all.Given as goal

abbrev pub invariant-loop-t : goal.invariant-loop-t
invariant-loop-t l = in_turn (open_tile l.f l.h) l.t (l.h.tiles - l.t) ≡ in_turn (open_tile l.f l.h) 0 l.h.tiles
