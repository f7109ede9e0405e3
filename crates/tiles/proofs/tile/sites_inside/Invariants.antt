use mathlib.Core.Path.{◌≡◌}
use lib.ListN.{take}
use Rattle.base.specs.Every.{every}
use Rattle.tiles.specs.Tile.{site_inside}
use Rattle.tiles.proofs.tile.sites_inside.Given as goal

abbrev pub invariant-loop-slot : goal.invariant-loop-slot
invariant-loop-slot l = l.all ≡ every (site_inside l.axes (take l.axes l.bounds) l.s) l.slot
