use Prim.Native.Nat.{◌*◌}
use mathlib.Core.List.{[], ◌∷◌}
use mathlib.Core.Path.{◌≡◌}
use lib.ListN.{take}
use Rattle.base.specs.Over.{over}
use Rattle.base.specs.Tabulate.{joined}
use Rattle.blocks.specs.Directory.{directory_blocks}
use Rattle.blocks.specs.Layout.{block_size}
use Rattle.encode.specs.Encode.{tile_bytes_of}
use Rattle.encode.specs.Supply.{header_of, offset}
use Rattle.encode.proofs.tile.put_tiles.Given as goal

abbrev pub invariant-loop-t : goal.invariant-loop-t
invariant-loop-t l = record {
  next : l.first ≡ offset l.counts l.t;
  written : l.d ≡ over l.initial.d (block_size * directory_blocks (header_of l.axes l.counts))
      (joined (tile_bytes_of l.axes l.counts (take l.axes (l.xs ∷ l.ys ∷ l.zs ∷ [])) l.cues) 0 l.t);
}
