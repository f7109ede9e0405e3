use Prim.Native.Nat.{◌*◌, ◌<◌}
use mathlib.Core.Path.{◌≡◌}
use Rattle.base.specs.Over.{over}
use Rattle.base.specs.Tabulate.{joined}
use Rattle.blocks.specs.Directory.{directory_blocks}
use Rattle.blocks.specs.Layout.{entries_per_block}
use Rattle.encode.specs.Encode.{directory_bytes}
use Rattle.encode.specs.Supply.{header_of, offset}
use Rattle.encode.proofs.directory.put_directory.Given as goal

abbrev pub invariant-loop-p : goal.invariant-loop-p
invariant-loop-p l = record {
  next : l.p < directory_blocks (header_of l.axes l.counts) → l.site ≡ offset l.counts (entries_per_block l.axes * l.p);
  written : l.d ≡ over l.initial.d 0 (joined (directory_bytes l.axes l.boxes l.counts l.cues) 0 l.p);
}
