use Prim.Native.Nat.{◌+◌}
use mathlib.Core.Path.{◌≡◌}
use Rattle.base.specs.Over.{over}
use Rattle.base.specs.Tabulate.{joined}
use Rattle.encode.specs.Encode.{entry_bytes}
use Rattle.encode.specs.Supply.{offset}
use Rattle.encode.proofs.directory.put_entries.Given as goal

abbrev pub invariant-loop-i : goal.invariant-loop-i
invariant-loop-i l =
    let s = l.lists in record {
      next : l.next ≡ offset s.counts.now (l.first + l.i);
      written : l.d ≡ over l.initial.d l.start
          (joined (entry_bytes l.axes s.boxes.now s.counts.now s.cues.now) l.first l.i);
    }
