use mathlib.Core.Path.{◌≡◌}
use Rattle.base.specs.Over.{over}
use Rattle.base.specs.Tabulate.{joined}
use Rattle.codec.specs.Bytes.{bytes_signed}
use Rattle.encode.specs.Supply.{box_number}
use Rattle.encode.proofs.directory.put_box.Given as goal

abbrev pub invariant-loop-i : goal.invariant-loop-i
invariant-loop-i l =
    l.d ≡ over l.initial.d l.start (joined (λ k. bytes_signed (box_number l.axes l.boxes l.t k)) 0 l.i)
