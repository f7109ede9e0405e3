use Prim.Native.Nat.{ℕ, ◌+◌, ◌*◌}
use mathlib.Core.List.{List}
use mathlib.Core.Path.{◌≡◌, ap, ◌∙◌}
use native.Mathlib.Nat.{zero-add}
use lib.IntN.{pos}
use lib.ListN.{get_or}
use mir.Facts.{to_z-of_z}
use mir.Syntax.{w32}
use borrow.Author.Rules.{rules}
use Rattle.base.specs.Over.{over}
use Rattle.codec.specs.Bytes.{bytes_signed}
use Rattle.encode.specs.Supply.{numbers_per_box, box_number}
use Rattle.encode.proofs.EncodeLaws.{length-number, joined_next}
use Rattle.encode.proofs.directory.put_box.Goals as goal
use Rattle.encode.proofs.directory.put_box.Goals.{Start}

-- the bytes of a number of the box
abbrev number : Start → ℕ → List ℕ
number s k = bytes_signed (box_number s.args.axes s.args.boxes.now s.args.t k)

pub loop-i-preserved : goal.loop-i-preserved
loop-i-preserved c =
    let a = c.args in
    let i = c.loop-i.i in
    let e : c.numbers_per_box-n.result * a.t + i ≡ numbers_per_box a.axes * a.t + (0 + i) =
    rw (c.numbers_per_box-n.ensures, zero-add) in
    joined_next (number (goal.at.loop-i-preserved c).Start) 4 a.d.now a.start 0 i (λ i l. length-number _)
    c.loop-i.invariant
    (c.put_i32.ensures ∙ ap (λ z. over c.loop-i.d (a.start + 4 * i) (bytes_signed z))
    (to_z-of_z {w = w32} (search rules) ∙ ap (λ k. get_or a.boxes.now k (pos 0)) e))
