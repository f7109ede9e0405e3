use Prim.Native.Nat.{ℕ, ◌+◌, ◌*◌}
use mathlib.Core.List.{List}
use mathlib.Core.Path.{◌≡◌, ap, ◌∙◌}
use native.Mathlib.Omega.{arith}
use Rattle.base.specs.Over.{over}
use Rattle.blocks.specs.Layout.{entry_size}
use Rattle.encode.specs.Encode.{entry_bytes}
use Rattle.encode.specs.Supply.{offset}
use Rattle.encode.proofs.EncodeLaws.{length_entry, joined_next}
use Rattle.encode.proofs.directory.put_entries.Goals as goal
use Rattle.encode.proofs.directory.put_entries.Goals.{Start}

-- the bytes of an entry
abbrev entry : Start → ℕ → List ℕ
entry s = let a = s.args in entry_bytes a.axes a.lists.boxes.now a.lists.counts.now a.lists.cues.now

pub loop-i-preserved : goal.loop-i-preserved
loop-i-preserved c =
    let a = c.args in
    let i = c.loop-i.i in
    let g = entry (goal.at.loop-i-preserved c).Start in
    let e : a.first + i + 1 ≡ a.first + (i + 1) = omega arith in record {
      next = c.put_entry-next.ensures.1 ∙ ap (offset a.lists.counts.now) e;
      written = joined_next g (entry_size a.axes) a.d.now a.start a.first i (λ j l. length_entry _ _ _ _ _)
          c.loop-i.invariant.written
          (c.put_entry-next.ensures.0
          ∙ ap (λ w. over c.loop-i.d (a.start + w * i) (g (a.first + i))) c.entry_size-size.ensures);
    }
