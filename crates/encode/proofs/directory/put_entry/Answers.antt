use Prim.Native.Nat.{◌+◌, ◌≤◌}
use mathlib.Core.Path.{◌≡◌, ap, ◌∙◌}
use native.Mathlib.Omega.{arith}
use lib.ListN.{length}
use borrow.Author.Rules.{rules}
use Rattle.base.specs.Over.{over}
use Rattle.blocks.specs.Layout.{muted_offset}
use Rattle.codec.specs.Bytes.{bytes16}
use Rattle.encode.specs.Supply.{count_of, muted_from, muted_of}
use Rattle.encode.proofs.EncodeLaws.{entry_row}
use Rattle.encode.proofs.SupplyLaws.{offset_next, offset_within}
use Rattle.encode.proofs.directory.put_entry.Goals as goal
use Rattle.encode.proofs.directory.put_entry.Goals.{Start}

-- the tile's sites are in the lists
within : (c : Start) → c.args.site + count_of c.args.lists.counts.now c.args.t ≤ length c.args.lists.cues.now
within c =
    let counts = c.args.lists.counts.now in
    let here = offset_within counts c.args.t (length counts) c.requires.3 in
    omega (arith, c.requires.4, c.requires.5, here)

pub muted_from-requires : goal.muted_from-requires
muted_from-requires c = omega (arith, within (goal.at.muted_from-requires c).Start)

pub overflow_add-result : goal.overflow_add-result
overflow_add-result c = let w = within (goal.at.overflow_add-result c).Start in search rules

pub returns : goal.returns
returns c =
    let a = c.args in
    let f : c.muted_from.result ≡ muted_of a.lists.counts.now a.lists.cues.now a.t =
    c.muted_from.ensures.0 ∙ ap (λ i. muted_from a.lists.cues.now i (count_of a.lists.counts.now a.t)) c.requires.5 in (
      entry_row a.d.now a.at a.axes a.lists.boxes.now a.lists.counts.now a.lists.cues.now a.t
          c.put_box.ensures
          (c.put_u16.ensures ∙ ap (λ k. over c.put_box.new.d (a.at + k) (bytes16 (count_of a.lists.counts.now a.t)))
          c.count_offset.ensures)
          (c.put_u16-2.ensures
          ∙ ap (λ k. over c.put_u16.new.d (a.at + k) (bytes16 c.muted_from.result))
          c.muted_offset.ensures
          ∙ ap (λ k. over c.put_u16.new.d (a.at + muted_offset a.axes) (bytes16 k)) f),
      omega (arith, offset_next a.lists.counts.now a.t, c.requires.5),
    )
