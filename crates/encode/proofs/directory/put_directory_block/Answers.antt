use Prim.Native.Nat.{◌+◌, ◌*◌, ◌≤◌}
use mathlib.Core.Path.{◌≡◌, sym, ap, ◌∙◌}
use native.Mathlib.Nat.{mul-le-mul_left}
use native.Mathlib.Omega.{arith}
use lib.ListN.{length}
use Rattle.base.specs.Over.{over}
use Rattle.base.specs.Tabulate.{joined}
use Rattle.blocks.specs.Directory.{entries_due}
use Rattle.blocks.specs.Layout.{directory_kind, block_size, payload_at, check_at, entries_per_block}
use Rattle.blocks.proofs.DirectoryLaws.{entries_end, few_blocks}
use Rattle.encode.specs.Encode.{head_bytes, block_bytes, entry_bytes, directory_bytes}
use Rattle.encode.specs.Supply.{header_of, numbers_per_box, offset}
use Rattle.encode.proofs.EncodeLaws.{due_few, due_within, length_head, length-entries, block_row}
use Rattle.encode.proofs.directory.put_directory_block.Goals as goal
use Rattle.encode.proofs.directory.put_directory_block.Goals.{After-entries_due-n, After-entry_offset-used}

-- the entries of the block: as many as are due, and they fit
due : (c : After-entries_due-n) →
    c.entries_due-n.result ≡ entries_due (header_of c.args.axes c.args.lists.counts.now) c.args.p
due c =
    c.entries_due-n.ensures.0 ∙ ap (λ h. entries_due h c.args.p) c.header_of.ensures

few : (c : After-entries_due-n) →
    c.entries_due-n.result ≤ entries_per_block c.args.axes
few c =
    rw (due c) (due_few (header_of c.args.axes c.args.lists.counts.now) c.args.p)

used-end : (c : After-entry_offset-used) → c.entry_offset-used.result ≤ check_at
used-end c =
    let due = c.entries_due-n.ensures.0 ∙ ap (λ h. entries_due h c.args.p) c.header_of.ensures in
    rw c.entry_offset-used.ensures.1 (entries_end c.args.axes c.entries_due-n.result c.requires.0
    (rw due (due_few (header_of c.args.axes c.args.lists.counts.now) c.args.p)))

pub entries_due-n-requires : goal.entries_due-n-requires
entries_due-n-requires c =
    rw c.header_of.ensures
    (c.requires.0, omega (arith, c.requires, few_blocks (header_of c.args.axes c.args.lists.counts.now) c.requires.0))

pub put_entries-next-requires : goal.put_entries-next-requires
put_entries-next-requires c =
    let a = c.args in
    let d = due (goal.at.put_entries-next-requires c).After-entries_due-n in
    let first : c.entries_per_block.result * a.p ≡ entries_per_block a.axes * a.p =
    ap (λ k. k * a.p) c.entries_per_block.ensures in
    let end = entries_end a.axes c.entries_due-n.result c.requires.0
    (few (goal.at.put_entries-next-requires c).After-entries_due-n) in
    let within = due_within (header_of a.axes a.lists.counts.now) a.p c.requires.4 in
    let last : c.entries_per_block.result * a.p + c.entries_due-n.result ≤ length a.lists.counts.now =
    omega (arith, within, d, first) in (
      c.requires.0,
      omega (arith, end, c.requires.1, c.put_head.auto.d, c.put_zeros.auto.d),
      rw c.requires.2 (mul-le-mul_left (numbers_per_box a.axes) last),
      last,
      c.requires.5,
      c.requires.6 ∙ ap (offset a.lists.counts.now) (sym first),
    )

pub returns : goal.returns
unfolding directory_bytes
returns c =
    let a = c.args in
    let t = length a.lists.counts.now in
    let at = block_size * a.p in
    let kind = directory_kind a.axes in
    let first = entries_per_block a.axes * a.p in
    let n = c.entries_due-n.result in
    let g = entry_bytes a.axes a.lists.boxes.now a.lists.counts.now a.lists.cues.now in
    let q = length-entries a.axes a.lists.boxes.now a.lists.counts.now a.lists.cues.now first n in
    let from : c.entries_per_block.result * a.p ≡ first = ap (λ k. k * a.p) c.entries_per_block.ensures in (
      block_row a.d.now at (head_bytes kind a.p n t) (joined g first n) c.entry_offset-used.result
          (length_head kind a.p n t) (c.entry_offset-used.ensures.1 ∙ omega (arith, q))
          (used-end (goal.at.returns c).After-entry_offset-used) c.requires.1
          (c.put_head.ensures ∙ ap (λ k. over a.d.now at (head_bytes k a.p n t)) c.directory_kind.ensures)
          c.put_zeros.ensures
          (c.put_entries-next.ensures.0
          ∙ ap (λ k. over c.put_zeros.new.d (at + payload_at) (joined g k n)) from) c.put_zeros-2.ensures
          c.put_checksum.ensures
          ∙ ap (λ k. over a.d.now at (block_bytes (head_bytes kind a.p k t) (joined g first k)))
          (due (goal.at.returns c).After-entries_due-n),
      c.put_entries-next.ensures.1 ∙ ap (λ k. offset a.lists.counts.now (k + n)) from
          ∙ ap (λ k. offset a.lists.counts.now (first + k)) (due (goal.at.returns c).After-entries_due-n),
    )
