use Prim.Native.Nat.{ℕ, ◌*◌}
use mathlib.Core.List.{List}
use mathlib.Core.Path.{ap, ◌∙◌}
use native.Mathlib.Nat.{zero-add}
use Rattle.blocks.specs.Layout.{block_size}
use Rattle.encode.specs.Encode.{directory_bytes}
use Rattle.encode.specs.Supply.{header_of, offset}
use Rattle.encode.proofs.EncodeLaws.{due_next, length-directory_block, joined_next}
use Rattle.encode.proofs.directory.put_directory.Goals as goal
use Rattle.encode.proofs.directory.put_directory.Goals.{Start}

-- the bytes of a directory block
abbrev block : Start → ℕ → List ℕ
block s = let a = s.args in directory_bytes a.axes a.boxes.now a.counts.now a.cues.now

pub loop-p-preserved : goal.loop-p-preserved
loop-p-preserved c =
    let a = c.args in
    let p = c.loop-p.p in record {
      next = λ some. c.put_directory_block-site.ensures.1
          ∙ ap (offset a.counts.now) (due_next (header_of a.axes a.counts.now) p some);
      written = joined_next (block (goal.at.loop-p-preserved c).Start) block_size a.d.now 0 0 p
          (λ i l. length-directory_block _ _ _ _ _) c.loop-p.invariant.written
          (rw (zero-add (block_size * p), zero-add p) c.put_directory_block-site.ensures.0);
    }
