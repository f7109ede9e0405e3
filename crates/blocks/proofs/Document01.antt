-- Where the last two bytes of every entry are zero, the directory comes to what document 01 alone makes of it.
use Prim.Native.Nat.{ℕ, ◌+◌, ◌-◌, ◌/◌, ◌%◌, ◌<◌, ◌≤◌}
use mathlib.Core.Bool.{true, and-true}
use mathlib.Core.List.{List}
use mathlib.Core.Path.{◌≡◌, refl, ap, ◌∙◌}
use native.Mathlib.Omega.{arith}
use lib.ListN.{length}
use borrow.Author.Tests.{le-leb}
use Rattle.base.specs.Refusal.{accepted, require, and_then, #length}
use Rattle.base.proofs.Every.{every_holds, every-same}
use Rattle.base.proofs.InTurn.{turns_same}
use Rattle.base.proofs.Outcomes.{and_then-same}
use Rattle.codec.specs.Number.{u16_at}
use Rattle.codec.proofs.Zeros.{zeros_at}
use Rattle.blocks.specs.Block.{block_at, header_in}
use Rattle.blocks.specs.Directory.{directory_blocks, entries_due, entry_offset, entry_box, entry_count, entry_muted}
use Rattle.blocks.specs.Directory.{directory_padding, valid_box_count, entry_valid, directory_block, directory_block_at}
use Rattle.blocks.specs.Directory.{length_due, directory_rest, directory, muted_at}
use Rattle.blocks.specs.Document01.{entry_zero, directory_padding01, directory_block01, directory_block_at01}
use Rattle.blocks.specs.Document01.{directory_rest01, directory01, EntriesZero}
use Rattle.blocks.specs.Layout.{entry_size, muted_offset, entries_per_block}
use Rattle.blocks.specs.declared.header.Header.{Header}
use Rattle.blocks.proofs.DirectoryLaws.{block_at_good, directory_good, some_block, entry_block, entry_due}

pub zero_muted : (a : ℕ) (s : List ℕ) (i : ℕ) → entry_zero a s i ≡ true → entry_muted a s i ≡ 0
unfolding entry_zero entry_muted u16_at
zero_muted a s i z =
    let at = entry_offset a i in
    let byte = zeros_at s (at + muted_offset a) (at + entry_size a) z in
    let x = byte (at + muted_offset a) (omega arith) (omega arith) in
    let y = byte (at + muted_offset a + 1) (omega arith) (omega arith) in
    omega (arith, x, y)

-- of an entry without muted sites test 9 is that of document 01
entry_like_01 : (a : ℕ) (s : List ℕ) (i : ℕ) → entry_muted a s i ≡ 0 →
    entry_valid a s i ≡ valid_box_count a (entry_box a s i) (entry_count a s i)
unfolding entry_valid
entry_like_01 a s i e = rw (e, le-leb 0 (entry_count a s i) (omega arith), and-true)

-- a block whose entries end in zeros
module _ (a : ℕ) (s : List ℕ) (p : ℕ) (zero : (i : ℕ) → i < entries_due (header_in s) p → entry_zero a s i ≡ true) where
  padding_like_01 :
      directory_padding a s (entries_due (header_in s) p) ≡ directory_padding01 a s (entries_due (header_in s) p)
  unfolding directory_padding directory_padding01
  padding_like_01 = rw (every_holds (entry_zero a s) (entries_due (header_in s) p) zero, and-true)

  block_like_01 : (first : Header) (n : ℕ) → first.axes ≡ a →
      directory_block s p first n ≡ directory_block01 s p first n
  unfolding directory_block directory_block01
  block_like_01 first n e =
      let valid = every-same (entry_valid a s) (λ i. valid_box_count a (entry_box a s i) (entry_count a s i))
      (entries_due (header_in s) p) (λ i l. entry_like_01 a s i (zero_muted a s i (zero i l))) in
      rw (e, padding_like_01, valid)

module _ (f : List ℕ) (zero : EntriesZero f) where
  at_like_01 : (p : ℕ) → p ≤ directory_blocks (header_in (block_at f 0)) - 1 →
      directory_block_at f p ≡ directory_block_at01 f p
  unfolding directory_block_at directory_block_at01
  at_like_01 p l =
      block_like_01 (header_in (block_at f 0)).axes (block_at f p) p (λ i. zero p i l) (header_in (block_at f 0)) _ refl

  rest_like_01 : (h : Header) → directory_block_at01 f 0 ≡ accepted h → directory_rest f h ≡ directory_rest01 f h
  unfolding directory_rest directory_rest01
  rest_like_01 h e =
      let first = (block_at_good f 0 (at_like_01 0 (omega arith) ∙ e)).0 in
      ap (λ o. and_then o (λ _. accepted h))
      (turns_same (directory_block_at f) (directory_block_at01 f) 1 (directory_blocks h - 1)
      (λ i a b. at_like_01 i (rw (← first) (omega arith))))

  pub directory_like : directory f ≡ directory01 f
  unfolding directory directory01
  directory_like =
      ap (require (length_due (length f)) #length 0)
      (ap (λ o. and_then o (directory_rest f)) (at_like_01 0 (omega arith))
      ∙ and_then-same (directory_block_at01 f 0) (directory_rest f) (directory_rest01 f) rest_like_01)

  -- no tile of an accepted directory has a muted site by its entry
  pub none_muted : (h : Header) (t : ℕ) → directory f ≡ accepted h → t < h.tiles → muted_at f h t ≡ 0
  unfolding muted_at
  none_muted h t e l =
      let g = directory_good f e in
      let n = entries_per_block h.axes in
      let p = t / n in
      let here = entry_block h g.axes t l in
      let first : header_in (block_at f 0) ≡ h = (g.blocks 0 (some_block h g.axes g.tiles.least)).header in
      let due : t % n < entries_due (header_in (block_at f p)) p =
      rw (g.blocks p here).header (entry_due h g.axes t l) in
      let axes : (header_in (block_at f 0)).axes ≡ h.axes = ap (λ k. k.axes) first in
      zero_muted h.axes (block_at f p) (t % n)
      (rw axes at (zero p (t % n) (rw first (omega arith)) due))
