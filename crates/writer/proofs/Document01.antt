-- The file of lists without a cue 0 has the bytes that document 01 alone gives it.
use Prim.Native.Nat.{ℕ, ◌+◌, ◌-◌, ◌*◌, ◌<◌}
use mathlib.Core.Bool.{false}
use mathlib.Core.List.{◌++◌}
use mathlib.Core.Path.{◌≡◌, ap}
use native.Mathlib.Nat.{zero-add}
use native.Mathlib.Omega.{arith}
use lib.ListN.{length, get_or}
use Rattle.base.specs.Tabulate.{joined}
use Rattle.blocks.specs.Directory.{directory_blocks, entries_due}
use Rattle.blocks.specs.Layout.{directory_kind, entry_size, muted_offset, entries_per_block}
use Rattle.codec.specs.Bytes.{bytes, bytes16}
use Rattle.encode.specs.Document01.{entry_bytes01, directory_bytes01, file_bytes01}
use Rattle.encode.specs.Encode.{head_bytes, block_bytes, entry_bytes, directory_bytes, tile_bytes_of, file_bytes}
use Rattle.encode.specs.Supply.{Supply, axes_of, header_of, tiles_of, count_of, offset, site_total, muted_from}
use Rattle.tiles.specs.Tile.{muted_cue}
use Rattle.base.proofs.HowMany.{how_many_none}
use Rattle.base.proofs.Joined.{joined_same}
use Rattle.encode.proofs.EncodeLaws.{due_within}
use Rattle.encode.proofs.SupplyLaws.{offset_within}

module _ (s : Supply)
    (sounds : (i : ℕ) → i < site_total s.counts → muted_cue (get_or s.cues i 0) ≡ false) where
  entry_like_01 : (t : ℕ) → t < tiles_of s →
      entry_bytes (axes_of s) s.boxes s.counts s.cues t ≡ entry_bytes01 (axes_of s) s.boxes s.counts t
  unfolding entry_bytes entry_bytes01 muted_from bytes16 bytes
  entry_like_01 t l =
      let n = count_of s.counts t in
      let within = offset_within s.counts t (tiles_of s) l in
      let two : entry_size (axes_of s) - muted_offset (axes_of s) ≡ 2 = omega arith in
      rw (
        how_many_none (λ slot. muted_cue (get_or s.cues (offset s.counts t + slot) 0)) n
            (λ slot k. sounds (offset s.counts t + slot) (omega arith)),
        two,
      )

  block_like_01 : (p : ℕ) → p < directory_blocks (header_of (axes_of s) s.counts) →
      directory_bytes (axes_of s) s.boxes s.counts s.cues p
      ≡ directory_bytes01 (axes_of s) s.boxes s.counts p
  unfolding directory_bytes directory_bytes01
  block_like_01 p l =
      let n = entries_due (header_of (axes_of s) s.counts) p in
      ap (block_bytes (head_bytes (directory_kind (axes_of s)) p n (length s.counts)))
      (joined_same _ _ (entries_per_block (axes_of s) * p) n
      (λ i k. entry_like_01 (entries_per_block (axes_of s) * p + i)
      (omega (arith, due_within (header_of (axes_of s) s.counts) p l))))

  pub file_like : file_bytes s ≡ file_bytes01 s
  unfolding file_bytes file_bytes01
  file_like =
      ap (λ d. d ++ joined (tile_bytes_of (axes_of s) s.counts s.spots s.cues) 0 (tiles_of s))
      (joined_same _ _ 0 (directory_blocks (header_of (axes_of s) s.counts))
      (λ p l. rw (zero-add p) (block_like_01 p l)))
