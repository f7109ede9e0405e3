use Prim.Native.Nat.{ℕ, ◌+◌, ◌*◌, ◌<◌}
use mathlib.Core.List.{List, [], ◌∷◌}
use mathlib.Core.Path.{◌≡◌, refl, ap, ◌∙◌}
use native.Mathlib.Nat.{zero-add}
use native.Mathlib.Omega.{arith}
use lib.ListN.{length, take}
use borrow.Author.Rules.{rules}
use Rattle.base.specs.Over.{over}
use Rattle.blocks.specs.Directory.{directory_blocks}
use Rattle.blocks.specs.Layout.{block_size}
use Rattle.encode.specs.Encode.{tile_bytes_of, file_length}
use Rattle.encode.specs.Supply.{header_of}
use Rattle.encode.proofs.EncodeLaws.{tile_of, length-tile_of, joined_next}
use Rattle.encode.proofs.SupplyLaws.{offset_next, offset_within}
use Rattle.encode.proofs.tile.put_tiles.Goals as goal
use Rattle.encode.proofs.tile.put_tiles.Goals.{After-directory_blocks-blocks, Start}

-- the bytes of a tile's block
abbrev tile : Start → ℕ → List ℕ
tile s =
    let a = s.args in
    tile_bytes_of a.axes a.counts.now (take a.axes (a.xs.now ∷ a.ys.now ∷ a.zs.now ∷ [])) a.cues.now

blocks : (c : After-directory_blocks-blocks) →
    c.directory_blocks-blocks.result ≡ directory_blocks (header_of c.args.axes c.args.counts.now)
blocks c = c.directory_blocks-blocks.ensures.0 ∙ ap directory_blocks c.header_of.ensures

pub put_tile-requires : goal.put_tile-requires
unfolding file_length
put_tile-requires c =
    let counts = c.args.counts.now in
    omega (
      arith,
      blocks (goal.at.put_tile-requires c).After-directory_blocks-blocks,
      c.loop-t.invariant.next,
      c.requires.3 c.loop-t.t (search rules),
      offset_within counts c.loop-t.t (length counts) (search rules),
    )

pub overflow_add-first : goal.overflow_add-first
overflow_add-first c =
    let counts = c.args.counts.now in
    omega (arith, c.loop-t.invariant.next, offset_within counts c.loop-t.t (length counts) (search rules))

pub loop-t-preserved : goal.loop-t-preserved
loop-t-preserved c =
    let at = goal.at.loop-t-preserved c in
    let a = c.args in
    let t = c.loop-t.t in
    let spots = take a.axes (a.xs.now ∷ a.ys.now ∷ a.zs.now ∷ []) in
    let g = tile at.Start in
    let b = blocks at.After-directory_blocks-blocks in
    let long : (i : ℕ) → i < t → length (g (0 + i)) ≡ block_size =
    λ i l. rw (zero-add i) (length-tile_of a.axes a.counts.now spots a.cues.now i (c.requires.3 i (omega arith))) in
    let e = tile_of a.axes a.counts.now spots a.cues.now t (ap (λ k. k + t) b) c.loop-t.invariant.next refl in
    let k : block_size * (c.directory_blocks-blocks.result + t)
    ≡ block_size * directory_blocks (header_of a.axes a.counts.now) + block_size * t = omega (arith, b) in record {
      next = omega (arith, offset_next a.counts.now t, c.loop-t.invariant.next);
      written = joined_next g block_size a.d.now _ 0 t long c.loop-t.invariant.written
          (c.put_tile.ensures ∙ ap (over c.loop-t.d _) e ∙ ap (λ j. over c.loop-t.d j (g t)) k ∙ rw (zero-add t));
    }
