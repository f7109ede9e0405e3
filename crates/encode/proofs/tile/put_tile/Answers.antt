use Prim.Native.Nat.{◌*◌, ◌≤◌}
use mathlib.Core.List.{[], ◌∷◌}
use mathlib.Core.Path.{ap, ◌∙◌}
use native.Mathlib.Omega.{arith}
use lib.ListN.{take}
use Rattle.base.specs.Over.{over}
use Rattle.base.specs.Tabulate.{joined}
use Rattle.blocks.specs.Layout.{tile_kind, block_size, check_at}
use Rattle.tiles.proofs.TileLaws.{sites_end}
use Rattle.encode.specs.Encode.{head_bytes, site_bytes, tile_bytes}
use Rattle.encode.proofs.EncodeLaws.{length_head, length-sites, block_row}
use Rattle.encode.proofs.tile.put_tile.Goals as goal
use Rattle.encode.proofs.tile.put_tile.Goals.{After-site_offset-used}

-- the sites of the block fit
used-end : (c : After-site_offset-used) → c.site_offset-used.result ≤ check_at
used-end c =
    rw c.site_offset-used.ensures.1 (sites_end c.args.axes c.args.n c.requires.0 c.requires.2)

pub returns : goal.returns
unfolding tile_bytes
returns c =
    let a = c.args in
    let at = block_size * a.p in
    let kind = tile_kind a.axes in
    let spots = take a.axes (a.sites.xs.now ∷ a.sites.ys.now ∷ a.sites.zs.now ∷ []) in
    let q = length-sites a.axes spots a.sites.cues.now a.first a.n in
    block_row a.d.now at (head_bytes kind a.p a.n 0)
    (joined (site_bytes a.axes spots a.sites.cues.now) a.first a.n) c.site_offset-used.result
    (length_head kind a.p a.n 0) (c.site_offset-used.ensures.1 ∙ omega (arith, q))
    (used-end (goal.at.returns c).After-site_offset-used) c.requires.1
    (c.put_head.ensures ∙ ap (λ k. over a.d.now at (head_bytes k a.p a.n 0)) c.tile_kind.ensures)
    c.put_zeros.ensures c.put_sites.ensures c.put_zeros-2.ensures c.put_checksum.ensures
