use mathlib.Core.Bool.{true}
use mathlib.Core.Path.{◌≡◌, refl, sym}
use lib.Dec.{eqb}
use lib.ListN.{take}
use Rattle.base.specs.Every.{every}
use Rattle.base.specs.Refusal.{accepted}
use Rattle.base.proofs.Passing.{refused_before}
use Rattle.base.proofs.Tests.{passed, failed, equal, unequal}
use Rattle.blocks.specs.Block.{position_in, entries_in, block_start}
use Rattle.blocks.specs.Layout.{tile_kind}
use Rattle.tiles.specs.Tile.{tile_padding, site_inside, tile_block}
use Rattle.tiles.proofs.tile.tile_block.Goals as goal
use Rattle.tiles.proofs.tile.tile_block.Goals.{After-u16_at, Else-not-sites_inside, Else-not-tile_padding}
use Rattle.tiles.proofs.tile.tile_block.Goals.{Else-u16_at-count, Else-u16_at-p}

-- what each test that passed has shown
passed_start : (c : After-u16_at) → block_start (tile_kind c.args.axes) c.args.s.now c.args.p ≡ accepted tt
passed_start c = sym (rw c.tile_kind.ensures at (c.in_default.ensures c.args.p))

passed-position : (c : Else-u16_at-p) →
    eqb (position_in c.args.s.now) c.args.p ≡ true
passed-position c = equal c.u16_at.ensures.0 refl c.if-u16_at-p.false

passed-entries : (c : Else-u16_at-count) →
    eqb (entries_in c.args.s.now) c.args.count ≡ true
passed-entries c = equal c.u16_at-2.ensures.0 refl c.if-u16_at-count.false

passed-padding : (c : Else-not-tile_padding) →
    tile_padding c.args.axes c.args.s.now c.args.count ≡ true
passed-padding c = passed c.tile_padding.ensures c.if-not-tile_padding.false

passed-inside : (c : Else-not-sites_inside) →
    every (site_inside c.args.axes (take c.args.axes c.args.bounds) c.args.s.now) c.args.count
    ≡ true
passed-inside c = passed c.sites_inside.ensures c.if-not-sites_inside.false

pub returns-in-Err : goal.returns-in-Err
unfolding tile_block
returns-in-Err c =
    let e = rw c.tile_kind.ensures at (c.in-Err.ensures c.args.p) in
    rw (c.at.ensures.reason, c.at.ensures.block) (refused_before _ e)

pub returns-then-u16_at-p : goal.returns-then-u16_at-p
unfolding tile_block
returns-then-u16_at-p c =
    let at = goal.at.returns-then-u16_at-p c in
    let r = c.at-then-u16_at-p.ensures in
    rw (r.reason, r.block, passed_start at.After-u16_at, unequal c.u16_at.ensures.0 refl c.if-u16_at-p.true)

pub returns-then-u16_at-count : goal.returns-then-u16_at-count
unfolding tile_block
returns-then-u16_at-count c =
    let at = goal.at.returns-then-u16_at-count c in
    let r = c.at-then-u16_at-count.ensures in
    rw (
      r.reason,
      r.block,
      passed_start at.After-u16_at,
      passed-position at.Else-u16_at-p,
      unequal c.u16_at-2.ensures.0 refl c.if-u16_at-count.true,
    )

pub returns-then-not-tile_padding : goal.returns-then-not-tile_padding
unfolding tile_block
returns-then-not-tile_padding c =
    let at = goal.at.returns-then-not-tile_padding c in
    let r = c.at-then-not-tile_padding.ensures in
    rw (
      r.reason,
      r.block,
      passed_start at.After-u16_at,
      passed-position at.Else-u16_at-p,
      passed-entries at.Else-u16_at-count,
      failed c.tile_padding.ensures c.if-not-tile_padding.true,
    )

pub returns-then-not-sites_inside : goal.returns-then-not-sites_inside
unfolding tile_block
returns-then-not-sites_inside c =
    let at = goal.at.returns-then-not-sites_inside c in
    let r = c.at-then-not-sites_inside.ensures in
    rw (
      r.reason,
      r.block,
      passed_start at.After-u16_at,
      passed-position at.Else-u16_at-p,
      passed-entries at.Else-u16_at-count,
      passed-padding at.Else-not-tile_padding,
      failed c.sites_inside.ensures c.if-not-sites_inside.true,
    )

pub returns-then-muted_in-muted : goal.returns-then-muted_in-muted
unfolding tile_block
returns-then-muted_in-muted c =
    let at = goal.at.returns-then-muted_in-muted c in
    let r = c.at-then-muted_in-muted.ensures in
    rw (
      r.reason,
      r.block,
      passed_start at.After-u16_at,
      passed-position at.Else-u16_at-p,
      passed-entries at.Else-u16_at-count,
      passed-padding at.Else-not-tile_padding,
      passed-inside at.Else-not-sites_inside,
      unequal c.muted_in.ensures refl c.if-muted_in-muted.true,
    )

pub returns : goal.returns
unfolding tile_block
returns c =
    let at = goal.at.returns c in
    rw (
      passed_start at.After-u16_at,
      passed-position at.Else-u16_at-p,
      passed-entries at.Else-u16_at-count,
      passed-padding at.Else-not-tile_padding,
      passed-inside at.Else-not-sites_inside,
      equal c.muted_in.ensures refl c.if-muted_in-muted.false,
    )
