-- The theorems of this crate for the reader. The call is `validate::validate`, its definition `validate`
-- (specs/Validate), its theorem `validate_exactly` (`GoodFile`, specs/Accepted). The call inside it is
-- `tile::open_tile`, its definition `open_tile` (specs/Tile). What it accepts and gives: `opening_exactly` (`GoodTile`,
-- specs/Accepted), `opened_number`, `opened_inside`, `opened_muted`, `opening_refused`; what it depends on:
-- `opening_depends`. Of old files: `opening_then_16`, `opened_none_muted`, `opening_like_01`, `validate_like_01`
-- (specs/Document01). Of towns without height: `opening_on_plan`, `sites_on_plan_lem`, `validate_on_plan_lem`
-- (specs/WithoutHeight). f and g are files, h a header, t a tile. Assumes nothing.
use Prim.Native.Nat.{ℕ, ◌<◌}
use mathlib.Core.Bool.{true}
use mathlib.Core.List.{List}
use mathlib.Core.Path.{◌≡◌, sym, ap, ◌∙◌}
use native.Mathlib.Nat.{zero-add}
use lib.Dec.{eqb}
use lib.ListN.{length, get_or}
use Rattle.base.specs.HowMany.{how_many}
use Rattle.base.specs.Refusal.{accepted, refused, require, and_then, #muted}
use Rattle.base.specs.Tabulate.{tabulate}
use Rattle.blocks.specs.Block.{block_at}
use Rattle.blocks.specs.Directory.{directory, box_at, count_at, muted_at}
use Rattle.blocks.specs.Document01.{EntriesZero}
use Rattle.blocks.specs.Layout.{plan}
use Rattle.blocks.specs.WithoutHeight.{PlanFile}
use Rattle.blocks.specs.declared.header.Header.{Header}
use Rattle.geometry.specs.Box.{inside}
use Rattle.base.proofs.HowMany.{how_many_none}
use Rattle.base.proofs.Outcomes.{accepted_injective, and_then_accepted}
use Rattle.base.proofs.Tabulate.{length-tabulate, get_d_tabulate}
use Rattle.tiles.specs.Accepted.{GoodTile, GoodFile}
use Rattle.tiles.specs.Document01.{open_tile01, validate01, NoneMuted}
use Rattle.tiles.specs.Tile.{Site, site_in, muted_cue, muted_in, tile_position, open_tile}
use Rattle.tiles.specs.Tile.{site_at, sites_at}
use Rattle.tiles.specs.Validate.{validate}
use Rattle.tiles.specs.WithoutHeight.{open_tile_on_plan, sites_on_plan, validate_on_plan}
use Rattle.tiles.proofs.Document01 as document01
use Rattle.tiles.proofs.TileLaws as laws
use Rattle.tiles.proofs.WithoutHeight as height

-- a file passes the full check, with the header h, exactly when its directory and all its tiles are good
pub validate_exactly : (f : List ℕ) (h : Header) →
    (validate f ≡ accepted h → GoodFile f h)
    × (GoodFile f h → validate f ≡ accepted h)
validate_exactly f h = (laws.validate_good f, laws.validate_enough f h)

module _ (f : List ℕ) (h : Header) (t : ℕ) where
  -- an opening is accepted exactly when its block is good
  pub opening_exactly : (open_tile f h t ≡ accepted (count_at f h t) → GoodTile f h t)
      × (GoodTile f h t → open_tile f h t ≡ accepted (count_at f h t))
  opening_exactly = (laws.open_good f h t, laws.open_enough f h t)

  -- an accepted opening gives the directory's count, and all its sites lie in the box
  pub opened_number : {n : ℕ} → open_tile f h t ≡ accepted n → n ≡ count_at f h t
  opened_number e = accepted_injective (sym e ∙ laws.open_enough f h t (laws.open_good f h t e))

  pub opened_inside : {n : ℕ} → open_tile f h t ≡ accepted n → (slot : ℕ) → slot < count_at f h t →
      inside (box_at f h t) (site_at f h t slot).point ≡ true
  unfolding site_at
  opened_inside e slot l = (laws.open_good f h t e).inside slot l

  -- 02.1: its muted sites are as many as the directory says
  pub opened_muted : {n : ℕ} → open_tile f h t ≡ accepted n →
      how_many (λ slot. muted_cue (site_at f h t slot).cue) (count_at f h t) ≡ muted_at f h t
  unfolding site_at muted_in
  opened_muted e = (laws.open_good f h t e).muted_counted

  -- 16 is the last test: an opening is that without 02.1, then 16. "Old files with a cue 0 must be written again":
  -- what opens without 02.1 is refused, at the tile's own position, where the directory has another muted number
  pub opening_then_16 : open_tile f h t
      ≡ and_then (open_tile01 f h t) (λ n.
      require (eqb (how_many (λ slot. muted_cue (site_at f h t slot).cue) (count_at f h t)) (muted_at f h t)) #muted
      (tile_position h t) (accepted n))
  unfolding site_at muted_in
  opening_then_16 = document01.open_then_16 f h t

  -- a tile that opens and has no muted site, by its cues, has none by the directory
  pub opened_none_muted : {n : ℕ} → open_tile f h t ≡ accepted n → NoneMuted f h t → muted_at f h t ≡ 0
  opened_none_muted e sounds =
      let opens = and_then_accepted (open_tile01 f h t) _ (sym opening_then_16 ∙ e) in
      sym (opened_muted e) ∙ how_many_none _ (count_at f h t) (λ slot l. sounds opens.0 slot opens.1 l)

  -- one that has none by both opens as without 02.1, or is refused as there
  pub opening_like_01 : muted_at f h t ≡ 0 → NoneMuted f h t → open_tile f h t ≡ open_tile01 f h t
  opening_like_01 = document01.open_like_01 f h t

  -- a refused opening names the tile's own block
  pub opening_refused : {n p : ℕ} → open_tile f h t ≡ refused n p → p ≡ tile_position h t
  opening_refused = laws.open_at f h t

  -- the list of a tile's sites has the site of each slot
  pub sites-length : length (sites_at f h t) ≡ count_at f h t
  unfolding sites_at
  sites-length = length-tabulate (site_at f h t) 0 (count_at f h t)

  pub sites_slot : (d : Site) (slot : ℕ) → slot < count_at f h t → get_or (sites_at f h t) slot d ≡ site_at f h t slot
  unfolding sites_at
  sites_slot d slot l = get_d_tabulate (site_at f h t) d 0 (count_at f h t) slot l ∙ ap (site_at f h t) (zero-add slot)

-- 02.1 leaves old files as they were: where the last two bytes of every entry are zero and no tile that opens without
-- 02.1 has a cue 0, the full check is that without 02.1, refusals included
pub validate_like_01 : (f : List ℕ) → EntriesZero f →
    ((h : Header) (t : ℕ) → directory f ≡ accepted h → t < h.tiles → NoneMuted f h t) → validate f ≡ validate01 f
validate_like_01 f zero sounds = document01.validate_like f zero sounds

-- 02.2: "plan towns keep their answers": with a header of two axes, openings and sites are those without 02.2, by the
-- numbers of document 01
module _ (f : List ℕ) (h : Header) (t : ℕ) (plane : h.axes ≡ plan) where
  pub opening_on_plan : open_tile f h t ≡ open_tile_on_plan f h.tiles t
  opening_on_plan = height.open_on_plan f h t plane

  pub sites_on_plan_lem : sites_at f h t ≡ sites_on_plan f h.tiles t
  sites_on_plan_lem = height.sites_on_plan_lem f h t plane

-- and of a file of at most 512,000 bytes whose block 0 is not of kind 3, the full check is that without 02.2, refusals
-- included
pub validate_on_plan_lem : (f : List ℕ) → PlanFile f → validate f ≡ validate_on_plan f
validate_on_plan_lem f town = height.check_on_plan f town

-- what an opening comes to, and the tile's sites, depend on its own block, its entry and the header alone
module _ (f g : List ℕ) (h : Header) (t : ℕ) (block : block_at g (tile_position h t) ≡ block_at f (tile_position h t))
  where
    pub site_depends : (slot : ℕ) → site_at g h t slot ≡ site_at f h t slot
    unfolding site_at
    site_depends slot = rw block

    module _ (count : count_at g h t ≡ count_at f h t) where
      pub sites_depend : sites_at g h t ≡ sites_at f h t
      unfolding sites_at site_at
      sites_depend =
          ap (λ s. tabulate (site_in h.axes s) 0 (count_at g h t)) block ∙ ap (tabulate (site_at f h t) 0) count

      pub opening_depends : box_at g h t ≡ box_at f h t → muted_at g h t ≡ muted_at f h t → open_tile g h t
          ≡ open_tile f h t
      unfolding open_tile
      opening_depends bounds muted = rw (block, bounds, count, muted)
