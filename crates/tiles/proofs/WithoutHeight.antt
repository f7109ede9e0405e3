-- With a header of two axes, openings and sites are those by the numbers of document 01; so is the full check of a file
-- that is read as without 02.2.
use Prim.Native.Nat.{ℕ, ◌+◌}
use mathlib.Core.List.{List}
use mathlib.Core.Path.{◌≡◌, refl, ap}
use lib.IntN.{ℤ}
use Rattle.base.specs.Refusal.{accepted, and_then}
use Rattle.base.specs.Tabulate.{tabulate}
use Rattle.base.proofs.InTurn.{turns_same}
use Rattle.base.proofs.Outcomes.{and_then-same}
use Rattle.base.proofs.Tabulate.{tabulate-same}
use Rattle.blocks.specs.Block.{block_at}
use Rattle.blocks.specs.Layout.{plan}
use Rattle.blocks.specs.WithoutHeight.{directory_blocks_on_plan, directory_on_plan, count_on_plan, PlanFile}
use Rattle.blocks.specs.declared.header.Header.{Header}
use Rattle.blocks.proofs.Theorems.{directory_on_plan_lem, plan_towns, entries_on_plan}
use Rattle.tiles.specs.Tile.{site_offset, site_in, muted_in, tile_padding, site_inside, tile_block, tile_position}
use Rattle.tiles.specs.Tile.{open_tile, site_at, sites_at}
use Rattle.tiles.specs.Validate.{open_all, validate}
use Rattle.tiles.specs.WithoutHeight.{site_on_plan, site_inside_on_plan, tile_block_on_plan, open_tile_on_plan}
use Rattle.tiles.specs.WithoutHeight.{sites_on_plan}
use Rattle.tiles.specs.WithoutHeight.{open_all_on_plan, validate_on_plan}

block_on_plan : (s : List ℕ) (p : ℕ) (bounds : List (List ℤ)) (count muted : ℕ) →
    tile_block plan s p bounds count muted ≡ tile_block_on_plan s p bounds count muted
unfolding tile_block tile_padding site_inside muted_in site_in site_offset tabulate
    tile_block_on_plan site_inside_on_plan site_on_plan
block_on_plan s p bounds count muted = refl

site_on_plan_lem : (s : List ℕ) (slot : ℕ) → site_in plan s slot ≡ site_on_plan s slot
unfolding site_in site_offset tabulate site_on_plan
site_on_plan_lem s slot = refl

module _ (f : List ℕ) (h : Header) (t : ℕ) (plane : h.axes ≡ plan) where
  pub open_on_plan : open_tile f h t ≡ open_tile_on_plan f h.tiles t
  unfolding open_tile tile_position open_tile_on_plan
  open_on_plan =
      let k = entries_on_plan f h t plane in rw (k.0, k.1, k.2, k.3, plane) (block_on_plan _ _ _ _ _)

  site_at_plan : (slot : ℕ) → site_at f h t slot ≡ site_on_plan (block_at f (directory_blocks_on_plan h.tiles + t)) slot
  unfolding site_at tile_position
  site_at_plan slot = rw ((entries_on_plan f h t plane).0, plane) (site_on_plan_lem _ slot)

  pub sites_on_plan_lem : sites_at f h t ≡ sites_on_plan f h.tiles t
  unfolding sites_at sites_on_plan
  sites_on_plan_lem =
      rw (entries_on_plan f h t plane).2
      (tabulate-same (site_at f h t) _ 0 (count_on_plan f t) (λ i _. site_at_plan (0 + i)))

module _ (f : List ℕ) where
  all_on_plan : (h : Header) → h.axes ≡ plan → open_all f h ≡ open_all_on_plan f h
  unfolding open_all open_all_on_plan
  all_on_plan h plane =
      ap (λ o. and_then o (λ _. accepted h))
      (turns_same (open_tile f h) (open_tile_on_plan f h.tiles) 0 h.tiles (λ t _ _. open_on_plan f h t plane))

  pub check_on_plan : PlanFile f → validate f ≡ validate_on_plan f
  unfolding validate validate_on_plan
  check_on_plan town =
      rw (directory_on_plan_lem f town)
      (and_then-same (directory_on_plan f) (open_all f) (open_all_on_plan f)
      (λ h e. all_on_plan h ((plan_towns f h).0 e).1))
