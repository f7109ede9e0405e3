-- The theorems of this crate for the reader: what the search assumes of a geometry, a directory and a reading holds of
-- every file whose directory is accepted, and which bytes of the file decide it.
use Prim.Native.Nat.{ℕ, ◌<◌}
use mathlib.Core.Bool.{true}
use mathlib.Core.List.{List}
use mathlib.Core.Path.{◌≡◌, ◌∙◌}
use lib.IntN.{ℤ}
use lib.ListN.{length}
use Rattle.base.specs.Refusal.{accepted}
use Rattle.blocks.specs.Block.{block_at}
use Rattle.blocks.specs.Directory.{directory, box_at, count_at, muted_at}
use Rattle.blocks.specs.Same.{SameDirectory}
use Rattle.blocks.specs.declared.header.Header.{Header}
use Rattle.codec.specs.Number.{Bytes}
use Rattle.geometry.specs.Axes.{KnownAxes}
use Rattle.geometry.specs.Box.{valid_box}
use Rattle.search.specs.Lists.{All}
use Rattle.search.specs.Plan.{Lawful, Agrees}
use Rattle.search.specs.Pruning.{pruned, pruned_count}
use Rattle.search.specs.Run.{Checked, join, places_used, marks}
use Rattle.tiles.specs.Accepted.{GoodFile}
use Rattle.tiles.specs.Tile.{tile_position}
use Rattle.blocks.proofs.Theorems.{entry_depends}
use Rattle.search.proofs.Lists.{all_both}
use Rattle.search.proofs.SameEntries.{same_pruned, same_pruned_count, same_marks, same_used, same-join}
use Rattle.search.proofs.Theorems.{only_tiles, same_run}
use Rattle.tiles.proofs.Theorems.{sites_depend, opening_depends}
use Rattle.plan.specs.FilePlan.{entries, opening_of, town_of, Site}
use Rattle.plan.proofs.Lawful.{lawful}
use Rattle.plan.proofs.Openings.{opening_town, openings_checked, all_open, own_town}

module _ (f : List ℕ) (h : Header) where
  -- box arithmetic and directory are as the search assumes, for every stop in O
  pub plan_lawful : (o : List (List ℤ)) → directory f ≡ accepted h → valid_box o ≡ true → length o ≡ h.axes
      → Lawful (entries f h) o
  plan_lawful = lawful f h

  -- a tile that opens holds the sites of the file's own town
  pub opens_own_town : (t : ℕ) {l : List Site} → opening_of f h t ≡ accepted l → l ≡ town_of f h t
  opens_own_town = opening_town f h

  -- and agrees with the directory: count, muted number, box, and a cue of 32 bits
  pub opening_checked : Bytes f → Checked (entries f h) (opening_of f h)
  opening_checked = openings_checked f h

  -- "On a file that passes the full check" every tile opens, and the file's own town agrees with the directory
  pub good_opens : GoodFile f h → (t : ℕ) → t < h.tiles → opening_of f h t ≡ accepted (town_of f h t)
  good_opens = all_open f h

  pub good_agrees : GoodFile f h → Bytes f → Agrees (entries f h) (town_of f h)
  good_agrees good = own_town f h good

-- "Any file of the same length, equal to this one in every byte of the directory and of the opened tiles": g against f
module _ (f g : List ℕ) (h : Header) (known : KnownAxes h.axes) (same : SameDirectory f g h) where
  entry_same : (t : ℕ) → t < h.tiles
      → (box_at g h t ≡ box_at f h t) × (count_at g h t ≡ count_at f h t) × (muted_at g h t ≡ muted_at f h t)
  entry_same t l = entry_depends f g h t known same l

  pub used_depends : (k : ℕ) → places_used (entries g h) k ≡ places_used (entries f h) k
  used_depends = same_used (entries f h) (box_at g h) (count_at g h) (muted_at g h) entry_same

  -- a tile whose block is the same opens alike
  pub openings_depend : (t : ℕ) → t < h.tiles → block_at g (tile_position h t) ≡ block_at f (tile_position h t)
      → opening_of g h t ≡ opening_of f h t
  unfolding opening_of
  openings_depend t l block =
      let e = entry_same t l in
      rw (opening_depends f g h t block e.1 e.0 e.2, sites_depend f g h t block e.1)

  -- the same tiles are struck, the same marks and counts follow from the same openings
  module _ (o : List (List ℤ)) (k : ℕ) where
    pub pruned_depends : (t : ℕ) → t < h.tiles → pruned (entries g h) o k t ≡ pruned (entries f h) o k t
    pruned_depends = same_pruned (entries f h) (box_at g h) (count_at g h) (muted_at g h) entry_same o k

    pub pruned_count_depends : pruned_count (entries g h) o k ≡ pruned_count (entries f h) o k
    pruned_count_depends = same_pruned_count (entries f h) (box_at g h) (count_at g h) (muted_at g h) entry_same o k

    pub marks_depend : (opened : List ℕ) → marks (entries g h) o k opened ≡ marks (entries f h) o k opened
    marks_depend = same_marks (entries f h) (box_at g h) (count_at g h) (muted_at g h) entry_same o k

    -- "gets an answer with the same lists": the same run, where the blocks of the tiles opened are the same
    pub join_depends : (ps : List (List ℤ))
        → All (λ t. block_at g (tile_position h t) ≡ block_at f (tile_position h t))
        (join (entries f h) o k (opening_of f h) ps).openings
        → join (entries g h) o k (opening_of g h) ps ≡ join (entries f h) o k (opening_of f h) ps
    join_depends ps alike =
        let E = entries f h in
        let opened = (join E o k (opening_of f h) ps).openings in
        same-join E (box_at g h) (count_at g h) (muted_at g h) entry_same o k (opening_of g h) ps
        ∙ same_run E o k (opening_of f h) (opening_of g h) ps
        (all_both (λ t. t < h.tiles) (λ t. block_at g (tile_position h t) ≡ block_at f (tile_position h t))
        (λ t. opening_of g h t ≡ opening_of f h t) opened openings_depend (only_tiles E o k (opening_of f h) ps) alike)
