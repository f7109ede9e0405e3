-- What opens agrees with the directory, and is the file's own town there. Assumes nothing.
use Prim.Native.Nat.{ℕ, zero, suc, ◌+◌, ◌<◌, ◌^◌}
use mathlib.Core.Bool.{Bool, true, false, not}
use mathlib.Core.List.{List}
use mathlib.Core.Path.{◌≡◌, refl, sym, ap, ◌∙◌}
use native.Mathlib.Nat.{add-zero, zero-add}
use native.Mathlib.Omega.{arith}
use lib.ListN.{length}
use Rattle.base.specs.HowMany.{how_many}
use Rattle.base.specs.Refusal.{accepted, and_then}
use Rattle.base.specs.Tabulate.{tabulate}
use Rattle.blocks.specs.Block.{block_at}
use Rattle.blocks.specs.Directory.{directory_blocks, box_at, count_at}
use Rattle.blocks.specs.declared.header.Header.{Header}
use Rattle.codec.specs.Number.{Bytes}
use Rattle.search.specs.Lists.{count, All}
use Rattle.search.specs.Plan.{Fills, Agrees}
use Rattle.search.specs.Run.{Checked}
use Rattle.tiles.specs.Accepted.{GoodFile}
use Rattle.tiles.specs.Tile.{Site, site_in, muted_cue, tile_position, open_tile, site_at, sites_at}
use Rattle.base.proofs.HowMany.{how_many_first, how_many_same}
use Rattle.base.proofs.Outcomes.{accepted_injective, and_then_accepted, by_outcome}
use Rattle.blocks.proofs.BlockLaws.{length_block, block_bytes_lem}
use Rattle.blocks.proofs.DirectoryLaws.{directory_good, block_fits, box-valid, count_small}
use Rattle.codec.proofs.Bytes.{u32_small}
use Rattle.geometry.proofs.Theorems.{inside-valid}
use Rattle.tiles.proofs.Theorems.{opening_exactly, opened_number, opened_inside, opened_muted, sites-length}
use Rattle.plan.specs.FilePlan.{entries, opening_of, town_of}
use Rattle.plan.specs.Inner.Seam.{TileOf, Opens, BlockOf}

-- ---- cues

cue_small : (f : List ℕ) → Bytes f → (h : Header) (t slot : ℕ) → (site_at f h t slot).cue < 2 ^ 32
unfolding site_at site_in
cue_small f b h t slot = u32_small _ _ (block_bytes_lem f _ b)

-- ---- openings

all-tabulate : {A : Type 0} (P : A → Type 0) (g : ℕ → A) (a n : ℕ) → ((i : ℕ) → i < n → P (g (a + i)))
    → All P (tabulate g a n)
unfolding tabulate
all-tabulate P g a zero h = tt
all-tabulate P g a (suc n) h = (
  rw add-zero at (h 0 (omega arith)),
  all-tabulate P g (a + 1) n (λ i l. let e : a + 1 + i ≡ a + suc i = omega arith in rw e (h (suc i) (omega arith))),
)

count-tabulate : {A : Type 0} (p : A → Bool) (g : ℕ → A) (a n : ℕ) →
    count p (tabulate g a n) ≡ how_many (λ i. p (g (a + i))) n
unfolding tabulate count how_many
count-tabulate p g a zero = refl
count-tabulate p g a (suc n) =
    let f : ℕ → Bool = λ i. p (g (a + i)) in
    let later : (i : ℕ) → i < n → p (g (a + 1 + i)) ≡ f (suc i) =
    λ i l. let e : a + 1 + i ≡ a + suc i = omega arith in rw e in
    let rest = count-tabulate p g (a + 1) n ∙ how_many_same _ (λ i. f (suc i)) n later in
    let first : p (g a) ≡ f 0 = rw add-zero in
    rw (rest, first) (sym (how_many_first f n))

not_not : (b : Bool) → not (not b) ≡ b
not_not true = refl
not_not false = refl

module _ (f : List ℕ) (h : Header) (t : ℕ) where
  pub opening_town : {l : List Site} → opening_of f h t ≡ accepted l → l ≡ town_of f h t
  unfolding opening_of
  opening_town e = sym (accepted_injective (and_then_accepted (open_tile f h t) (λ _. accepted (sites_at f h t)) e).2)

  opening_accepted : {n : ℕ} → open_tile f h t ≡ accepted n → opening_of f h t ≡ accepted (town_of f h t)
  unfolding opening_of
  opening_accepted e = rw e

  -- an opening counts its sites
  pub opening_counted : and_then (opening_of f h t) (λ l. accepted (length l)) ≡ open_tile f h t
  unfolding opening_of
  opening_counted = by_outcome (open_tile f h t)
      (λ n e. rw e (ap accepted (sites-length f h t ∙ sym (opened_number f h t e))))
      (λ n b e. rw e)

  -- the block of a tile that opens
  pub opened_block : TileOf f h t → Opens f h t
      → BlockOf f h t (block_at f (tile_position h t)) (length (town_of f h t))
  unfolding opening_of sites_at site_at tile_position
  opened_block tile e =
      let good = directory_good f tile.dir in
      let l = tile.below in
      let n = sites-length f h t in
      let o = (and_then_accepted (open_tile f h t) (λ _. accepted (sites_at f h t)) e).1 in
      rw n (record {
        sited = record {
          axes = good.axes;
          whole = length_block f (directory_blocks h + t) (block_fits good (directory_blocks h + t) (omega arith));
          few = count_small good t l;
          valid = λ slot i. inside-valid (box_at f h t) _ (box-valid good t l) (opened_inside f h t o slot i);
        };
        is = refl;
        own = refl;
      })

  module _ (bytes : Bytes f) where
    opened-fills : {n : ℕ} → open_tile f h t ≡ accepted n → Fills (entries f h) t (town_of f h t)
    unfolding sites_at
    opened-fills e = record {
      counted = sites-length f h t;
      muted_counted = count-tabulate _ (site_at f h t) 0 (count_at f h t)
          ∙ how_many_same _ _ (count_at f h t) (λ i l. rw (zero-add i) (not_not (muted_cue (site_at f h t i).cue)))
          ∙ opened_muted f h t e;
      inside = all-tabulate _ (site_at f h t) 0 (count_at f h t)
          (λ i l. rw (zero-add i) (opened_inside f h t e i l, cue_small f bytes h t i));
    }

    opening-fills : {l : List Site} → opening_of f h t ≡ accepted l → Fills (entries f h) t l
    unfolding opening_of
    opening-fills e =
        rw (opening_town e) (opened-fills (and_then_accepted (open_tile f h t) (λ _. accepted (sites_at f h t)) e).1)

module _ (f : List ℕ) (h : Header) where
  pub openings_checked : Bytes f → Checked (entries f h) (opening_of f h)
  openings_checked bytes t l i e = opening-fills f h t bytes e

  -- a file that passes the full check
  module _ (good : GoodFile f h) where
    opens : (t : ℕ) → t < h.tiles → open_tile f h t ≡ accepted (count_at f h t)
    opens t i = (opening_exactly f h t).1 (good.opened t i)

    pub all_open : (t : ℕ) → t < h.tiles → opening_of f h t ≡ accepted (town_of f h t)
    all_open t i = opening_accepted f h t (opens t i)

    pub own_town : Bytes f → Agrees (entries f h) (town_of f h)
    own_town bytes t i = opened-fills f h t bytes (opens t i)
