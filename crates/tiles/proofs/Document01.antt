-- An opening is that of document 01 alone, then 16. So a tile without muted sites opens, or is refused, as there, and
-- so does the full check.
use Prim.Native.Nat.{ℕ, ◌<◌}
use mathlib.Core.Bool.{Bool, true, false}
use mathlib.Core.List.{List}
use mathlib.Core.Path.{◌≡◌, refl, sym, ap, ◌∙◌}
use native.Mathlib.Omega.{arith}
use lib.Dec.{eqb}
use lib.IntN.{ℤ}
use borrow.Author.Tests.{eq-eqb}
use Rattle.base.specs.Every.{every}
use Rattle.base.specs.Refusal.{Outcome, accepted, refused, require, and_then, #muted}
use Rattle.base.proofs.HowMany.{how_many_none}
use Rattle.base.proofs.InTurn.{turns_same}
use Rattle.base.proofs.Outcomes.{and_then-same, by_outcome}
use Rattle.blocks.specs.Block.{block_at, position_in, entries_in, block_start}
use Rattle.blocks.specs.Directory.{directory, count_at, muted_at}
use Rattle.blocks.specs.Document01.{EntriesZero}
use Rattle.blocks.specs.Layout.{tile_kind}
use Rattle.blocks.specs.declared.header.Header.{Header}
use Rattle.blocks.proofs.Theorems.{directory_like_01, zero-none_muted}
use Rattle.tiles.specs.Document01.{tile_block01, open_tile01, open_all01, validate01, NoneMuted}
use Rattle.tiles.specs.Tile.{muted_in, tile_padding, site_inside, tile_block, tile_position, open_tile, site_at}
use Rattle.tiles.specs.Validate.{open_all, validate}

-- a test after others is one after what they come to
require_then : {A B : Type 0} (test : Bool) (number block : ℕ) (o : Outcome A) (next : A → Outcome B) →
    and_then (require test number block o) next ≡ require test number block (and_then o next)
require_then true number block o next = refl
require_then false number block o next = refl

then_then : {A B C : Type 0} (o : Outcome A) (f : A → Outcome B) (g : B → Outcome C) →
    and_then (and_then o f) g ≡ and_then o (λ a. and_then (f a) g)
then_then (accepted a) f g = refl
then_then (refused n b) f g = refl

-- test 16, of the block of a tile with the muted number of its entry
abbrev sixteen : ℕ → List ℕ → ℕ → ℕ → ℕ → ℕ → Outcome ℕ
sixteen a s p count muted n = require (eqb (muted_in a s count) muted) #muted p (accepted n)

module _ (a : ℕ) (s : List ℕ) (p : ℕ) (bounds : List (List ℤ)) (count muted : ℕ) where
  block_then_16 :
      tile_block a s p bounds count muted ≡ and_then (tile_block01 a s p bounds count) (sixteen a s p count muted)
  unfolding tile_block tile_block01
  block_then_16 =
      sym (then_then (block_start (tile_kind a) s p) _ (sixteen a s p count muted)
      ∙ rw (
        require_then (eqb (position_in s) p),
        require_then (eqb (entries_in s) count),
        require_then (tile_padding a s count),
        require_then (every (site_inside a bounds s) count),
      ))

module _ (f : List ℕ) (h : Header) (t : ℕ) where
  pub open_then_16 : open_tile f h t
      ≡ and_then (open_tile01 f h t)
      (sixteen h.axes (block_at f (tile_position h t)) (tile_position h t) (count_at f h t) (muted_at f h t))
  unfolding open_tile open_tile01
  open_then_16 = block_then_16 _ _ _ _ _ _

  pub open_like_01 : muted_at f h t ≡ 0 → NoneMuted f h t → open_tile f h t ≡ open_tile01 f h t
  unfolding muted_in site_at
  open_like_01 none sounds = by_outcome (open_tile01 f h t)
      (λ n e.
      let number = how_many_none _ (count_at f h t) (λ slot l. sounds n slot e l) ∙ sym none in
      open_then_16 ∙ rw (e, eq-eqb _ _ number))
      (λ n b e. open_then_16 ∙ rw e)

module _ (f : List ℕ) (zero : EntriesZero f) where
  pub validate_like : ((h : Header) (t : ℕ) → directory f ≡ accepted h → t < h.tiles → NoneMuted f h t) →
      validate f ≡ validate01 f
  unfolding validate validate01 open_all open_all01
  validate_like sounds =
      and_then-same (directory f) (open_all f) (open_all01 f)
      (λ h e. ap (λ o. and_then o (λ _. accepted h))
      (turns_same (open_tile f h) (open_tile01 f h) 0 h.tiles
      (λ t a b. let l : t < h.tiles = omega arith in
      open_like_01 f h t (zero-none_muted f zero h t e l) (sounds h t e l))))
      ∙ ap (λ o. and_then o (open_all01 f)) (directory_like_01 f zero)
