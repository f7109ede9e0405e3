-- A file that is not over 512,000 bytes, and not of kind 3, is read as without 02.2; and such are all files whose
-- directory is accepted with two axes.
--
--   entry_on_plan, block_on_plan, blocks_on_plan   an entry, a block and their number, on two axes
--   shows                                          what an accepted block without 02.2 shows
--   on_plan                                        the directory
--   tile_on_plan                                   the entry of a tile
--   plan_exactly                                   which directories are accepted
use Prim.Native.Nat.{ℕ, ◌-◌, ◌/◌, ◌%◌, ◌≤◌}
use mathlib.Core.Bool.{true, ◌&&◌}
use mathlib.Core.List.{List}
use mathlib.Core.Path.{◌≡◌, refl, sym, ap, ◌∙◌}
use native.Mathlib.Omega.{arith}
use lib.Dec.{eqb, leb}
use lib.ListN.{get_or, length}
use borrow.Author.Tests.{leb-true, le-leb, eqb-true, ne_eqb}
use Rattle.base.specs.Refusal.{accepted, require, and_then, #length, #position, #tiles, #entries, #padding, #box}
use Rattle.base.specs.Every.{every}
use Rattle.base.specs.Tabulate.{tabulate}
use Rattle.base.proofs.Every.{every-same}
use Rattle.base.proofs.InTurn.{turns_same}
use Rattle.base.proofs.Outcomes.{accepted_injective, require_accepted, and_then_accepted, and_then-same}
use Rattle.base.proofs.Tests.{and_both}
use Rattle.blocks.specs.Block.{block_at, axes_in, position_in, entries_in, kind_due, block_start}
use Rattle.blocks.specs.Directory.{directory_blocks, entries_due, entry_offset, entry_box, entry_count, entry_muted}
use Rattle.blocks.specs.Directory.{tiles_due, directory_padding, entry_valid, directory_block, directory_block_at}
use Rattle.blocks.specs.Directory.{length_due, length_fits, directory_rest, directory, box_at, count_at, muted_at}
use Rattle.blocks.specs.Layout.{plan, height, max_length, directory_kind, kind_at}
use Rattle.blocks.specs.WithoutHeight.{header_on_plan, directory_blocks_on_plan, entries_due_on_plan, entry_box_on_plan}
use Rattle.blocks.specs.WithoutHeight.{entry_count_on_plan, entry_muted_on_plan, tiles_due_on_plan, padding_on_plan}
use Rattle.blocks.specs.WithoutHeight.{entry_valid_on_plan, directory_block_on_plan, directory_block_at_on_plan}
use Rattle.blocks.specs.WithoutHeight.{longest_on_plan, length_due_on_plan, directory_rest_on_plan, directory_on_plan}
use Rattle.blocks.specs.WithoutHeight.{box_on_plan, count_on_plan, muted_on_plan, PlanFile}
use Rattle.blocks.specs.declared.header.Header.{Header}
use Rattle.blocks.proofs.BlockLaws.{start_kind, axes_of_kind}
use Rattle.blocks.proofs.DirectoryLaws.{directory_good, some_block}

-- on two axes all is by the numbers of document 01
pub blocks_on_plan : (h : Header) → h.axes ≡ plan → directory_blocks h ≡ directory_blocks_on_plan h.tiles
unfolding directory_blocks directory_blocks_on_plan
blocks_on_plan h e = rw e

module _ (s : List ℕ) (i : ℕ) where
  box_on_plan_lem : entry_box plan s i ≡ entry_box_on_plan s i
  unfolding entry_box entry_offset tabulate entry_box_on_plan
  box_on_plan_lem = refl

  count_on_plan_lem : entry_count plan s i ≡ entry_count_on_plan s i
  unfolding entry_count entry_offset entry_count_on_plan
  count_on_plan_lem = refl

  muted_on_plan_lem : entry_muted plan s i ≡ entry_muted_on_plan s i
  unfolding entry_muted entry_offset entry_muted_on_plan
  muted_on_plan_lem = refl

  entry_on_plan : entry_valid plan s i ≡ entry_valid_on_plan s i
  unfolding entry_valid entry_valid_on_plan
  entry_on_plan = rw (box_on_plan_lem, count_on_plan_lem, muted_on_plan_lem)

module _ (s : List ℕ) (p : ℕ) (first : Header) (n : ℕ) where
  -- a block that is not of kind 1 is refused by one of 2 to 4, alike on both sides; one of kind 1 has two axes
  block_on_plan : first.axes ≡ plan → n ≤ longest_on_plan → directory_block s p first n
      ≡ directory_block_on_plan s p first n
  unfolding directory_block length_fits tiles_due directory_blocks entries_due directory_padding entry_offset
      directory_block_on_plan tiles_due_on_plan directory_blocks_on_plan entries_due_on_plan padding_on_plan
  block_on_plan e l =
      rw (e, le-leb n longest_on_plan l)
      (and_then-same (block_start (directory_kind plan) s p) _ _
      (λ _ q. rw (
        axes_of_kind plan s (omega arith, omega arith) (start_kind (directory_kind plan) s p q),
        every-same (entry_valid plan s) (entry_valid_on_plan s) (entries_due_on_plan (header_on_plan s).tiles p)
            (λ i _. entry_on_plan s i),
      )))

  -- an accepted one is of kind 1, and gives a header of two axes
  shows : {h : Header} → directory_block_on_plan s p first n ≡ accepted h →
      (get_or s kind_at 0 ≡ directory_kind plan) × (h.axes ≡ plan)
  unfolding directory_block_on_plan kind_due
  shows {h} e =
      let due = entries_due_on_plan (header_on_plan s).tiles p in
      let k = and_then_accepted (block_start (directory_kind plan) s p) _ e in
      let a = require_accepted (eqb (position_in s) p) #position p _ k.2 in
      let b = require_accepted (tiles_due_on_plan (header_on_plan s).tiles first.tiles (n / 512)) #tiles p _ a.1 in
      let c = require_accepted (eqb (entries_in s) due) #entries p _ b.1 in
      let d = require_accepted (padding_on_plan s due) #padding p _ c.1 in
      let g = require_accepted (every (entry_valid_on_plan s) due) #box p _ d.1 in
      let header : header_on_plan s ≡ h = accepted_injective g.1 in (
        eqb-true (get_or s kind_at 0) (directory_kind plan) (start_kind (directory_kind plan) s p k.1),
        ap (λ h. h.axes) (sym header),
      )

module _ (f : List ℕ) (town : PlanFile f) where
  -- block 0 settles two axes
  first : axes_in (block_at f 0) ≡ plan
  unfolding axes_in
  first = rw (ne_eqb (get_or (block_at f 0) kind_at 0) (directory_kind height) town.1)

  at_on_plan : (p : ℕ) → directory_block_at f p ≡ directory_block_at_on_plan f p
  unfolding directory_block_at directory_block_at_on_plan
  at_on_plan p = rw first (block_on_plan (block_at f p) p (header_on_plan (block_at f 0)) (length f) refl town.0)

  rest_on_plan : (h : Header) → directory_block_at_on_plan f 0 ≡ accepted h → directory_rest f h
      ≡ directory_rest_on_plan f h
  unfolding directory_rest directory_rest_on_plan directory_block_at_on_plan
  rest_on_plan h e =
      rw (blocks_on_plan h (shows (block_at f 0) 0 (header_on_plan (block_at f 0)) (length f) e).1)
      (ap (λ o. and_then o (λ _. accepted h))
      (turns_same (directory_block_at f) (directory_block_at_on_plan f) 1 (directory_blocks_on_plan h.tiles - 1)
      (λ i _ _. at_on_plan i)))

  length_on_plan : length_due (length f) ≡ length_due_on_plan (length f)
  unfolding length_due length_due_on_plan
  length_on_plan =
      rw (le-leb (length f) longest_on_plan town.0, le-leb (length f) (max_length height) (omega (arith, town.0)))

  pub on_plan : directory f ≡ directory_on_plan f
  unfolding directory directory_on_plan
  on_plan =
      rw (length_on_plan, at_on_plan 0)
      (ap (require (length_due_on_plan (length f)) #length 0)
      (and_then-same (directory_block_at_on_plan f 0) (directory_rest f) (directory_rest_on_plan f) rest_on_plan))

pub tile_on_plan : (f : List ℕ) (h : Header) (t : ℕ) → h.axes ≡ plan →
    (box_at f h t ≡ box_on_plan f t) × (count_at f h t ≡ count_on_plan f t) × (muted_at f h t ≡ muted_on_plan f t)
unfolding box_at count_at muted_at box_on_plan count_on_plan muted_on_plan
tile_on_plan f h t e =
    let s = block_at f (t / 24) in
    (rw e (box_on_plan_lem s (t % 24)), rw e (count_on_plan_lem s (t % 24)), rw e (muted_on_plan_lem s (t % 24)))

-- which directories are accepted
length_before : (n : ℕ) → length_due_on_plan n ≡ true → n ≤ longest_on_plan
unfolding length_due_on_plan
length_before n e = leb-true n longest_on_plan (and_both (leb 1 n && eqb (n % 512) 0) (leb n longest_on_plan) e).1

module _ (f : List ℕ) (h : Header) where
  town_before : directory_on_plan f ≡ accepted h → PlanFile f
  unfolding directory_on_plan directory_block_at_on_plan
  town_before e =
      let l = require_accepted (length_due_on_plan (length f)) #length 0 _ e in
      let k = and_then_accepted (directory_block_at_on_plan f 0) (directory_rest_on_plan f) l.1 in
      let kind = (shows (block_at f 0) 0 (header_on_plan (block_at f 0)) (length f) k.1).0 in
      (length_before (length f) l.0, λ q. omega (arith, kind, q))

  town_now : directory f ≡ accepted h → h.axes ≡ plan → PlanFile f
  unfolding kind_due
  town_now e a =
      let g = directory_good f e in
      let here = g.blocks 0 (some_block h g.axes g.tiles.least) in
      let kind = eqb-true (get_or (block_at f 0) kind_at 0) (directory_kind h.axes) here.head.due in
      (rw a at g.size.most, λ q. omega (arith, rw a at kind, q))

  pub plan_exactly : (directory_on_plan f ≡ accepted h → (directory f ≡ accepted h) × (h.axes ≡ plan))
      × ((directory f ≡ accepted h) × (h.axes ≡ plan) → directory_on_plan f ≡ accepted h)
  plan_exactly = (
    λ e. let town = town_before e in
        let now = on_plan f town ∙ e in
        let g = directory_good f now in
        let here = (g.blocks 0 (some_block h g.axes g.tiles.least)).header in
        (now, ap (λ k. k.axes) (sym here) ∙ first f town),
    λ w. sym (on_plan f (town_now w.0 w.1)) ∙ w.0,
  )
