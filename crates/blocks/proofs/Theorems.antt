-- The theorems of this crate for the reader. The call is `directory::read_directory`, its definition `directory`
-- (specs/Directory). What it accepts: `directory_exactly` (`GoodDirectory`, specs/Accepted), `entry_of_accepted`. What
-- it depends on: `directory_depends`, `entry_depends`, `same-directory` (`SameDirectory`, specs/Same). Of old
-- files: `directory_like_01`, `zero-none_muted` (specs/Document01). Of the axes: `layout_plan`, `layout_height`,
-- `longest_file`, `axes_settled`; of towns without height: `directory_on_plan_lem`, `plan_towns`, `entries_on_plan`
-- (specs/WithoutHeight). Of the check `checksum::agrees`, definition `check_agrees` (specs/Checksum): `stored_255`. f
-- and g are files, h a header, t a tile. Assumes nothing.
use Prim.Native.Nat.{ℕ, min, ◌+◌, ◌-◌, ◌*◌, ◌/◌, ◌<◌, ◌≤◌}
use mathlib.Core.Bool.{true}
use mathlib.Core.List.{List}
use mathlib.Core.Path.{◌≡◌, refl, sym, ap, ◌∙◌}
use native.Mathlib.Omega.{arith}
use lib.Dec.{lit<}
use lib.ListN.{get_or, length, take, drop, length-take, length-drop}
use lib.Seq.{slice, get_or-take, get_or-drop, ext_get_or}
use borrow.Author.Tests.{eqb-true}
use Rattle.base.specs.Refusal.{accepted, require, and_then, #length}
use Rattle.geometry.specs.Axes.{KnownAxes}
use Rattle.geometry.specs.Box.{valid_box}
use Rattle.geometry.proofs.Theorems.{by_axes}
use Rattle.base.proofs.InTurn.{turns_same}
use Rattle.base.proofs.Outcomes.{and_then-same}
use Rattle.base.proofs.Tests.{and_both}
use Rattle.blocks.specs.Accepted.{GoodDirectory}
use Rattle.blocks.specs.Block.{block_at, header_in, kind_due}
use Rattle.blocks.specs.Checksum.{sums, check_agrees}
use Rattle.blocks.specs.Directory.{directory_blocks, directory_block_at, length_due, directory_rest, directory, box_at}
use Rattle.blocks.specs.Directory.{count_at, muted_at}
use Rattle.blocks.specs.Document01.{directory01, EntriesZero}
use Rattle.blocks.specs.Layout.{block_size, plan, max_length, directory_kind, tile_kind, kind_at, check_at, entry_size}
use Rattle.blocks.specs.Layout.{count_offset, muted_offset, entries_per_block, site_size, cue_offset, max_sites}
use Rattle.blocks.specs.Layout.{max_tiles}
use Rattle.blocks.specs.Same.{SameDirectory}
use Rattle.blocks.specs.WithoutHeight.{directory_blocks_on_plan, directory_on_plan, box_on_plan, count_on_plan}
use Rattle.blocks.specs.WithoutHeight.{muted_on_plan, PlanFile}
use Rattle.blocks.specs.declared.header.Header.{Header}
use Rattle.blocks.proofs.BlockLaws.{axes_known}
use Rattle.blocks.proofs.ChecksumLaws.{sums-small}
use Rattle.blocks.proofs.DirectoryLaws as laws
use Rattle.blocks.proofs.Document01.{directory_like, none_muted}
use Rattle.blocks.proofs.WithoutHeight.{blocks_on_plan, on_plan, tile_on_plan, plan_exactly}

-- "a stored 255 never agrees"
pub stored_255 : (s : List ℕ) → check_agrees s ≡ true → (get_or s check_at 0 < 255) × (get_or s (check_at + 1) 0 < 255)
unfolding check_agrees sums
stored_255 s e =
    let h = and_both _ _ e in
    let l = sums-small (slice 1 check_at s) 0 0 (lit< tt) (lit< tt) in (
      rw (eqb-true (get_or s check_at 0) (sums s).a h.0) l.0,
      rw (eqb-true (get_or s (check_at + 1) 0) (sums s).c h.1) l.1,
    )

-- a directory is accepted, with the header h, exactly when its length and its blocks are good
pub directory_exactly : (f : List ℕ) (h : Header) →
    (directory f ≡ accepted h → GoodDirectory f h)
    × (GoodDirectory f h → directory f ≡ accepted h)
directory_exactly f h = (laws.directory_good f, laws.directory_enough f h)

-- the entry of a tile of an accepted directory: "coordinate beyond limits, low above high, or count over 40" is
-- refused; 02.1: so are more muted sites than the count
pub entry_of_accepted : (f : List ℕ) (h : Header) (t : ℕ) → directory f ≡ accepted h → t < h.tiles →
    (valid_box (box_at f h t) ≡ true)
    × (count_at f h t ≤ max_sites h.axes) × (muted_at f h t ≤ count_at f h t)
entry_of_accepted f h t e l =
    let g = laws.directory_good f e in (laws.box-valid g t l, laws.count_small g t l, laws.muted_few g t l)

-- the layout's formulas give the numbers of document 01 on two axes: 20 bytes, 24 to a block, the count at 16 (02.1:
-- the muted number at 18), 12 bytes, 40 to a tile, the cue at 8, kinds 1 and 2, 512,000 bytes
pub layout_plan : (entry_size 2 ≡ 20) × (entries_per_block 2 ≡ 24) × (count_offset 2 ≡ 16) × (muted_offset 2 ≡ 18)
    × (site_size 2 ≡ 12) × (max_sites 2 ≡ 40) × (cue_offset 2 ≡ 8)
    × (directory_kind 2 ≡ 1) × (tile_kind 2 ≡ 2) × (max_length 2 ≡ 512000)
layout_plan = (refl, refl, refl, refl, refl, refl, refl, refl, refl, refl)

-- and those of 02.2 on three: "entries of 28 bytes .., 17 to a block, sites of 16 bytes .., at most 30 to a tile";
-- "kind 3 for directory and 4 for tile"; "over 520,704 bytes is 1"
pub layout_height : (entry_size 3 ≡ 28) × (entries_per_block 3 ≡ 17) × (count_offset 3 ≡ 24) × (muted_offset 3 ≡ 26)
    × (site_size 3 ≡ 16) × (max_sites 3 ≡ 30) × (cue_offset 3 ≡ 12)
    × (directory_kind 3 ≡ 3) × (tile_kind 3 ≡ 4) × (max_length 3 ≡ 520704)
layout_height = (refl, refl, refl, refl, refl, refl, refl, refl, refl, refl)

-- 02.2: "T stays at most 960, so such a file may have 1,017 blocks": the longest file has d + T blocks for T = 960, on
-- either number of axes
pub longest_file : (a : ℕ) → KnownAxes a →
    max_length a ≡ block_size * (directory_blocks (record { tiles = max_tiles; axes = a }) + max_tiles)
unfolding directory_blocks
longest_file a k =
    by_axes (λ a. max_length a ≡ block_size * (directory_blocks (record { tiles = max_tiles; axes = a }) + max_tiles))
    refl refl a k

-- 02.2: "Block 0 settles the axes": two or three, and the kind of every directory block is that of these
pub axes_settled : (f : List ℕ) (h : Header) → directory f ≡ accepted h →
    KnownAxes h.axes
    × ((p : ℕ) → p < directory_blocks h → get_or (block_at f p) kind_at 0 ≡ directory_kind h.axes)
unfolding kind_due
axes_settled f h e =
    let g = laws.directory_good f e in
    (g.axes, λ p l. eqb-true (get_or (block_at f p) kind_at 0) (directory_kind h.axes) (g.blocks p l).head.due)

-- 02.2: "plan towns keep their answers": a file of at most 512,000 bytes whose block 0 is not of kind 3, however
-- damaged, is read as without 02.2
pub directory_on_plan_lem : (f : List ℕ) → PlanFile f → directory f ≡ directory_on_plan f
directory_on_plan_lem f town = on_plan f town

-- the directories accepted without 02.2 are just those accepted with two axes, with the same header
pub plan_towns : (f : List ℕ) (h : Header) →
    (directory_on_plan f ≡ accepted h → (directory f ≡ accepted h) × (h.axes ≡ plan))
    × ((directory f ≡ accepted h) × (h.axes ≡ plan) → directory_on_plan f ≡ accepted h)
plan_towns f h = plan_exactly f h

-- and how many blocks they have, and their entries, are by the numbers of document 01
pub entries_on_plan : (f : List ℕ) (h : Header) (t : ℕ) → h.axes ≡ plan →
    (directory_blocks h ≡ directory_blocks_on_plan h.tiles)
    × (box_at f h t ≡ box_on_plan f t) × (count_at f h t ≡ count_on_plan f t) × (muted_at f h t ≡ muted_on_plan f t)
entries_on_plan f h t e = let k = tile_on_plan f h t e in (blocks_on_plan h e, k.0, k.1, k.2)

-- 02.1 leaves old directories as they were: where the last two bytes of every entry are zero, the directory comes to
-- what it comes to without 02.1, refused ones too
pub directory_like_01 : (f : List ℕ) → EntriesZero f → directory f ≡ directory01 f
directory_like_01 f zero = directory_like f zero

-- and no tile of an accepted one has a muted site by its entry
pub zero-none_muted : (f : List ℕ) → EntriesZero f → (h : Header) (t : ℕ) → directory f ≡ accepted h → t < h.tiles →
    muted_at f h t ≡ 0
zero-none_muted f zero = none_muted f zero

-- files of the same length, equal in every byte of a block, have the same block (the laws below compare blocks)
pub same_bytes : (f g : List ℕ) (p : ℕ) → length g ≡ length f →
    ((i : ℕ) → i < block_size → get_or g (block_size * p + i) 0 ≡ get_or f (block_size * p + i) 0) → block_at g p
    ≡ block_at f p
unfolding block_at
same_bytes f g p n h =
    let at = block_size * p in
    let size : (l : List ℕ) → length (take block_size (drop at l)) ≡ min block_size (length l - at) =
    λ l. length-take block_size (drop at l) ∙ ap (min block_size) (length-drop at l) in
    let byte : (l : List ℕ) (i : ℕ) → i < block_size → get_or (take block_size (drop at l)) i 0 ≡ get_or l (at + i) 0 =
    λ l i k. get_or-take block_size (drop at l) i 0 k ∙ get_or-drop at l i 0 in
    ext_get_or 0 (take block_size (drop at g)) (take block_size (drop at f))
    (size g ∙ ap (λ k. min block_size (k - at)) n ∙ sym (size f))
    (λ i k. let l : i < block_size = omega (arith, size g) in byte g i l ∙ h i l ∙ sym (byte f i l))

-- what the directory comes to depends on the file's length and on the directory's blocks alone
module _ (f g : List ℕ) (first : block_at g 0 ≡ block_at f 0) (s : SameDirectory f g (header_in (block_at f 0))) where
  block_depends : (p : ℕ) → block_at g p ≡ block_at f p → directory_block_at g p ≡ directory_block_at f p
  unfolding directory_block_at
  block_depends p e = rw (e, first, s.size)

  rest_depends : (h : Header) → directory_block_at f 0 ≡ accepted h → directory_rest g h ≡ directory_rest f h
  unfolding directory_rest
  rest_depends h e =
      let k = laws.block_at_good f 0 e in
      let known : KnownAxes h.axes = rw k.0 (axes_known (block_at f 0)) in
      let m = laws.some_block h known k.2.least in
      ap (λ o. and_then o (λ _. accepted h))
      (turns_same (directory_block_at g) (directory_block_at f) 1 (directory_blocks h - 1)
      (λ i a b. block_depends i (s.blocks i (rw (← k.0) (omega arith)))))

  pub directory_depends : directory g ≡ directory f
  unfolding directory
  directory_depends =
      ap (λ n. require (length_due n) #length 0 (and_then (directory_block_at g 0) (directory_rest g))) s.size
      ∙ ap (require (length_due (length f)) #length 0)
      (ap (λ o. and_then o (directory_rest g)) (block_depends 0 first)
      ∙ and_then-same (directory_block_at f 0) (directory_rest g) (directory_rest f) rest_depends)

-- so does the entry of each of its tiles
pub entry_depends : (f g : List ℕ) (h : Header) (t : ℕ) → KnownAxes h.axes → SameDirectory f g h → t < h.tiles →
    (box_at g h t ≡ box_at f h t)
    × (count_at g h t ≡ count_at f h t) × (muted_at g h t ≡ muted_at f h t)
unfolding box_at count_at muted_at
entry_depends f g h t known s l =
    let e = s.blocks (t / entries_per_block h.axes) (laws.entry_block h known t l) in (rw e, rw e, rw e)

-- a file that agrees with an accepted directory is accepted with the same header
pub same-directory : (f g : List ℕ) (h : Header) → directory f ≡ accepted h → SameDirectory f g h →
    directory g ≡ accepted h
same-directory f g h e s =
    let d = laws.directory_good f e in
    let m = laws.some_block h d.axes d.tiles.least in
    let q : header_in (block_at f 0) ≡ h = (d.blocks 0 m).header in
    directory_depends f g (s.blocks 0 m) (rw q s) ∙ e
