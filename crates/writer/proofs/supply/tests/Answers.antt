use Rattle.std.specs.Prelude.{ℕ, ℤ, List, ◌*◌}
use mathlib.Core.Bool.{true}
use mathlib.Core.List.{[], ◌∷◌}
use mathlib.Core.Path.{◌≡◌, sym, ap, ◌∙◌}
use lib.Dec.{eqb, leb}
use lib.ListN.{length, take}
use borrow.Author.Tests.{le-leb, lt-leb, eq-eqb, ne_eqb}
use Rattle.base.specs.Refusal.{accepted, require, #stray, #short}
use Rattle.base.specs.Every.{every}
use Rattle.encode.specs.Encode.{file_length}
use Rattle.encode.specs.Supply.{supply, header_of, numbers_per_box, site_total}
use Rattle.base.proofs.Every.{every_at}
use Rattle.base.proofs.Tests.{passed, failed}
use Rattle.writer.specs.Write.{tiles_fit, entry_fits, lists_fit, tile_fits, write_tests}
use Rattle.writer.proofs.WriteLaws.{tiles_fit_good, entry_fits_good, lists_good, columns_axes, columns-long}
use Rattle.writer.proofs.supply.tests.Goals as goal
use Rattle.writer.proofs.supply.tests.Goals.{After-file_length, After-lists_fit, After-numbers_per_box}
use Rattle.writer.proofs.supply.tests.Goals.{Else-boxes-numbers_per_box, Else-not-entries_fit, Else-not-inside}
use Rattle.writer.proofs.supply.tests.Goals.{Else-not-lists_fit, Else-not-tiles_fit, Start}

-- the columns of the axes
abbrev spots : ℕ → List ℤ → List ℤ → List ℤ → List (List ℤ)
spots axes xs ys zs = take axes (xs ∷ ys ∷ zs ∷ [])

own-axes : (s : Start) →
    let a = s.args in
    length (spots a.axes a.xs.now a.ys.now a.zs.now) ≡ a.axes
own-axes s =
    let a = s.args in columns_axes a.axes a.xs.now a.ys.now a.zs.now s.requires.0

-- what each test that was passed shows
pass-1 : (c : Else-not-tiles_fit) → tiles_fit (length c.args.counts.now) ≡ true
pass-1 c = passed c.tiles_fit.ensures c.if-not-tiles_fit.false

-- the numbers that are due
due : (c : After-numbers_per_box) →
    let n = length c.args.counts.now in
    c.numbers_per_box.result * n ≡ numbers_per_box c.args.axes * n
due c =
    ap (λ k. k * length c.args.counts.now) c.numbers_per_box.ensures

numbers : (c : Else-boxes-numbers_per_box) →
    length c.args.boxes.now ≡ numbers_per_box c.args.axes * length c.args.counts.now
numbers c =
    c.if-boxes-numbers_per_box.false ∙ ap (λ k. k * length c.args.counts.now) c.numbers_per_box.ensures

pass-2 : (c : Else-boxes-numbers_per_box) →
    eqb (length c.args.boxes.now) (numbers_per_box c.args.axes * length c.args.counts.now) ≡ true
pass-2 c = eq-eqb _ _ (numbers c)

pass-3 : (c : Else-not-entries_fit) →
    every (entry_fits c.args.axes c.args.boxes.now c.args.counts.now) (length c.args.counts.now)
    ≡ true
pass-3 c = passed c.entries_fit.ensures c.if-not-entries_fit.false

-- test 15 of the site lists, against the sum as the definition has it
lists : (c : After-lists_fit) →
    let a = c.args in
    c.lists_fit.result
    ≡ lists_fit (site_total a.counts.now) (spots a.axes a.xs.now a.ys.now a.zs.now) a.cues.now
lists c =
    let a = c.args in
    c.lists_fit.ensures ∙ ap (λ n. lists_fit n (spots a.axes a.xs.now a.ys.now a.zs.now) a.cues.now) c.sum_of.ensures

pass-4 : (c : Else-not-lists_fit) →
    let a = c.args in
    lists_fit (site_total a.counts.now) (spots a.axes a.xs.now a.ys.now a.zs.now) a.cues.now ≡ true
pass-4 c =
    let a = c.args in
    passed
    (c.lists_fit.ensures ∙ ap (λ n. lists_fit n (spots a.axes a.xs.now a.ys.now a.zs.now) a.cues.now) c.sum_of.ensures)
    c.if-not-lists_fit.false

-- what is left of the tests
after-4 : (c : Else-not-lists_fit) →
    let a = c.args in
    let columns = spots a.axes a.xs.now a.ys.now a.zs.now in
    write_tests (supply a.boxes.now a.counts.now columns a.cues.now) a.room
    ≡ require (every (tile_fits a.axes a.boxes.now a.counts.now columns) (length a.counts.now)) #stray 0
    (require (leb (file_length (header_of a.axes a.counts.now)) a.room) #short 0 (accepted tt))
unfolding write_tests
after-4 c =
    let a = c.args in
    let axes = columns_axes a.axes a.xs.now a.ys.now a.zs.now c.requires.0 in
    let total : length a.boxes.now ≡ numbers_per_box a.axes * length a.counts.now =
    c.if-boxes-numbers_per_box.false ∙ ap (λ k. k * length a.counts.now) c.numbers_per_box.ensures in
    rw (
      axes,
      passed c.tiles_fit.ensures c.if-not-tiles_fit.false,
      eq-eqb _ _ total,
      passed c.entries_fit.ensures c.if-not-entries_fit.false,
      pass-4 c,
    )

pass-5 : (c : Else-not-inside) →
    let a = c.args in
    every (tile_fits a.axes a.boxes.now a.counts.now (spots a.axes a.xs.now a.ys.now a.zs.now)) (length a.counts.now)
    ≡ true
pass-5 c = passed c.tiles_inside-inside.ensures c.if-not-inside.false

fits : (c : After-file_length) →
    let a = c.args in
    leb c.file_length.result a.room ≡ leb (file_length (header_of a.axes a.counts.now)) a.room
fits c =
    ap (λ n. leb n c.args.room) (c.file_length.ensures ∙ ap file_length c.header_of.ensures)

pub returns-then-not-tiles_fit : goal.returns-then-not-tiles_fit
unfolding write_tests
returns-then-not-tiles_fit c = rw (failed c.tiles_fit.ensures c.if-not-tiles_fit.true)

pub returns-then-boxes-numbers_per_box : goal.returns-then-boxes-numbers_per_box
unfolding write_tests
returns-then-boxes-numbers_per_box c =
    let at = goal.at.returns-then-boxes-numbers_per_box c in
    let a = c.args in
    let other = ne_eqb (length a.boxes.now) (numbers_per_box a.axes * length a.counts.now)
    (λ e. c.if-boxes-numbers_per_box.true (e ∙ sym (due at.After-numbers_per_box))) in
    rw (own-axes at.Start, pass-1 at.Else-not-tiles_fit, other)

pub returns-then-not-entries_fit : goal.returns-then-not-entries_fit
unfolding write_tests
returns-then-not-entries_fit c =
    let at = goal.at.returns-then-not-entries_fit c in
    rw (
      own-axes at.Start,
      pass-1 at.Else-not-tiles_fit,
      pass-2 at.Else-boxes-numbers_per_box,
      failed c.entries_fit.ensures c.if-not-entries_fit.true,
    )

pub sum_of-requires : goal.sum_of-requires
sum_of-requires c =
    let a = c.args in (
      c.requires.0,
      (tiles_fit_good _ (pass-1 (goal.at.sum_of-requires c).Else-not-tiles_fit)).1,
      λ t h. (entry_fits_good a.axes a.boxes.now a.counts.now t
          (every_at (entry_fits a.axes a.boxes.now a.counts.now) (length a.counts.now) t (pass-3 c) h)).1,
    )

pub returns-then-not-lists_fit : goal.returns-then-not-lists_fit
unfolding write_tests
returns-then-not-lists_fit c =
    let at = goal.at.returns-then-not-lists_fit c in
    rw (
      own-axes at.Start,
      pass-1 at.Else-not-tiles_fit,
      pass-2 at.Else-boxes-numbers_per_box,
      pass-3 at.Else-not-entries_fit,
      failed (lists at.After-lists_fit) c.if-not-lists_fit.true,
    )

pub tiles_inside-inside-requires : goal.tiles_inside-inside-requires
tiles_inside-inside-requires c =
    let a = c.args in
    let columns = spots a.axes a.xs.now a.ys.now a.zs.now in
    let l = lists_good (site_total a.counts.now) columns a.cues.now (pass-4 c) in
    let n = columns-long a.axes (site_total a.counts.now) a.xs.now a.ys.now a.zs.now c.requires l.0
    in
    (c.requires.0, numbers (goal.at.tiles_inside-inside-requires c).Else-boxes-numbers_per_box, n.0, n.1, n.2)

pub file_length-requires : goal.file_length-requires
file_length-requires c =
    let few = (tiles_fit_good _ (pass-1 (goal.at.file_length-requires c).Else-not-tiles_fit)).1 in
    rw c.header_of.ensures (c.requires.0, few)

pub returns-then-not-inside : goal.returns-then-not-inside
returns-then-not-inside c =
    let at = goal.at.returns-then-not-inside c in
    rw (after-4 at.Else-not-lists_fit, failed c.tiles_inside-inside.ensures c.if-not-inside.true)

pub returns-then-not-fits : goal.returns-then-not-fits
returns-then-not-fits c =
    let at = goal.at.returns-then-not-fits c in
    let long = failed (fits at.After-file_length) (lt-leb _ _ c.if-not-fits.true) in
    rw (after-4 at.Else-not-lists_fit, pass-5 at.Else-not-inside, long)

pub returns : goal.returns
returns c =
    let at = goal.at.returns c in
    let short = passed (fits at.After-file_length) (le-leb _ _ c.if-not-fits.false) in
    rw (after-4 at.Else-not-lists_fit, pass-5 at.Else-not-inside, short)
