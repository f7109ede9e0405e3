use Rattle.std.specs.Prelude.{ℕ, ℤ, List, Ok, Result, ◌≤◌}
use mathlib.Core.List.{[], ◌∷◌}
use mathlib.Core.Path.{◌≡◌, sym, ap, ◌∙◌}
use native.Mathlib.Omega.{arith}
use lib.ListN.{length, take}
use borrow.Author.Rules.{rules}
use Rattle.base.specs.Answer.{tested_at}
use Rattle.base.specs.Refusal.{accepted}
use Rattle.base.specs.declared.refusal.Reason.{Reason}
use Rattle.encode.specs.Encode.{file_length}
use Rattle.encode.specs.Supply.{Supply, supply, axes_of, header_of, site_total}
use Rattle.writer.specs.Accepted.{GoodSupply}
use Rattle.writer.specs.Write.{write_tests}
use Rattle.writer.proofs.WriteLaws.{tests_good, call_accepted, exit_accepted}
use Rattle.writer.proofs.WriteLaws.{columns_axes, columns-long, file_row}
use Rattle.writer.proofs.write.write_columns.Goals as goal
use Rattle.writer.proofs.write.write_columns.Goals.{Start}

-- the lists as one value, and its axes
abbrev given : ℕ → List ℤ → List ℕ → List ℤ → List ℤ → List ℤ → List ℕ → Supply
given axes boxes counts xs ys zs cues = supply boxes counts (take axes (xs ∷ ys ∷ zs ∷ [])) cues

abbrev lists : Start → Supply
lists s =
    let a = s.args in given a.axes a.boxes.now a.counts.now a.xs.now a.ys.now a.zs.now a.cues.now

own-axes : (s : Start) → axes_of (lists s) ≡ s.args.axes
own-axes s =
    let a = s.args in columns_axes a.axes a.xs.now a.ys.now a.zs.now s.requires.0

-- what the tests answer, and that nothing failed
module _ (s : Start) (r : Result Unit Reason)
    (told : tested_at 0 r ≡ write_tests (lists s) (length s.args.out.now))
    (passed : r ≡ Ok tt) where
  accepted-tests : write_tests (lists s) (length s.args.out.now) ≡ accepted tt
  accepted-tests = sym told ∙ ap (tested_at 0) passed

  good : GoodSupply (lists s) × (file_length (header_of s.args.axes s.args.counts.now) ≤ length s.args.out.now)
  good =
      let a = s.args in
      let g = tests_good _ _ accepted-tests in
      (g.0, rw (columns_axes a.axes a.xs.now a.ys.now a.zs.now s.requires.0) at g.1)

  -- the columns have the lengths that the tests ask for; of a plan town the third is the second again
  columns :
      (length s.args.xs.now ≡ site_total s.args.counts.now) × (length s.args.ys.now ≡ site_total s.args.counts.now)
      × (length s.args.zs.now ≡ site_total s.args.counts.now)
  columns =
      let a = s.args in
      columns-long a.axes (site_total a.counts.now) a.xs.now a.ys.now a.zs.now s.requires
      good.0.spots

pub put_directory-requires : goal.put_directory-requires
unfolding file_length
put_directory-requires c =
    let g = good (goal.at.put_directory-requires c).Start c.tests.result c.tests.ensures (search rules) in
    let axes = own-axes (goal.at.put_directory-requires c).Start in
    (c.requires.0, omega (arith, g.1), rw axes at g.0.numbers, g.0.most, g.0.cues)

pub put_tiles-requires : goal.put_tiles-requires
put_tiles-requires c =
    let s = (goal.at.put_tiles-requires c).Start in
    let passed : c.tests.result ≡ Ok tt = search rules in
    let g = good s c.tests.result c.tests.ensures passed in
    let l = columns s c.tests.result c.tests.ensures passed in (
      c.requires.0,
      omega (arith, g.1, c.put_directory.auto.d),
      g.0.most,
      rw (own-axes s) at g.0.counts,
      l.0,
      l.1,
      l.2,
      g.0.cues,
    )

pub file_length-requires : goal.file_length-requires
file_length-requires c =
    let g = good (goal.at.file_length-requires c).Start c.tests.result c.tests.ensures (search rules) in
    rw c.header_of.ensures (c.requires.0, g.0.most)

pub returns : goal.returns
returns c =
    let at = goal.at.returns c in
    let a = c.args in
    let s = given a.axes a.boxes.now a.counts.now a.xs.now a.ys.now a.zs.now a.cues.now in
    let axes = own-axes at.Start in
    let e = call_accepted s (length a.out.now) (accepted-tests at.Start c.tests.result c.tests.ensures (search rules)) in record {
      answer = ap accepted (c.file_length.ensures ∙ ap file_length c.header_of.ensures
          ∙ ap (λ n. file_length (header_of n a.counts.now)) (sym axes)) ∙ sym e;
      output = file_row s a.out.now {d₁ = c.put_directory.new.d} (rw axes c.put_directory.ensures)
          (rw axes c.put_tiles.ensures)
          ∙ sym (exit_accepted s a.out.now e);
    }
