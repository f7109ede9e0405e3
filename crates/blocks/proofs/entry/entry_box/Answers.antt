use mathlib.Core.Path.{◌≡◌}
use native.Mathlib.Omega.{arith}
use borrow.Author.Rules.{rules}
use Rattle.base.specs.Tabulate.{tabulate}
use Rattle.blocks.specs.Directory.{entry_box}
use Rattle.blocks.proofs.entry.entry_box.Goals as goal

pub entry_axis-x-requires : goal.entry_axis-x-requires
entry_axis-x-requires c =
    let e : c.args.axes ≡ 3 = omega arith in
    (search rules, rw e at c.requires.1, search rules, c.requires.2)

pub entry_axis-y-requires : goal.entry_axis-y-requires
entry_axis-y-requires c =
    let e : c.args.axes ≡ 3 = omega arith in
    (search rules, rw e at c.requires.1, search rules, c.requires.2)

pub entry_axis-z-requires : goal.entry_axis-z-requires
entry_axis-z-requires c =
    let e : c.args.axes ≡ 3 = omega arith in
    (search rules, rw e at c.requires.1, search rules, c.requires.2)

pub entry_axis-x-requires-else-axes-eq-HEIGHT : goal.entry_axis-x-requires-else-axes-eq-HEIGHT
entry_axis-x-requires-else-axes-eq-HEIGHT c =
    let e : c.args.axes ≡ 2 = omega arith in
    (search rules, rw e at c.requires.1, search rules, c.requires.2)

pub entry_axis-y-requires-else-axes-eq-HEIGHT : goal.entry_axis-y-requires-else-axes-eq-HEIGHT
entry_axis-y-requires-else-axes-eq-HEIGHT c =
    let e : c.args.axes ≡ 2 = omega arith in
    (search rules, rw e at c.requires.1, search rules, c.requires.2)

pub returns-then-axes-eq-HEIGHT : goal.returns-then-axes-eq-HEIGHT
unfolding entry_box tabulate
returns-then-axes-eq-HEIGHT c =
    let e : c.args.axes ≡ 3 = omega arith in
    rw (e, c.entry_axis-x.ensures, c.entry_axis-y.ensures, c.entry_axis-z.ensures)

pub returns-else-axes-eq-HEIGHT : goal.returns-else-axes-eq-HEIGHT
unfolding entry_box tabulate
returns-else-axes-eq-HEIGHT c =
    let e : c.args.axes ≡ 2 = omega arith in
    rw (e, c.entry_axis-x-else-axes-eq-HEIGHT.ensures, c.entry_axis-y-else-axes-eq-HEIGHT.ensures)
