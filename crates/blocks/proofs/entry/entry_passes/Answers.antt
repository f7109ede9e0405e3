use mathlib.Core.Path.{◌≡◌}
use native.Mathlib.Omega.{arith}
use borrow.Author.Rules.{rules}
use Rattle.blocks.proofs.entry.entry_passes.Goals as goal

pub entry_valid-requires : goal.entry_valid-requires
entry_valid-requires c =
    let e : c.args.axes ≡ 3 = omega arith in
    (search rules, rw e at c.requires.1, c.requires.2)

pub entry_valid-requires-else-axes-eq-HEIGHT : goal.entry_valid-requires-else-axes-eq-HEIGHT
entry_valid-requires-else-axes-eq-HEIGHT c =
    let e : c.args.axes ≡ 2 = omega arith in
    (search rules, rw e at c.requires.1, c.requires.2)

pub returns-then-axes-eq-HEIGHT : goal.returns-then-axes-eq-HEIGHT
returns-then-axes-eq-HEIGHT c =
    let e : c.args.axes ≡ 3 = omega arith in
    rw e c.entry_valid.ensures

pub returns-else-axes-eq-HEIGHT : goal.returns-else-axes-eq-HEIGHT
returns-else-axes-eq-HEIGHT c =
    let e : c.args.axes ≡ 2 = omega arith in
    rw e c.entry_valid-else-axes-eq-HEIGHT.ensures
