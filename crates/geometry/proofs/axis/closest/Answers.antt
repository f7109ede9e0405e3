use mathlib.Core.Bool.{true, false}
use mathlib.Core.Path.{◌≡◌, ◌∙◌}
use lib.Signed.{lt_z}
use mir.Facts.{to_z-of_z}
use mir.Syntax.{w32}
use mir.Val.{SFits}
use borrow.Author.Rules.{sfits_of}
use Rattle.geometry.specs.Box.{lo, hi}
use Rattle.geometry.specs.Distance.{closest}
use Rattle.geometry.proofs.axis.closest.Goals as goal
use Rattle.geometry.proofs.axis.closest.Goals.{After-h-1, After-l-1, Else-x-l}

-- the ends fit, and what each test says of them
low : (c : After-l-1) → SFits w32 (lo c.args.s)
low c = sfits_of c.l-1.given

high : (c : After-h-1) → SFits w32 (hi c.args.s)
high c = sfits_of c.h-1.given

not_left : (c : Else-x-l) → lt_z c.args.x (lo c.args.s) ≡ false
not_left c = simp (to_z-of_z {w = w32} c.ranges.x, to_z-of_z {w = w32} (low search)) at c.if-x-l.false

pub returns-then-x-l : goal.returns-then-x-l
unfolding closest
returns-then-x-l c =
    let l = low search in
    let t : lt_z c.args.x (lo c.args.s)
    ≡ true = simp (to_z-of_z {w = w32} c.ranges.x, to_z-of_z {w = w32} l) at c.if-x-l.true in
    to_z-of_z {w = w32} l ∙ rw t

pub returns-then-h-x : goal.returns-then-h-x
unfolding closest
returns-then-h-x c =
    let h = high search in
    let t : lt_z (hi c.args.s) c.args.x
    ≡ true = simp (to_z-of_z {w = w32} c.ranges.x, to_z-of_z {w = w32} h) at c.if-h-x.true in
    to_z-of_z {w = w32} h ∙ rw (not_left search, t)

pub returns : goal.returns
unfolding closest
returns c =
    let h = high search in
    let t : lt_z (hi c.args.s) c.args.x
    ≡ false = simp (to_z-of_z {w = w32} c.ranges.x, to_z-of_z {w = w32} h) at c.if-h-x.false in
    to_z-of_z {w = w32} c.ranges.x ∙ rw (not_left search, t)
