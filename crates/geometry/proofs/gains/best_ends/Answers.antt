use mathlib.Core.Path.{◌≡◌, ◌∙◌}
use mir.Facts.{to_z-of_z}
use mir.Syntax.{w32}
use mir.Val.{SFits}
use borrow.Author.Rules.{sfits_of}
use Rattle.geometry.proofs.OneAxis.{axis, valid_on}
use Rattle.geometry.specs.Margin.{best_end}
use Rattle.geometry.proofs.BestEnd.{best_end_on}
use Rattle.geometry.proofs.gains.best_ends.Goals as goal

pub farthest-y-requires : goal.farthest-y-requires
farthest-y-requires c =
    let o = c.args.o in
    let k : SFits w32 c.best_end-x.result = sfits_of c.best_end-x.type_inv in
    let x : c.best_end-x.result ≡ best_end o c.args.e c.args.b = c.best_end-x.ensures in (
      c.requires.1.0,
      rw (to_z-of_z {w = w32} k, x) (valid_on c.requires.0
          (best_end_on o c.args.e c.args.b (axis o c.requires.0))),
    )

pub returns : goal.returns
returns c =
    let kx : SFits w32 c.best_end-x.result = sfits_of c.best_end-x.type_inv in
    let ky : SFits w32 c.farthest-y.result = sfits_of c.farthest-y.type_inv in
    let kz : SFits w32 c.closest-z.result = sfits_of c.closest-z.type_inv in
    let x : c.best_end-x.result ≡ best_end c.args.o c.args.e c.args.b = c.best_end-x.ensures in
    let y = simp x at (simp (to_z-of_z {w = w32} kx) at c.farthest-y.ensures) in
    let z = simp x at (simp (to_z-of_z {w = w32} kx) at c.closest-z.ensures) in
    record { o = to_z-of_z {w = w32} kx ∙ x; e = to_z-of_z {w = w32} ky ∙ y; b = to_z-of_z {w = w32} kz ∙ z }
