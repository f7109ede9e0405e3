use mathlib.Core.Path.{◌≡◌}
use native.Mathlib.Nat.{add-zero}
use native.Mathlib.Omega.{arith}
use Rattle.base.specs.Tabulate.{tabulate}
use Rattle.codec.proofs.Number.{local_i32}
use Rattle.tiles.specs.Tile.{site_in}
use Rattle.tiles.proofs.tile.point_in.Goals as goal

pub returns-then-axes-eq-HEIGHT : goal.returns-then-axes-eq-HEIGHT
unfolding site_in tabulate
returns-then-axes-eq-HEIGHT c =
    let x = c.i32_at-x in
    let y = c.i32_at-y in
    let z = c.i32_at in
    let e : c.args.axes ≡ 3 = omega arith in
    simp (e, local_i32 x.result x.type_inv, local_i32 y.result y.type_inv, local_i32 z.result z.type_inv)
    (simp (x.ensures, y.ensures, z.ensures, c.site_offset-at.ensures.0, e, add-zero))

pub returns-else-axes-eq-HEIGHT : goal.returns-else-axes-eq-HEIGHT
unfolding site_in tabulate
returns-else-axes-eq-HEIGHT c =
    let x = c.i32_at-x in
    let y = c.i32_at-y in
    let e : c.args.axes ≡ 2 = omega arith in
    simp (e, local_i32 x.result x.type_inv, local_i32 y.result y.type_inv)
    (simp (x.ensures, y.ensures, c.site_offset-at.ensures.0, e, add-zero))
