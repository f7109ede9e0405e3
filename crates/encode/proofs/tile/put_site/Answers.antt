use mathlib.Core.Path.{◌≡◌}
use native.Mathlib.Omega.{arith}
use lib.IntN.{pos}
use lib.ListN.{get_or}
use mir.Facts.{to_z-of_z}
use mir.Syntax.{w32}
use borrow.Author.Rules.{rules}
use Rattle.encode.proofs.EncodeLaws.{plan_site_row, height_site_row}
use Rattle.encode.proofs.tile.put_site.Goals as goal

pub returns-then-axes-eq-HEIGHT : goal.returns-then-axes-eq-HEIGHT
returns-then-axes-eq-HEIGHT c =
    let a = c.args in
    let e : a.axes ≡ 3 = omega arith in
    rw e (height_site_row a.d.now a.at a.sites.xs.now a.sites.ys.now a.sites.zs.now a.sites.cues.now a.i
    (simp (to_z-of_z {w = w32} {z = get_or a.sites.xs.now a.i (pos 0)} (search rules)) at c.put_i32.ensures)
    (simp (to_z-of_z {w = w32} {z = get_or a.sites.ys.now a.i (pos 0)} (search rules)) at c.put_i32-2.ensures)
    (simp (to_z-of_z {w = w32} {z = get_or a.sites.zs.now a.i (pos 0)} (search rules)) at
    c.put_i32-then-axes-eq-HEIGHT.ensures)
    c.put_u32.ensures)

pub returns-else-axes-eq-HEIGHT : goal.returns-else-axes-eq-HEIGHT
returns-else-axes-eq-HEIGHT c =
    let a = c.args in
    let e : a.axes ≡ 2 = omega arith in
    rw e (plan_site_row a.d.now a.at a.sites.xs.now a.sites.ys.now a.sites.zs.now a.sites.cues.now a.i
    (simp (to_z-of_z {w = w32} {z = get_or a.sites.xs.now a.i (pos 0)} (search rules)) at c.put_i32.ensures)
    (simp (to_z-of_z {w = w32} {z = get_or a.sites.ys.now a.i (pos 0)} (search rules)) at c.put_i32-2.ensures)
    c.put_u32-else-axes-eq-HEIGHT.ensures)
