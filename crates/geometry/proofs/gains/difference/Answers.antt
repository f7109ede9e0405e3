use Prim.Native.Nat.{ℕ, ◌≤◌}
use mathlib.Core.Path.{◌≡◌, ◌∙◌}
use native.Mathlib.Omega.{arith}
use lib.IntN.{pos, ◌-ℤ◌}
use mir.Facts.{to_z_pos, to_z-of_z}
use mir.Syntax.{w64}
use mir.Val.{SFits, to_z}
use Rattle.geometry.specs.Claims.{axis_bound}
use Rattle.geometry.proofs.Shift.{mag_difference}
use Rattle.geometry.proofs.gains.difference.Goals as goal

module _ (f n : ℕ) (h : f ≤ axis_bound) (k : n ≤ axis_bound) where
  signed : to_z w64 f -ℤ to_z w64 n ≡ pos f -ℤ pos n
  signed = rw (to_z_pos w64 {n = f} (omega arith), to_z_pos w64 {n = n} (omega arith))

  fits : SFits w64 (to_z w64 f -ℤ to_z w64 n)
  fits = rw signed (record { sfits = omega (arith, mag_difference f n axis_bound h k) })

pub overflow_sub-result : goal.overflow_sub-result
overflow_sub-result c = fits c.args.far c.args.near c.requires.0 c.requires.1

pub returns : goal.returns
returns c =
    to_z-of_z {w = w64} (fits c.args.far c.args.near c.requires.0 c.requires.1)
    ∙ signed c.args.far c.args.near c.requires.0 c.requires.1
