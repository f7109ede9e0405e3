-- The difference of two coordinates as the code takes it, in 32 bits. Assumes nothing.
use mathlib.Core.Path.{◌≡◌, ◌∙◌}
use lib.IntN.{ℤ, ◌-ℤ◌}
use mir.Facts.{to_z-of_z}
use mir.Syntax.{w32}
use mir.Val.{SFits, to_z, of_z}
use Rattle.geometry.proofs.Shift.{Limited, gap_fits}

pub limited_fits : {x : ℤ} → Limited x → SFits w32 x
limited_fits l = record { sfits = l.small }

module _ {x y : ℤ} (lx : Limited x) (ly : Limited y) where
  pub subtract_fits : SFits w32 (to_z w32 (of_z w32 x) -ℤ to_z w32 (of_z w32 y))
  subtract_fits = rw (to_z-of_z (limited_fits lx), to_z-of_z (limited_fits ly)) (record { sfits = gap_fits x y lx ly })

  pub subtract_is : to_z w32 (of_z w32 (to_z w32 (of_z w32 x) -ℤ to_z w32 (of_z w32 y))) ≡ x -ℤ y
  subtract_is = to_z-of_z subtract_fits ∙ rw (to_z-of_z (limited_fits lx), to_z-of_z (limited_fits ly))
