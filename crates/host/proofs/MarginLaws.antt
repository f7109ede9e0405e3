-- The margin's number: that of good boxes, and that of bad ones.
use mathlib.Core.Bool.{true, false, ◌&&◌}
use mathlib.Core.List.{List}
use mathlib.Core.Path.{◌≡◌}
use lib.IntN.{ℤ}
use Rattle.geometry.specs.Box.{valid_box}
use Rattle.geometry.specs.Calls.{margin_call}
use Rattle.geometry.specs.Margin.{margin}
use Rattle.host.specs.Cab.{bad_box, margin_number}

pub bad_number : (o e b : List (List ℤ)) → (valid_box o && valid_box e) && valid_box b ≡ false →
    bad_box ≡ margin_number o e b
unfolding margin_number margin_call
bad_number o e b p = rw p

pub good_number : (o e b : List (List ℤ)) → (valid_box o && valid_box e) && valid_box b ≡ true →
    margin o e b ≡ margin_number o e b
unfolding margin_number margin_call margin
good_number o e b p = rw p
