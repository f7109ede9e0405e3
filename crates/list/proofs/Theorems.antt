-- The theorems of this crate for the reader. Call `insert_place`, definition `lay`: what a call laid is read back,
-- place by place, and every other place is what it was.
use Prim.Native.Nat.{ℕ, ◌+◌, ◌<◌, ◌≤◌}
use mathlib.Core.List.{List}
use mathlib.Core.Path.{◌≡◌}
use lib.ListN.{length, get_or}
use Rattle.search.specs.Run.{no_place}
use Rattle.search.specs.declared.Place.{Place}
use Rattle.list.specs.Slices.{Lists, place_at, lay}
use Rattle.list.proofs.Laying.{lay_place, lay_before, lay_after}

module _ (o : Lists) (at : ℕ) (l : List Place) where
  pub laid_there : at + length l ≤ length o.dist → at + length l ≤ length o.site → at + length l ≤ length o.cue
      → (i : ℕ) → i < length l → place_at (lay o at l) (at + i) ≡ get_or l i no_place
  laid_there d s c = lay_place o at l (d, (s, c))

  pub nothing_before : (i : ℕ) → i < at → place_at (lay o at l) i ≡ place_at o i
  nothing_before = lay_before o at l

  pub nothing_after : (i : ℕ) → at + length l ≤ i → place_at (lay o at l) i ≡ place_at o i
  nothing_after = lay_after o at l
