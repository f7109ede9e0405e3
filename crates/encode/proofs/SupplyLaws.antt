-- Where a tile's sites stand in the lists, and that at most all of them are muted. Assumes nothing.
use Prim.Native.Nat.{ℕ, zero, suc, ◌+◌, ◌*◌, ◌<◌, ◌≤◌}
use mathlib.Core.List.{List}
use mathlib.Core.Logic.{⊎_elim}
use mathlib.Core.Path.{◌≡◌}
use native.Mathlib.Nat.{not-suc-le-zero, eq-or-lt_of_le, le_of_suc-le-suc}
use native.Mathlib.Numerals.{add-one}
use native.Mathlib.Omega.{arith}
use Rattle.base.proofs.HowMany.{how_many_most}
use Rattle.encode.specs.Supply.{count_of, offset, muted_from}

module _ (counts : List ℕ) where
  pub offset_next : (t : ℕ) → offset counts (t + 1) ≡ offset counts t + count_of counts t
  unfolding offset
  offset_next t = rw add-one

  pub offset_within : (t n : ℕ) → t < n → offset counts t + count_of counts t ≤ offset counts n
  unfolding offset
  offset_within t zero h = absurd (not-suc-le-zero h)
  offset_within t (suc n) h =
      ⊎_elim (λ e. rw e (omega arith)) (λ l. omega (arith, offset_within t n l)) (eq-or-lt_of_le (le_of_suc-le-suc h))

  pub offset-small : (most t : ℕ) → ((i : ℕ) → i < t → count_of counts i ≤ most) → offset counts t ≤ most * t
  unfolding offset
  offset-small most zero h = omega arith
  offset-small most (suc t) h =
      let a = offset-small most t (λ i l. h i (omega arith)) in omega (arith, h t (omega arith))

pub muted_most : (cues : List ℕ) (i n : ℕ) → muted_from cues i n ≤ n
unfolding muted_from
muted_most cues i n = how_many_most _ n
