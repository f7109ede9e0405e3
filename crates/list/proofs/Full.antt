-- A place put into a list of at most k, and the last place of a full list.
use Prim.Native.Nat.{ℕ, suc, ◌+◌, ◌-◌, ◌<◌, ◌≤◌}
use mathlib.Core.Bool.{true, false}
use mathlib.Core.List.{[], ◌∷◌, ◌++◌}
use mathlib.Core.Path.{◌≡◌, sym, ap, ◌∙◌}
use native.Mathlib.Omega.{arith}
use lib.ListN.{length}
use borrow.Author.Tests.{eq-eqb, ne_eqb}
use Rattle.search.specs.Inner.Cut.{inserts, last_ahead}
use Rattle.search.specs.Run.{no_place, rank, ahead_of}
use Rattle.search.specs.declared.Place.{Place}
use Rattle.base.proofs.Tabulate.{get_d_tabulate}
use Rattle.search.proofs.Places.{rank_order}
use Rattle.search.proofs.Sort.{insert-length}
use Rattle.list.specs.Inner.Keeping.{places, with_place, Adds, Ready}
use Rattle.list.specs.Slices.{Lists, place_at}
use Rattle.list.proofs.Insertion.{cut-room, cut_stays, cut_falls}
use Rattle.list.proofs.Laying.{places-length, places_last, places-sorted, lay_self}

-- the places of a full list without the last
pub first_ready : {o : Lists} {at used k : ℕ} → Ready o at used k → k ≤ used → Ready o at (k - 1) (k - 1 + 1)
first_ready {o} {at} {used} {k} ready full =
    let s = ready.some in
    let l = ready.long in
    record {
      some = omega arith;
      few = omega arith;
      long = (omega arith, (omega arith, omega arith));
      sorted = places-sorted o at used (k - 1) (omega arith) ready.sorted;
    }

-- ---- no place put in
pub put_nothing : (o : Lists) (at used k : ℕ) → Adds o at used k [] used o
unfolding inserts
put_nothing o at used k = record { number = sym (places-length o at used); laid = sym (lay_self o at used) }

-- ---- a place x put in
module _ {o : Lists} {at used k : ℕ} (ready : Ready o at used k) (x : Place) where
  pub put-room : {o' : Lists} → used < k → o' ≡ with_place o at used x → Adds o at used k (x ∷ []) (used + 1) o'
  put-room h p =
      let n = places-length o at used in
      let e = cut-room rank x k (places o at used) (omega arith) in
      record { number = rw e (omega (arith, insert-length rank x (places o at used))); laid = rw e p }

  -- into a full list with the last place y
  module _ (full : k ≤ used) (y : Place) (last : y ≡ place_at o (at + (k - 1))) where
    apart : places o at used ≡ places o at (k - 1) ++ y ∷ []
    apart =
        let e : used ≡ suc (k - 1) = omega (arith, ready.some, ready.few) in
        rw (last, e) (places_last o at (k - 1))

    pub put-none : rank y x ≡ true → Adds o at used k (x ∷ []) used o
    put-none e =
        let m = places o at (k - 1) in
        let f : suc (length m) ≡ k = omega (arith, places-length o at (k - 1), ready.some) in
        let w : inserts rank k (x ∷ []) (places o at used) ≡ places o at used =
        ap (inserts rank k (x ∷ [])) apart ∙ cut_stays rank x k rank_order m y f (rw apart at ready.sorted) e
        ∙ sym apart in
        record { number = rw w (sym (places-length o at used)); laid = rw w (sym (lay_self o at used)) }

    pub put_full : {o' : Lists} → rank y x ≡ false → o' ≡ with_place o at (k - 1) x → Adds o at used k (x ∷ []) used o'
    put_full e p =
        let m = places o at (k - 1) in
        let f : suc (length m) ≡ k = omega (arith, places-length o at (k - 1), ready.some) in
        let n = ready.few in
        let w = ap (inserts rank k (x ∷ [])) apart ∙ cut_falls rank x k m y f e in
        record { number = rw w (omega (arith, insert-length rank x m)); laid = rw w p }

-- ---- the end test
module _ (o : Lists) (at used k least tile : ℕ) where
  pub not_full : used < k → last_ahead k (places o at used) least tile ≡ false
  unfolding last_ahead
  not_full h =
      let n = places-length o at used in
      rw (ne_eqb (length (places o at used)) k (λ e. omega arith))

  pub full_last : 0 < k → used ≡ k → last_ahead k (places o at used) least tile
      ≡ ahead_of (place_at o (at + (k - 1))) least tile
  unfolding last_ahead places
  full_last h e =
      let n = places-length o at used in
      let f = eq-eqb (length (places o at used)) k (n ∙ e) in
      rw (f, get_d_tabulate (place_at o) no_place at used (k - 1) (omega arith))
