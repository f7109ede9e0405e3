-- A list to which places were added: what it holds, that it is ready for more, and that only the list is written.
use Prim.Native.Nat.{ℕ, ◌+◌, ◌≤◌}
use mathlib.Core.List.{List}
use mathlib.Core.Path.{◌≡◌, ap, ◌∙◌}
use native.Mathlib.Omega.{arith}
use lib.ListN.{length}
use Rattle.search.specs.Inner.Cut.{inserts}
use Rattle.search.specs.Run.{rank}
use Rattle.search.specs.declared.Place.{Place}
use Rattle.search.proofs.Places.{rank_order}
use Rattle.list.specs.Inner.Keeping.{places, Adds, Ready}
use Rattle.list.specs.Slices.{Lists, lay}
use Rattle.list.proofs.Insertion.{inserts-few, inserts_grow, inserts-sorted}
use Rattle.list.proofs.Laying.{places-length, lay-long, lay-places, lay_under}

module _ {more : List Place} {o : Lists} {at used k r : ℕ} {o' : Lists} (ready : Ready o at used k)
    (h : Adds o at used k more r o') where
  few : length (inserts rank k more (places o at used)) ≤ k
  few = inserts-few rank k more (places o at used) (omega (arith, places-length o at used, ready.few))

  pub added_list : places o' at r ≡ inserts rank k more (places o at used)
  added_list =
      let f = few in
      let l = ready.long in
      let new = inserts rank k more (places o at used) in
      rw (h.number, h.laid) (lay-places o at new (omega arith, (omega arith, omega arith)))

  pub added_ready : Ready o' at r k
  added_ready = record {
    some = ready.some;
    few = omega (arith, h.number, few);
    long = rw h.laid (lay-long o at (inserts rank k more (places o at used)) (at + k) ready.long);
    sorted = rw added_list (inserts-sorted rank k rank_order more (places o at used) ready.sorted);
  }

  pub added_laid : (o₀ : Lists) → o ≡ lay o₀ at (places o at used) → o' ≡ lay o₀ at (places o' at r)
  added_laid o₀ p =
      let old = places o at used in
      let new = inserts rank k more old in
      let n = places-length o at used in
      let g = inserts_grow rank k more old (omega (arith, ready.few)) in
      rw added_list (h.laid ∙ ap (λ z. lay z at new) p ∙ lay_under o₀ at at old new (omega arith) (omega arith))
