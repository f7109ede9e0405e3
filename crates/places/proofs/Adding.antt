-- The sites of a block put into the list of a stop, one after another.
use Prim.Native.Nat.{ℕ, zero, suc, ◌+◌, ◌-◌, ◌<◌, ◌≤◌}
use mathlib.Core.Bool.{true, false}
use mathlib.Core.List.{List, [], ◌∷◌}
use mathlib.Core.Path.{◌≡◌, refl, sym, ap, ◌∙◌}
use native.Mathlib.Nat.{add-zero}
use native.Mathlib.Omega.{arith}
use lib.Dec.{ltb}
use lib.IntN.{ℤ}
use lib.ListN.{length, get_or}
use borrow.Author.Tests.{ltb-true, ltb-false}
use Rattle.base.specs.Tabulate.{tabulate}
use Rattle.list.specs.Inner.Keeping.{places, Adds, Ready}
use Rattle.list.specs.Slices.{Lists, place_at, lay}
use Rattle.blocks.specs.declared.header.Header.{Header}
use Rattle.plan.specs.FilePlan.{space}
use Rattle.plan.specs.Inner.Seam.{stop_of, site_place, site_in}
use Rattle.search.specs.Inner.Cut.{inserts}
use Rattle.search.specs.Run.{rank, listing}
use Rattle.search.specs.declared.Place.{Place}
use Rattle.base.proofs.Tests.{by_test}
use Rattle.list.proofs.Added.{added_list, added_ready, added_laid}
use Rattle.list.proofs.Full.{put_nothing, put-none}
use Rattle.list.proofs.Laying.{places-length, lay_self, SameLengths, same_lengths, lay_lengths}
use Rattle.search.proofs.Pairs.{lex_less}
use Rattle.places.specs.Inner.Adding.{Farther, Skipped}
use Rattle.places.specs.declared.tile.Target.{Target}

-- the sites from a slot on, numbered
abbrev from : Header → List ℕ → List ℤ → ℕ → ℕ → ℕ → List Place
from h s p first n slot = listing space p (first + slot) (tabulate (site_in h.axes s) slot (n - slot))

-- that of one slot, if it ranks
abbrev pub the : Header → List ℕ → List ℤ → ℕ → ℕ → List Place
the h s p first slot = listing space p (first + slot) (site_in h.axes s slot ∷ [])

pub the_ranking : (h : Header) (s : List ℕ) (p : List ℤ) (first slot : ℕ)
    → space.ranks (site_in h.axes s slot) ≡ true
    → the h s p first slot ≡ site_place p (first + slot) (site_in h.axes s slot) ∷ []
unfolding listing
the_ranking h s p first slot e = rw e

pub the_muted : (h : Header) (s : List ℕ) (p : List ℤ) (first slot : ℕ) → space.ranks (site_in h.axes s slot) ≡ false
    → the h s p first slot ≡ []
unfolding listing
the_muted h s p first slot e = rw e

module _ (h : Header) (s : List ℕ) (p : List ℤ) (k first slot n : ℕ) (l : List Place) where
  sites_turn : slot < n
      → inserts rank k (from h s p first n (slot + 1)) (inserts rank k (the h s p first slot) l)
      ≡ inserts rank k (from h s p first n slot) l
  unfolding inserts listing tabulate
  sites_turn below =
      let e : n - slot ≡ suc (n - (slot + 1)) = omega arith in
      let a : first + (slot + 1) ≡ suc (first + slot) = omega arith in
      by_test (space.ranks (site_in h.axes s slot)) (λ t. rw (e, a, t)) (λ t. rw (e, a, t))

  sites_done : n ≤ slot → inserts rank k (from h s p first n slot) l ≡ l
  unfolding inserts listing tabulate
  sites_done past = let e : n - slot ≡ 0 = omega arith in rw e

-- the loop over them: the slices were o₀ at the start, with some places used, and now the sites below slot are added
pub record Adding (h : Header) (s : List ℕ) (n first : ℕ) (target : Target) (o₀ : Lists) (used : ℕ) (o : Lists)
    (m slot : ℕ) : Type 0 where
  pub ready : Ready o target.at m target.k
  pub laid : o ≡ lay o₀ target.at (places o target.at m)
  pub rest : inserts rank target.k (from h s (stop_of h target.stop) first n slot) (places o target.at m)
      ≡ inserts rank target.k (listing space (stop_of h target.stop) first (tabulate (site_in h.axes s) 0 n))
      (places o₀ target.at used)

module _ (h : Header) (s : List ℕ) (n first : ℕ) (target : Target) where
  pub adding_starts : {o : Lists} {used : ℕ} → Ready o target.at used target.k
      → Adding h s n first target o used o used 0
  adding_starts {o} {used} ready =
      let e : n - 0 ≡ n = omega arith in
      record { ready = ready; laid = sym (lay_self o target.at used); rest = rw (add-zero first, e) }

module _ {h : Header} {s : List ℕ} {n first : ℕ} {target : Target} {o₀ : Lists} {used : ℕ} {o : Lists} {m slot : ℕ}
    (a : Adding h s n first target o₀ used o m slot) where
  pub adding_lengths : SameLengths o o₀
  adding_lengths = rw a.laid (lay_lengths o₀ target.at (places o target.at m) (same_lengths o₀))

  pub adding_turn : slot < n → {r : ℕ} {o' : Lists}
      → Adds o target.at m target.k (the h s (stop_of h target.stop) first slot) r o'
      → Adding h s n first target o₀ used o' r (slot + 1)
  adding_turn below added =
      let p = stop_of h target.stop in
      let k = target.k in
      let here = places o target.at m in
      record {
        ready = added_ready a.ready added;
        laid = added_laid a.ready added o₀ a.laid;
        rest = ap (inserts rank k (from h s p first n (slot + 1))) (added_list a.ready added)
            ∙ sites_turn h s p k first slot n here below ∙ a.rest;
      }

  pub adding_done : n ≤ slot
      → Adds o₀ target.at used target.k (listing space (stop_of h target.stop) first
      (tabulate (site_in h.axes s) 0 n)) m o
  adding_done past =
      let here = places o target.at m in
      let e = sym (sites_done h s (stop_of h target.stop) target.k first slot n here past) ∙ a.rest in
      record { number = sym (places-length o target.at m) ∙ ap length e; laid = rw e at a.laid }

-- sites farther away than the last place of a full list leave it as it is
module _ {h : Header} {s : List ℕ} {n first : ℕ} {target : Target} {o₀ : Lists} {used : ℕ} {o : Lists} {m slot : ℕ}
    (a : Adding h s n first target o₀ used o m slot) where
  adding_past : target.k ≤ m → (j : ℕ) → slot + j ≤ n
      → Farther h s (stop_of h target.stop) (get_or o.dist (target.at + (target.k - 1)) 0) slot (slot + j)
      → Adding h s n first target o₀ used o m (slot + j)
  unfolding rank
  adding_past full zero inside far = rw (add-zero slot) a
  adding_past full (suc j) inside far =
      let e : slot + suc j ≡ slot + j + 1 = omega arith in
      let b = adding_past full j (omega arith) (λ i l u. far i l (omega arith)) in
      let p = stop_of h target.stop in
      let x = site_place p (first + (slot + j)) (site_in h.axes s (slot + j)) in
      let y = place_at o (target.at + (target.k - 1)) in
      let ahead = lex_less y.site x.site (far (slot + j) (omega arith) (omega arith)) in
      let stays : Adds o target.at m target.k (the h s p first (slot + j)) m o =
      by_test (space.ranks (site_in h.axes s (slot + j)))
      (λ t. rw (the_ranking h s p first (slot + j) t) (put-none b.ready x full y refl ahead))
      (λ t. rw (the_muted h s p first (slot + j) t) (put_nothing o target.at m target.k)) in
      rw e (adding_turn b (omega arith) stays)

  pub adding_skip : {r : ℕ} → Skipped h s n slot target m o.dist r → Adding h s n first target o₀ used o m r
  adding_skip {r} skipped =
      let e : slot + (r - slot) ≡ r = omega (arith, skipped.onward) in
      by_test (ltb slot r)
      (λ t.
      let far = skipped.farther (ltb-true slot r t) in
      rw e at (adding_past far.0 (r - slot) (omega (arith, skipped.inside)) (λ i l u. far.1 i l (omega arith))))
      (λ t. let same : r ≡ slot = omega (arith, skipped.onward, ltb-false slot r t) in rw same a)
