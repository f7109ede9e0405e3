-- What the tests of the arguments show.
use Prim.Native.Nat.{ℕ, ◌*◌, ◌≤◌}
use mathlib.Core.Bool.{true, ◌&&◌}
use mathlib.Core.List.{List, [], ◌∷◌}
use mathlib.Core.Path.{◌≡◌, refl, sym}
use native.Mathlib.Nat.{mul-le-mul}
use lib.Dec.{eqb, leb}
use lib.IntN.{ℤ}
use lib.ListN.{length, take}
use lib.Seq.{length-take-le}
use borrow.Author.Tests.{leb-true, eqb-true, eq-eqb}
use Rattle.base.specs.Lists.{All}
use Rattle.base.specs.Refusal.{accepted, #k, #stops, #axes, #spot, #short}
use Rattle.blocks.specs.declared.header.Header.{Header}
use Rattle.geometry.specs.Around.{equal_columns}
use Rattle.geometry.specs.Axes.{Columns}
use Rattle.search.specs.Inner.Places.{max_places}
use Rattle.search.specs.Limits.{valid_k, max_k, max_stops}
use Rattle.base.proofs.Every.{every_at}
use Rattle.base.proofs.Outcomes.{require_accepted}
use Rattle.base.proofs.Tests.{and_both, by_test}
use Rattle.geometry.proofs.Theorems.{columns_equal, by_axes}
use Rattle.stops.proofs.TakeLaws.{take_count}
use Rattle.stops.specs.Arguments.{stops_due, axes_due, stops_valid, room, arguments}
use Rattle.stops.specs.Inner.Good.{GoodArguments}
use Rattle.stops.specs.Stops.{stop_count, valid_stop}
use Rattle.stops.specs.WithoutHeight.{arguments_on_plan}
use Rattle.stops.specs.declared.arguments.Lengths.{Lengths}

pub good_k : (k : ℕ) → valid_k k ≡ true → (1 ≤ k) × (k ≤ max_k)
unfolding valid_k
good_k k e = let p = and_both (leb 1 k) (leb k max_k) e in (leb-true 1 k p.0, leb-true k max_k p.1)

-- of three columns y and z are looked at; of a plan call z is y again
pub columns_told : (n : ℕ) (xs ys zs : List ℤ) → Columns n ys zs →
    let m = length xs in
    (leb 1 m && leb m max_stops) && (eqb (length ys) m && eqb (length zs) m) ≡ stops_due (take n (xs ∷ ys ∷ zs ∷ []))
unfolding stops_due equal_columns
columns_told n xs ys zs k =
    let m = length xs in
    let b = leb 1 m && leb m max_stops in
    by_axes (λ n. (n ≡ 2 → zs ≡ ys)
    → b && (eqb (length ys) m && eqb (length zs) m) ≡ stops_due (take n (xs ∷ ys ∷ zs ∷ [])))
    (λ same. rw (same refl, eq-eqb m m refl) (by_test (eqb (length ys) m) (λ e. rw e) (λ e. rw e)))
    (λ same. rw (eq-eqb m m refl)
    (by_test (eqb (length ys) m) (λ e. rw e (by_test (eqb (length zs) m) (λ e. rw e) (λ e. rw e))) (λ e. rw e)))
    n k.0 k.1

-- a call for n axes has n columns
pub axes_told : (h : Header) (n : ℕ) (cols : List (List ℤ)) → n ≤ length cols
    → axes_due h (take n cols) ≡ eqb h.axes n
unfolding axes_due
axes_told h n cols l = rw (length-take-le n cols l)

-- the tests look at the columns of a call's axes
pub ruleset told = (axes_told, take_count)

pub good_stops : (cols : List (List ℤ)) → stops_due cols ≡ true
    → (1 ≤ stop_count cols) × ((stop_count cols ≤ max_stops) × All (λ c. length c ≡ stop_count cols) cols)
unfolding stops_due
good_stops cols e =
    let n = stop_count cols in
    let p = and_both (leb 1 n && leb n max_stops) (equal_columns n cols) e in
    let q = and_both (leb 1 n) (leb n max_stops) p.0 in
    (leb-true 1 n q.0, (leb-true n max_stops q.1, columns_equal n cols p.1))

pub few-places : {n k : ℕ} → n ≤ max_stops → k ≤ max_k → n * k ≤ max_places
few-places {n} {k} h g = mul-le-mul {n₁ = n} {m₁ = k} {n₂ = max_stops} {m₂ = max_k} h g

good_room : (n tiles : ℕ) (l : Lengths) → room n tiles l ≡ true
    → (n ≤ l.dist) × ((n ≤ l.site) × ((n ≤ l.cue) × (tiles ≤ l.marks)))
unfolding room
good_room n tiles l e =
    let p = and_both (leb n l.dist && leb n l.site) (leb n l.cue && leb tiles l.marks) e in
    let q = and_both (leb n l.dist) (leb n l.site) p.0 in
    let r = and_both (leb n l.cue) (leb tiles l.marks) p.1 in
    (leb-true n _ q.0, (leb-true n _ q.1, (leb-true n _ r.0, leb-true tiles _ r.1)))

pub arguments_good : (h : Header) (cols : List (List ℤ)) (k : ℕ) (l : Lengths) → arguments h cols k l ≡ accepted tt
    → GoodArguments h cols k l
unfolding arguments axes_due stops_valid
arguments_good h cols k l e =
    let a = require_accepted (valid_k k) #k 0 _ e in
    let b = require_accepted (stops_due cols) #stops 0 _ a.1 in
    let x = require_accepted (axes_due h cols) #axes 0 _ b.1 in
    let c = require_accepted (stops_valid cols) #spot 0 _ x.1 in
    let d = require_accepted (room (stop_count cols * k) h.tiles l) #short 0 _ c.1 in
    let gk = good_k k a.0 in
    let gs = good_stops cols b.0 in
    let gr = good_room (stop_count cols * k) h.tiles l d.0 in
    record {
      some_k = gk.0;
      few_k = gk.1;
      some = gs.0;
      few = gs.1.0;
      same = gs.1.1;
      axes = sym (eqb-true h.axes (length cols) x.0);
      valid = λ i below. every_at (valid_stop cols) (stop_count cols) i c.0 below;
      dist = gr.0;
      site = gr.1.0;
      cue = gr.1.1.0;
      marks = gr.1.1.1;
    }

-- without 02.2 the same, for a call with as many axes as the town
pub arguments_on_plan_lem : (h : Header) (cols : List (List ℤ)) (k : ℕ) (l : Lengths) → h.axes ≡ length cols →
    arguments h cols k l ≡ arguments_on_plan h cols k l
unfolding arguments arguments_on_plan axes_due
arguments_on_plan_lem h cols k l e = rw (eq-eqb h.axes (length cols) e)
