-- A gap that moves down through the places of a list, for a place to be put in.
use Prim.Native.Nat.{ℕ, zero, suc, ◌+◌, ◌-◌, ◌<◌, ◌≤◌}
use mathlib.Core.Bool.{true, false}
use mathlib.Core.List.{[], ◌∷◌, ◌++◌}
use mathlib.Core.Path.{◌≡◌, sym, ap, ◌∙◌}
use native.Mathlib.Numerals.{sub-one}
use native.Mathlib.Omega.{arith}
use lib.ListN.{length, length-set}
use lib.Seq.{get_or-set_other}
use Rattle.base.specs.Tabulate.{tabulate}
use Rattle.search.specs.Inner.Cut.{Sorted}
use Rattle.search.specs.Order.{insert}
use Rattle.search.specs.Run.{rank}
use Rattle.search.specs.declared.Place.{Place}
use Rattle.search.proofs.Places.{rank_order}
use Rattle.search.proofs.Sort.{insert-length}
use Rattle.list.specs.Inner.Keeping.{places, put, Ready, with_place}
use Rattle.list.specs.Slices.{Lists, place_at}
use Rattle.list.proofs.Insertion.{insert_back, insert-none, insert_end}
use Rattle.list.proofs.Laying.{places-length, places_last, places_same, places-sorted, lay_self, put_last}
use Rattle.list.proofs.Laying.{put-lay}

-- a place stored at index i does not show in what lies below
places-put : (o : Lists) (at n i : ℕ) (y : Place) → at + n ≤ i → places (put o i y) at n ≡ places o at n
places-put o at n i y h = places_same o (put o i y) at n (λ j a b.
    let e : j ≡ i → ⊥ = λ q. omega arith in
    rw (
      get_or-set_other o.dist i j y.dist 0 e,
      get_or-set_other o.site i j y.site 0 e,
      get_or-set_other o.cue i j y.cue 0 e,
    ))

module _ (o : Lists) (at : ℕ) where
  last_is : (n : ℕ) (y : Place) → y ≡ place_at o (at + suc n - 1) → places o at (suc n) ≡ places o at n ++ y ∷ []
  last_is n y q =
      let e : at + suc n - 1 ≡ at + n = omega arith in
      rw q (rw e (places_last o at n))

  -- x stored where it comes last
  stored_last : (n : ℕ) (x : Place) → insert rank x (places o at n) ≡ places o at n ++ x ∷ []
      → put o (at + n) x ≡ with_place o at n x
  stored_last n x e =
      let k = places-length o at n in
      rw e (ap (λ z. put z (at + n) x) (sym (lay_self o at n)) ∙ put-lay o at (at + n) (places o at n) x (omega arith))

-- the gap is at index at + n, above n places
module _ {o : Lists} {at n k : ℕ} (ready : Ready o at n k) where
  module _ (some : 0 < n) (y : Place) where
    -- a turn: the place y below the gap does not rank before x, and moves up
    moved_up : (x : Place) → y ≡ place_at o (at + n - 1) → rank y x ≡ false
        → with_place (put o (at + n) y) at (n - 1) x ≡ with_place o at n x
    moved_up x q e = go n some q
      where
        go : (m : ℕ) → 0 < m → y ≡ place_at o (at + m - 1)
            → with_place (put o (at + m) y) at (m - 1) x ≡ with_place o at m x
        go zero h q = absurd (omega arith)
        go (suc m) h q =
            let l = places o at m in
            let a = insert-length rank x l in
            let b = places-length o at m in
            let f : at + suc m ≡ at + length (insert rank x l) = omega arith in
            let w = places-put o at m (at + suc m) y (omega arith) in
            rw (last_is o at m y q, insert_back rank x l y e, sub-one, w)
            (put_last o at (at + suc m) (insert rank x l) y f)

    moved_ready : Ready (put o (at + n) y) at (n - 1) k
    moved_ready =
        let a = length-set o.dist (at + n) y.dist in
        let b = length-set o.site (at + n) y.site in
        let c = length-set o.cue (at + n) y.cue in
        let l = ready.long in
        record {
          some = ready.some;
          few = omega (arith, ready.few);
          long = (omega arith, (omega arith, omega arith));
          sorted = rw (places-put o at (n - 1) (at + n) y (omega arith))
              (places-sorted o at n (n - 1) (omega arith) ready.sorted);
        }

    -- the end: it ranks before x
    stored-behind : (x : Place) → y ≡ place_at o (at + n - 1) → rank y x ≡ true → put o (at + n) x ≡ with_place o at n x
    stored-behind x q e = go n some q ready.sorted
      where
        go : (m : ℕ) → 0 < m → y ≡ place_at o (at + m - 1) → Sorted rank (places o at m)
            → put o (at + m) x ≡ with_place o at m x
        go zero h q s = absurd (omega arith)
        go (suc m) h q s =
            let w = last_is o at m y q in
            stored_last o at (suc m) x (rw w (insert_end rank x rank_order (places o at m) y (rw w at s) e))

  -- or no place is left below
  stored_first : n ≤ 0 → (x : Place) → put o (at + n) x ≡ with_place o at n x
  unfolding places tabulate
  stored_first h x = let e : n ≡ 0 = omega arith in rw e (stored_last o at 0 x (insert-none rank x))

-- ---- the loop that leaves a gap for x above or among n places: at the start the slices were o₀, now left places are
-- below the gap
pub record Gap (o₀ : Lists) (at n : ℕ) (x : Place) (o : Lists) (left : ℕ) : Type 0 where
  pub few : left ≤ n
  pub d : length o.dist ≡ length o₀.dist
  pub s : length o.site ≡ length o₀.site
  pub c : length o.cue ≡ length o₀.cue
  pub ready : Ready o at left (n + 1)
  pub rest : with_place o at left x ≡ with_place o₀ at n x

module _ {o₀ : Lists} {at n : ℕ} {x : Place} {o : Lists} {left : ℕ} (g : Gap o₀ at n x o left) where
  module _ (some : 0 < left) (y : Place) (e : y ≡ place_at o (at + left - 1)) where
    pub gap_turn : rank y x ≡ false → Gap o₀ at n x (put o (at + left) y) (left - 1)
    gap_turn behind = record {
      few = omega (arith, g.few);
      d = length-set o.dist (at + left) y.dist ∙ g.d;
      s = length-set o.site (at + left) y.site ∙ g.s;
      c = length-set o.cue (at + left) y.cue ∙ g.c;
      ready = moved_ready g.ready some y;
      rest = moved_up g.ready some y x e behind ∙ g.rest;
    }

    pub gap_stop : rank y x ≡ true → put o (at + left) x ≡ with_place o₀ at n x
    gap_stop ahead = stored-behind g.ready some y x e ahead ∙ g.rest

  pub gap_bottom : left ≤ 0 → put o (at + left) x ≡ with_place o₀ at n x
  gap_bottom h = stored_first g.ready h x ∙ g.rest
