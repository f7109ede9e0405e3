-- Each stop by itself: its tiles walked from nothing found, so that a tile may be asked for again at a later stop.
-- The join asks for a tile once; Equation shows that all else is the same.
--
--   walk-..         the clauses of any walk; asked_all: it asks for tiles that wait
--   walks-..        the clauses of the walks of all stops; how many lists; walks that are the same
--   walk, walks     the walk that keeps all that it found, cut at its end
--   Walked, walked  that walk in a town
use Prim.Native.Nat.{ℕ, suc, ◌≤◌}
use mathlib.Core.Bool.{Bool, true, false}
use mathlib.Core.List.{List, [], ◌∷◌, ◌++◌, append_assoc, append-nil}
use mathlib.Core.Path.{◌≡◌, refl, sym, ap, ◌∙◌, subst}
use lib.ListN.{length, take}
use borrow.Author.Tests.{leb-true}
use Rattle.base.specs.Refusal.{Outcome, accepted, refused, and_then}
use Rattle.base.proofs.Outcomes.{by_outcome, accepted_injective, accepted_refused, and_then_accepted}
use Rattle.base.proofs.Tests.{by_test}
use Rattle.search.specs.Inner.Walk.{Trace, enter, stop_then, walk_by, walks_by}
use Rattle.search.specs.Lists.{count, All}
use Rattle.search.specs.Order.{sort}
use Rattle.search.specs.Plan.{Geometry, Directory, Town}
use Rattle.search.specs.Run.{tile_places, Reading, Place, rank, places_of, ahead, enough}

-- the first k of what was found
unfoldable pub cut : ℕ → List Place → List Place
cut k found = take k (sort rank found)

abbrev pub cut_out : ℕ → Outcome (List Place) → Outcome (List Place)
cut_out k o = and_then o (λ found. accepted (cut k found))

-- ---- the clauses of a walk, and of the walks of all stops

module _ {S A : Type 0} (ends : ℕ → A → Bool) (adds : ℕ → List S → A → A) (read : ℕ → Outcome (List S)) where
  pub walk_none : (a : A) → walk_by ends adds read [] a ≡ record { asked = []; out = accepted a }
  unfolding walk_by
  walk_none a = refl

  module _ (t : ℕ) (ts : List ℕ) (a : A) where
    pub walk_ends : ends t a ≡ true → walk_by ends adds read (t ∷ ts) a ≡ record { asked = []; out = accepted a }
    unfolding walk_by
    walk_ends e = rw e

    pub walk_refused : (n b : ℕ) → ends t a ≡ false → read t ≡ refused n b
        → walk_by ends adds read (t ∷ ts) a ≡ record { asked = t ∷ []; out = refused n b }
    unfolding walk_by enter
    walk_refused n b e r = rw (e, r)

    pub walk_opens : (f : List S) → ends t a ≡ false → read t ≡ accepted f
        → let rest = walk_by ends adds read ts (adds t f a) in
        walk_by ends adds read (t ∷ ts) a ≡ record { asked = t ∷ rest.asked; out = rest.out }
    unfolding walk_by enter
    walk_opens f e r = rw (e, r)

  -- a walk asks only for tiles that wait, refused or not
  pub asked_all : (P : ℕ → Type 0) (ts : List ℕ) (a : A) → All P ts → All P (walk_by ends adds read ts a).asked
  asked_all P [] a h = rw (walk_none a) tt
  asked_all P (t ∷ ts) a h = by_test (ends t a)
      (λ e. rw (walk_ends t ts a e) tt)
      (λ e. by_outcome (read t)
      (λ f r. rw (walk_opens t ts a f e r) (h.0, asked_all P ts (adds t f a) h.1))
      (λ n b r. rw (walk_refused t ts a n b e r) (h.0, tt)))

module _ {P : Type 0} (stop : P → Trace (List Place)) where
  pub walks_none : walks_by stop [] ≡ record { asked = []; out = accepted [] }
  unfolding walks_by
  walks_none = refl

  module _ (p : P) (ps : List P) where
    pub walks_refused : (n b : ℕ) → (stop p).out ≡ refused n b → (walks_by stop (p ∷ ps)).out ≡ refused n b
    unfolding walks_by stop_then
    walks_refused n b e = rw e

    pub walks_next : (l : List Place) → (stop p).out ≡ accepted l → walks_by stop (p ∷ ps) ≡ record {
      asked = (stop p).asked ++ (walks_by stop ps).asked;
      out = and_then (walks_by stop ps).out (λ ls. accepted (l ∷ ls));
    }
    unfolding walks_by stop_then
    walks_next l e = rw e

  -- as many lists as stops
  pub walks_length : (ps : List P) (ls : List (List Place)) → (walks_by stop ps).out ≡ accepted ls
      → length ls ≡ length ps
  walks_length [] ls e = let i : ls ≡ [] = sym (accepted_injective (ap (λ w. w.out) (sym walks_none) ∙ e)) in rw i
  walks_length (p ∷ ps) ls e = by_outcome (stop p).out
      (λ l q.
      let h = and_then_accepted (walks_by stop ps).out (λ r. accepted (l ∷ r))
      (ap (λ w. w.out) (sym (walks_next p ps l q)) ∙ e) in
      let i : ls ≡ l ∷ h.0 = sym (accepted_injective h.2) in
      rw i (ap suc (walks_length ps h.0 h.1)))
      (λ n b q. accepted_refused e (walks_refused p ps n b q))

-- stops whose walks are the same
pub walks_same : {P : Type 0} (stop other : P → Trace (List Place)) (ps : List P) → All (λ p. stop p ≡ other p) ps
    → walks_by stop ps ≡ walks_by other ps
unfolding walks_by
walks_same stop other [] h = refl
walks_same stop other (p ∷ ps) h = rw (h.0, walks_same stop other ps h.1)

-- ---- the walk that keeps all that it found

module _ {G : Geometry} (E : Directory G) (k : ℕ) where
  open G use {Site, Stop}

  abbrev pub found_adds : Stop → ℕ → List Site → List Place → List Place
  found_adds p t f found = found ++ tile_places G p t f

  abbrev pub walk : Reading G → Stop → List ℕ → List Place → Trace (List Place)
  walk read p ts found = walk_by (enough E k p) (found_adds p) read ts found

  -- each over the tiles of its queue, cut at its end
  abbrev pub walks : (Stop → List ℕ) → Reading G → List Stop → Trace (List (List Place))
  walks tiles_of read ps =
      walks_by (λ p. let w = walk read p (tiles_of p) [] in record { asked = w.asked; out = cut_out k w.out }) ps

  -- ---- a walk in a town: it answers, with the places of the first tiles of its queue

  -- k places are ahead of the next key, if a tile remains
  abbrev pub Enough : Stop → List ℕ → List Place → Type 0
  Enough p [] l = Unit {0}
  Enough p (t ∷ ts) l = k ≤ count (ahead E p t) l

  pub record Walked (p : Stop) (g : Town G) (ts : List ℕ) (found : List Place) : Type 0 where
    pub pre : List ℕ
    pub rest : List ℕ
    pub split : ts ≡ pre ++ rest
    pub trace : walk (λ t. accepted (g t)) p ts found
        ≡ record { asked = pre; out = accepted (found ++ places_of G p g pre) }
    pub filled : Enough p rest (found ++ places_of G p g pre)

  pub walked : (p : Stop) (g : Town G) (ts : List ℕ) (found : List Place) → Walked p g ts found
  unfolding walk_by places_of enough
  walked p g [] found = record { pre = []; rest = []; split = refl; trace = rw append-nil; filled = tt }
  walked p g (t ∷ ts) found = by_test (enough E k p t found)
      (λ e. record {
        pre = [];
        rest = t ∷ ts;
        split = refl;
        trace = rw append-nil (walk_ends (enough E k p) (found_adds p) (λ u. accepted (g u)) t ts found e);
        filled = rw append-nil (leb-true k _ e);
      })
      (λ e.
      let here = tile_places G p t (g t) in
      let r = walked p g ts (found ++ here) in
      record {
        pre = t ∷ r.pre;
        rest = r.rest;
        split = ap (λ l. t ∷ l) r.split;
        trace = walk_opens (enough E k p) (found_adds p) (λ u. accepted (g u)) t ts found (g t) e refl
            ∙ rw (r.trace, append_assoc found here (places_of G p g r.pre));
        filled = subst (Enough p r.rest) (append_assoc found here (places_of G p g r.pre)) r.filled;
      })
