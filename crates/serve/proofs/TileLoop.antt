-- The loop over the tiles of one stop: what holds at each turn, and how it starts, goes on and ends.
use Prim.Native.Nat.{ℕ, ◌<◌, ◌≤◌}
use mathlib.Core.Bool.{Bool, true, false}
use mathlib.Core.List.{List, [], ◌∷◌}
use mathlib.Core.Path.{◌≡◌, refl, sym, ap, ◌∙◌}
use native.Mathlib.Omega.{arith}
use lib.Dec.{eqb}
use lib.ListN.{length, get_or, set, replicate, length-set, length-replicate}
use lib.Seq.{get_or-set_other}
use borrow.Author.Tests.{eqb-true, eqb-false}
use Rattle.base.specs.Over.{over}
use Rattle.base.specs.Refusal.{accepted, refused}
use Rattle.base.specs.Tabulate.{tabulate}
use Rattle.blocks.specs.declared.header.Header.{Header}
use Rattle.list.specs.Inner.Keeping.{places, Adds, Ready}
use Rattle.list.specs.Slices.{Slices, lay, cleared}
use Rattle.places.specs.declared.tile.Target.{Target}
use Rattle.plan.specs.FilePlan.{space, entries, opening_of, Site}
use Rattle.plan.specs.Inner.Seam.{stop_of}
use Rattle.queue.specs.Inner.Keys.{none, least_key}
use Rattle.queue.specs.declared.keys.Least.{Least}
use Rattle.search.specs.Inner.Cut.{last_ahead}
use Rattle.search.specs.Inner.Walk.{Trace, cut_ends, cut_adds, cut_walk}
use Rattle.search.specs.Order.{sort}
use Rattle.search.specs.Plan.{near}
use Rattle.search.specs.Run.{no_place, in_order, tile_places, opened_mark}
use Rattle.search.specs.declared.Place.{Place}
use Rattle.base.proofs.Outcomes.{accepted_injective, accepted_refused}
use Rattle.base.proofs.Over.{over-set}
use Rattle.base.proofs.Tests.{by_test}
use Rattle.list.proofs.Added.{added_list, added_ready, added_laid}
use Rattle.list.proofs.Laying.{places-length, lay_self, lay_under, SameLengths, same_lengths, lay_lengths}
use Rattle.plan.proofs.Theorems.{opens_own_town}
use Rattle.queue.proofs.Scanning.{least_here}
use Rattle.queue.proofs.Waiting.{Keyed, living, living-none, living_next, keyed_next}
use Rattle.search.proofs.Walk.{walk_none, walk_ends, walk_refused, walk_opens}
use Rattle.serve.specs.Inner.Marks.{mark_all, OpenedOpen}
use Rattle.serve.specs.Inner.Serving.{walk_of, with_sites, after_tile, StopServed}

module _ (f : List ℕ) (h : Header) (order : List ℕ) (g : Target) (o₀ : Slices) where
  -- the whole walk, and what is left of it
  abbrev pub whole_walk : Trace (List Place)
  whole_walk = walk_of f h order (stop_of h g.stop) g.k

  abbrev pub rest_walk : List ℕ → List Place → Trace (List Place)
  rest_walk keys l =
      cut_walk (entries f h) g.k (opening_of f h) (stop_of h g.stop)
      (in_order (entries f h) (living order keys) (stop_of h g.stop)) l

  -- the list as the slices hold it
  abbrev found : Slices → ℕ → List Place
  found o used = places o.lists g.at used

  pub record TileTurn (keys : List ℕ) (o : Slices) (used : ℕ) : Type 0 where
    pub ready : Ready o.lists g.at used g.k
    pub laid : o.lists ≡ lay o₀.lists g.at (found o used)
    pub keyed : Keyed (entries f h) (stop_of h g.stop) order keys
    pub opens : OpenedOpen f h o.marks
    pub lengths : SameLengths o.lists o₀.lists
    pub long : length o.marks ≡ length o₀.marks
    pub out : whole_walk.out ≡ (rest_walk keys (found o used)).out
    pub asked : mark_all o₀.marks whole_walk.asked ≡ mark_all o.marks (rest_walk keys (found o used)).asked
    pub under : over o.marks 0 (replicate h.tiles 0) ≡ over o₀.marks 0 (replicate h.tiles 0)

  -- at the start: all tiles wait, with their keys
  pub tile_starts : {keys : List ℕ} → Ready o₀.lists g.at 0 g.k
      → Keyed (entries f h) (stop_of h g.stop) order keys → living order keys ≡ order
      → OpenedOpen f h o₀.marks → TileTurn keys o₀ 0
  unfolding places tabulate
  tile_starts {keys} ready keyed all opens =
      let w : rest_walk keys [] ≡ whole_walk =
      ap (λ z. cut_walk (entries f h) g.k (opening_of f h) (stop_of h g.stop)
      (in_order (entries f h) z (stop_of h g.stop)) []) all in
      record {
        ready = ready;
        laid = sym (lay_self o₀.lists g.at 0);
        keyed = keyed;
        opens = opens;
        lengths = same_lengths o₀.lists;
        long = refl;
        out = ap (λ z. z.out) (sym w);
        asked = ap (λ z. mark_all o₀.marks z.asked) (sym w);
        under = refl;
      }

-- one turn
module _ {f : List ℕ} {h : Header} {order : List ℕ} {g : Target} {o₀ : Slices} {keys : List ℕ} {o : Slices} {used : ℕ}
    (turn : TileTurn f h order g o₀ keys o used) where
  abbrev W : Trace (List Place)
  W = whole_walk f h order g o₀

  abbrev R : List ℕ → List Place → Trace (List Place)
  R ks l = rest_walk f h order g o₀ ks l

  abbrev F : Slices → ℕ → List Place
  F p n = found f h order g o₀ p n

  abbrev ends : ℕ → List Place → Bool
  ends = cut_ends (entries f h) g.k (stop_of h g.stop)

  abbrev adds : ℕ → List Site → List Place → List Place
  adds = cut_adds (entries f h) g.k (stop_of h g.stop)

  -- the stop's places cover what was written
  covered : cleared g.at g.k h.tiles o ≡ cleared g.at g.k h.tiles o₀
  unfolding cleared
  covered =
      let n = places-length o.lists g.at used in
      let m = length-replicate g.k no_place in
      let zeros = replicate g.k no_place in
      let few = turn.ready.few in
      let lists : lay o.lists g.at zeros ≡ lay o₀.lists g.at zeros =
      ap (λ z. lay z g.at zeros) turn.laid
      ∙ lay_under o₀.lists g.at g.at (F o used) zeros (omega arith) (omega arith) in
      rw (lists, turn.under)

  -- the walk ends here, with this list
  tile_ends : R keys (F o used) ≡ record { asked = []; out = accepted (F o used) }
      → StopServed f h W g.k g.at o₀ (accepted used) o
  unfolding mark_all
  tile_ends e =
      let n = places-length o.lists g.at used in
      let answer : W.out ≡ accepted (F o used) = turn.out ∙ ap (λ w. w.out) e in
      let same : (l : List Place) → W.out ≡ accepted l → F o used ≡ l =
      λ l q. accepted_injective (sym answer ∙ q) in
      let marks : mark_all o₀.marks W.asked ≡ o.marks = turn.asked
      ∙ ap (λ w. mark_all o.marks w.asked) e in
      record {
        outcome = rw answer (ap accepted (sym n));
        few = λ l q. rw (← (same l q)) (omega (arith, turn.ready.few));
        answered = λ l q. rw (← (same l q), marks, ← turn.laid);
        opens = λ l q. turn.opens;
        under = covered;
      }

  -- the next key
  module _ (r : Least) (s : r ≡ least_key keys 0 (length order)) where
    -- no tile waits
    pub tile_none : none ≤ r.key → StopServed f h W g.k g.at o₀ (accepted used) o
    unfolding sort
    tile_none e = tile_ends (rw (living-none order keys (rw s at e))
        (walk_none ends adds (opening_of f h) (F o used)))

    module _ (below : r.key < none) where
      abbrev tile : ℕ
      tile = get_or order r.at 0

      abbrev laterTiles : List ℕ
      laterTiles = in_order (entries f h) (living order (set keys r.at none)) (stop_of h g.stop)

      key-is : r.key ≡ near (entries f h) (stop_of h g.stop) tile
      key-is =
          let a = rw (← s) at (least_here keys 0 (length order) (rw s at below)) in
          sym a.2 ∙ turn.keyed.own r.at (omega (arith, a.1)) (omega (arith, a.2))

      waits-first : in_order (entries f h) (living order keys) (stop_of h g.stop) ≡ tile ∷ laterTiles
      waits-first = living_next turn.keyed r s below

      -- the list is full ahead of the next key
      pub tile_full : last_ahead g.k (F o used) r.key tile ≡ true
          → StopServed f h W g.k g.at o₀ (accepted used) o
      tile_full e = tile_ends (rw waits-first
          (walk_ends ends adds (opening_of f h) tile laterTiles (F o used) (rw (← key-is) e)))

      module _ (free : last_ahead g.k (F o used) r.key tile ≡ false) where
        near-not-full : last_ahead g.k (F o used) (near (entries f h) (stop_of h g.stop) tile) tile ≡ false
        near-not-full = rw (← key-is) free

        -- its opening is refused
        pub tile_refused : (n b : ℕ) → opening_of f h tile ≡ refused n b
            → StopServed f h W g.k g.at o₀ (refused n b) o
        tile_refused n b e =
            let q : W.out ≡ refused n b = turn.out ∙ rw waits-first
            (ap (λ w. w.out)
            (walk_refused ends adds (opening_of f h) tile laterTiles (F o used) n b near-not-full e)) in
            record {
              outcome = rw q;
              few = λ l w. accepted_refused w q;
              answered = λ l w. accepted_refused w q;
              opens = λ l w. accepted_refused w q;
              under = covered;
            }

        -- it opens, and the walk goes on
        module _ (l : List Site) (e : opening_of f h tile ≡ accepted l) (tiles : tile < h.tiles)
            (marks : h.tiles ≤ length o.marks) {n : ℕ}
            (number : n ≡ length (with_sites h tile g used l o.lists)) where
          abbrev next : Slices
          next = after_tile h tile g used (accepted l) o

          added : Adds o.lists g.at used g.k (tile_places space (stop_of h g.stop) tile l) n next.lists
          added = record { number = number; laid = refl }

          list-is : F next n ≡ with_sites h tile g used l o.lists
          list-is = added_list turn.ready added

          walk_is : R keys (F o used) ≡ record {
            asked = tile ∷ (R (set keys r.at none) (F next n)).asked;
            out = (R (set keys r.at none) (F next n)).out;
          }
          walk_is = rw (waits-first, list-is)
              (walk_opens ends adds (opening_of f h) tile laterTiles (F o used) l near-not-full e)

          opens-next : OpenedOpen f h (set o.marks tile opened_mark)
          opens-next t i q = by_test (eqb t tile)
              (λ z. rw (eqb-true t tile z, ← (opens_own_town f h tile e)) e)
              (λ z. turn.opens t i (sym (get_or-set_other o.marks tile t opened_mark 0 (eqb-false t tile z)) ∙ q))

          pub tile_next : TileTurn f h order g o₀ (set keys r.at none) next n
          unfolding mark_all
          tile_next =
              let z = length-replicate {A = ℕ} h.tiles 0 in
              record {
                ready = added_ready turn.ready added;
                laid = added_laid turn.ready added o₀.lists turn.laid;
                keyed = keyed_next turn.keyed r s below;
                opens = opens-next;
                lengths = lay_lengths o.lists g.at (with_sites h tile g used l o.lists) turn.lengths;
                long = length-set o.marks tile opened_mark ∙ turn.long;
                out = turn.out ∙ ap (λ w. w.out) walk_is;
                asked = turn.asked ∙ ap (λ w. mark_all o.marks w.asked) walk_is;
                under = over-set o.marks tile 0 opened_mark (replicate h.tiles 0) (omega arith) (omega arith)
                    ∙ turn.under;
              }
