-- The loop over the stops: what holds at each turn, and how it starts, goes on and ends.
use Prim.Native.Nat.{ℕ, suc, ◌+◌, ◌*◌, ◌<◌, ◌≤◌}
use mathlib.Core.List.{List, [], ◌∷◌, ◌++◌}
use mathlib.Core.Path.{◌≡◌, refl, sym, ap, ◌∙◌}
use native.Mathlib.Nat.{suc-mul, mul-le-mul_right}
use native.Mathlib.Numerals.{add-one}
use native.Mathlib.Omega.{arith}
use lib.IntN.{ℤ}
use lib.ListN.{length, get_or, drop, replicate, length-replicate, drop_of_length-le}
use lib.Seq.{drop-cons}
use Rattle.base.specs.Over.{over}
use Rattle.base.specs.Refusal.{Outcome, accepted, refused, and_then}
use Rattle.base.specs.Tabulate.{tabulate}
use Rattle.blocks.specs.declared.header.Header.{Header}
use Rattle.list.specs.Inner.Keeping.{places, Ready}
use Rattle.list.specs.Slices.{Long, Lists, Slices, lay, cleared}
use Rattle.search.specs.Inner.Walk.{Trace}
use Rattle.search.specs.Run.{no_place, no_mark, in_rows}
use Rattle.search.specs.declared.Place.{Place}
use Rattle.base.proofs.Outcomes.{and_then_accepted, and_then_refused, accepted_injective}
use Rattle.list.proofs.Laying.{lay_nil, lay_under, SameLengths, same_lengths, lay_lengths}
use Rattle.list.proofs.Padding.{Clear, clear_kept, stop_laid}
use Rattle.search.proofs.Walk.{walks_none, walks_refused, walks_next}
use Rattle.serve.specs.Inner.Marks.{mark_all, OpenedOpen}
use Rattle.serve.specs.Inner.Serving.{walk_of, waiting, walks_of, last_length, StopServed, Serves}
use Rattle.serve.proofs.Marking.{length_mark_all, mark_all-append}

module _ (f : List ℕ) (h : Header) (ps : List (List ℤ)) (k : ℕ) (o₀ : Slices) where
  -- the tiles that wait, and the walks of all stops over them
  abbrev pub order : List ℕ
  order = waiting f h o₀.marks

  abbrev pub whole_run : Trace (List (List Place))
  whole_run = walks_of f h order ps k

  -- those of the stops from i on
  abbrev pub rest_run : ℕ → Trace (List (List Place))
  rest_run i = walks_of f h order (drop i ps) k

  abbrev pub all_places : ℕ
  all_places = length ps * k

  -- what the lists of the stops still to come make of the whole
  pub record Ends (o : Slices) (at used : ℕ) (ls : List (List Place)) : Type 0 where
    pub all : List (List Place)
    pub out : whole_run.out ≡ accepted all
    pub laid : lay o.lists at (in_rows k ls) ≡ lay o₀.lists 0 (in_rows k all)
    pub last : last_length used ls ≡ last_length 0 all

  pub record StopTurn (o : Slices) (i at used : ℕ) : Type 0 where
    pub bound : i ≤ length ps
    pub place : at ≡ i * k
    pub lengths : SameLengths o.lists o₀.lists
    pub long : length o.marks ≡ length o₀.marks
    pub clear : Clear o.lists at all_places
    pub opens : OpenedOpen f h o.marks
    pub fine : (ls : List (List Place)) → (rest_run i).out ≡ accepted ls → Ends o at used ls
    pub bad : (a b : ℕ) → (rest_run i).out ≡ refused a b → whole_run.out ≡ refused a b
    pub asked : mark_all o₀.marks whole_run.asked ≡ mark_all o.marks (rest_run i).asked
    pub under : cleared 0 all_places h.tiles o ≡ cleared 0 all_places h.tiles o₀

  pub stop_starts : Clear o₀.lists 0 all_places → OpenedOpen f h o₀.marks → StopTurn o₀ 0 0 0
  stop_starts clear opens = record {
    bound = omega arith;
    place = omega arith;
    lengths = same_lengths o₀.lists;
    long = refl;
    clear = clear;
    opens = opens;
    fine = λ ls e. record { all = ls; out = e; laid = refl; last = refl };
    bad = λ a b e. e;
    asked = refl;
    under = refl;
  }

  -- what covers a stop's places, over all of them
  covered : (o o' : Slices) (at : ℕ) → at + k ≤ all_places → cleared at k h.tiles o' ≡ cleared at k h.tiles o
      → cleared 0 all_places h.tiles o' ≡ cleared 0 all_places h.tiles o
  unfolding cleared
  covered o o' at fits e =
      let zeros = replicate all_places no_place in
      let few = replicate k no_place in
      let a = length-replicate k no_place in
      let b = length-replicate all_places no_place in
      let lists : lay o'.lists 0 zeros ≡ lay o.lists 0 zeros =
      sym (lay_under o'.lists at 0 few zeros (omega arith) (omega arith))
      ∙ ap (λ (z : Slices). lay z.lists 0 zeros) e
      ∙ lay_under o.lists at 0 few zeros (omega arith) (omega arith) in
      rw (lists, ap (λ (z : Slices). z.marks) e)

-- one turn
module _ {f : List ℕ} {h : Header} {ps : List (List ℤ)} {k : ℕ} {o₀ o : Slices} {i at used : ℕ}
    (turn : StopTurn f h ps k o₀ o i at used) where
  abbrev W : Trace (List (List Place))
  W = whole_run f h ps k o₀

  abbrev R : ℕ → Trace (List (List Place))
  R j = rest_run f h ps k o₀ j

  abbrev N : ℕ
  N = all_places f h ps k o₀

  -- no stop is left
  pub stop_ends : length ps ≤ i → Serves f h ps k o₀ (accepted used) o
  unfolding mark_all in_rows
  stop_ends l = record {
    outcome = rw end.out (ap accepted end.last);
    left = rw (end.out, ← end.laid, lay_nil o.lists at, marks);
  }
    where
      none : R i ≡ record { asked = []; out = accepted [] }
      none = rw (drop_of_length-le ps l) (walks_none _)

      end : Ends f h ps k o₀ o at used []
      end = turn.fine [] (ap (λ w. w.out) none)

      marks : mark_all o₀.marks W.asked ≡ o.marks
      marks = turn.asked ∙ ap (λ w. mark_all o.marks w.asked) none

  -- the stop at i
  module _ (l : i < length ps) where
    fits : at + k ≤ N
    fits =
        let a = suc-mul i k in
        let c = mul-le-mul_right {m = suc i} {n = length ps} k l in
        omega (arith, turn.place)

    pub stop_ready : 0 < k → Long o₀.lists N → Ready o.lists at 0 k
    unfolding places tabulate
    stop_ready some long =
        let w = fits in
        record {
          some = some;
          few = omega arith;
          long = (
            omega (arith, turn.lengths.dist, long.0),
            (omega (arith, turn.lengths.site, long.1.0), omega (arith, turn.lengths.cue, long.1.1)),
          );
          sorted = tt;
        }

    abbrev pub stop : Trace (List Place)
    stop = walk_of f h (order f h ps k o₀) (get_or ps i []) k

    module _ {r : Outcome ℕ} {o' : Slices} (x : StopServed f h stop k at o r o') where
      stops-are : drop i ps ≡ get_or ps i [] ∷ drop (i + 1) ps
      stops-are = rw (add-one i) (drop-cons ps i [] l)

      -- it is refused, and the slices are cleared
      pub stop_refused : {a b : ℕ} {l : Lists} {m : List ℕ} → r ≡ refused a b
          → l ≡ lay o'.lists 0 (replicate N no_place) → m ≡ over o'.marks 0 (replicate h.tiles no_mark)
          → Serves f h ps k o₀ r (record { lists = l; marks = m })
      unfolding cleared
      stop_refused {a} {b} e c d =
          let q = and_then_refused stop.out (λ l. length l) (sym x.outcome ∙ e) in
          let w : W.out ≡ refused a b = turn.bad a b (rw stops-are (walks_refused _ (get_or ps i []) _ a b q)) in
          record {
            outcome = rw w e;
            left = rw (w, c, d) (covered f h ps k o₀ o o' at fits x.under ∙ turn.under);
          }

      -- it is served
      module _ (n : ℕ) (e : r ≡ accepted n) where
        found : (l : List Place) × (stop.out ≡ accepted l) × (◌≡◌ {A = Outcome ℕ} (accepted (length l)) (accepted n))
        found = and_then_accepted stop.out (λ l. accepted (length l)) (sym x.outcome ∙ e)

        list : List Place
        list = found.0

        came : stop.out ≡ accepted list
        unfolding list
        came = found.1

        few : length list ≤ k
        few = x.few list came

        number : length list ≡ n
        unfolding list
        number = accepted_injective found.2

        lists-are : o'.lists ≡ lay o.lists at list
        lists-are = ap (λ z. z.lists) (x.answered list came)

        marks_are : o'.marks ≡ mark_all o.marks stop.asked
        marks_are = ap (λ z. z.marks) (x.answered list came)

        rest-is : R i ≡ record {
          asked = stop.asked ++ (R (i + 1)).asked;
          out = and_then (R (i + 1)).out (λ ls. accepted (list ∷ ls));
        }
        rest-is = rw stops-are
            (walks_next _ (get_or ps i []) _ list came)

        fine : (ls : List (List Place)) → (R (i + 1)).out ≡ accepted ls → Ends f h ps k o₀ o' (at + k) n ls
        fine ls z =
            let p = turn.fine (list ∷ ls) (ap (λ w. w.out) rest-is ∙ rw z) in
            let w = fits in
            record {
              all = p.all;
              out = p.out;
              laid = ap (λ y. lay y (at + k) (in_rows k ls)) lists-are
                  ∙ stop_laid k o.lists at list (λ j a b. turn.clear j a (omega arith)) few ls ∙ p.laid;
              last = ap (λ (y : ℕ). last_length y ls) (sym number) ∙ p.last;
            }

        pub stop_next : StopTurn f h ps k o₀ o' (i + 1) (at + k) n
        stop_next =
            let u = suc-mul i k in
            let v : (i + 1) * k ≡ suc i * k = ap (λ (j : ℕ). j * k) (add-one i) in
            let w = fits in
            let s = few in
            record {
              bound = omega arith;
              place = omega (arith, turn.place);
              lengths = rw lists-are (lay_lengths o.lists at list turn.lengths);
              long = ap length marks_are ∙ length_mark_all o.marks stop.asked ∙ turn.long;
              clear = rw lists-are
                  (clear_kept o.lists at list at (at + k) N (omega arith) (omega arith) turn.clear);
              opens = x.opens list came;
              fine = fine;
              bad = λ a b z. turn.bad a b (ap (λ w. w.out) rest-is ∙ rw z);
              asked = turn.asked ∙ ap (λ w. mark_all o.marks w.asked) rest-is
                  ∙ mark_all-append o.marks stop.asked (R (i + 1)).asked
                  ∙ ap (λ z. mark_all z (R (i + 1)).asked) (sym marks_are);
              under = covered f h ps k o₀ o o' at fits x.under ∙ turn.under;
            }
