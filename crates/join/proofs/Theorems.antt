-- The theorems for the reader: demands 2 and 3 about files, answers and the lent slices. The calls are `call::join` and
-- `call::join3`, their definition `join_end` (specs/Join), what is claimed `Demand2` and `Demand3` (specs/Claims). f is
-- the file, cols the stops by columns, one for each axis of the call: two or three. Of towns without height:
-- `join_on_plan` (specs/WithoutHeight).
use Prim.Native.Nat.{ℕ, suc, ◌+◌, ◌*◌, ◌<◌, ◌≤◌}
use mathlib.Core.Bool.{true, false, ◌&&◌}
use mathlib.Core.List.{List, [], ◌∷◌, map}
use mathlib.Core.Path.{◌≡◌, refl, sym, ap, ◌∙◌, subst}
use native.Mathlib.Nat.{zero-add, mul-le-mul}
use native.Mathlib.Omega.{arith}
use lib.Dec.{eqb, leb}
use lib.IntN.{ℤ}
use lib.ListN.{length, get_or, take, length-map}
use borrow.Author.Tests.{le-leb, eq-eqb}
use Rattle.base.specs.Lists.{All}
use Rattle.base.specs.Refusal.{Outcome, accepted, refused}
use Rattle.blocks.specs.Block.{block_at}
use Rattle.blocks.specs.Directory.{directory, muted_at}
use Rattle.blocks.specs.Layout.{plan}
use Rattle.blocks.specs.Same.{SameDirectory}
use Rattle.blocks.specs.WithoutHeight.{directory_on_plan, PlanFile}
use Rattle.blocks.specs.declared.header.Header.{Header}
use Rattle.codec.specs.Number.{Bytes}
use Rattle.geometry.specs.Around.{around}
use Rattle.geometry.specs.Axes.{KnownAxes}
use Rattle.geometry.specs.Box.{inside}
use Rattle.list.specs.Slices.{Long, Slices, place_at}
use Rattle.plan.specs.Document01.{opening_of01}
use Rattle.plan.specs.FilePlan.{space, entries, opening_of, town_of}
use Rattle.prune.specs.Claims.{PrunesExactly}
use Rattle.prune.specs.declared.call.Pruned.{Pruned}
use Rattle.prune.specs.Prune.{prune_call}
use Rattle.search.specs.Claims.{FullSearch, RunAnswers}
use Rattle.search.specs.FullSearch.{SiteOf, first_of, fullSearch}
use Rattle.search.specs.Lists.{Distinct}
use Rattle.search.specs.Limits.{valid_k, max_k}
use Rattle.search.specs.Plan.{ranked, Town}
use Rattle.search.specs.Pruning.{pruned, pruned_count}
use Rattle.search.specs.Run.{join, mark, padded, no_place, in_rows, places_used, marks}
use Rattle.search.specs.Document01.{entries01, LikeDocument01}
use Rattle.search.specs.declared.Place.{Place}
use Rattle.stops.specs.Arguments.{arguments}
use Rattle.stops.specs.Stops.{stop_count, stops_of}
use Rattle.tiles.specs.Document01.{NoneMuted}
use Rattle.tiles.specs.Tile.{tile_position, open_tile, sites_at}
use Rattle.tiles.specs.Validate.{validate}
use Rattle.base.proofs.Outcomes.{accepted_injective, accepted_refused, and_then-same, and_then_refused, by_outcome}
use Rattle.base.proofs.Over.{get_d_after}
use Rattle.base.proofs.Tests.{both_and, clash}
use Rattle.blocks.proofs.Theorems.{same-directory, directory_exactly, directory_on_plan_lem, plan_towns}
use Rattle.list.proofs.Laying.{lay_place, lay_after, lay-long}
use Rattle.plan.proofs.Tables.{filled_at, filled-take}
use Rattle.plan.proofs.Theorems.{opening_checked, join_depends, pruned_count_depends, marks_depend, used_depends}
use Rattle.plan.proofs.Theorems.{good_opens, good_agrees}
use Rattle.prune.proofs.Theorems.{prunes_exactly}
use Rattle.search.proofs.Lists.{all_map, all_both, all_get_d}
use Rattle.search.proofs.Marks.{in_rows-length, padded_used, marks_at}
use Rattle.search.proofs.Queue.{candidate_unpruned, candidate_some}
use Rattle.search.proofs.Run.{join_refused}
use Rattle.search.proofs.Theorems as run
use Rattle.stops.specs.Inner.Good.{GoodArguments}
use Rattle.stops.proofs.ArgumentLaws.{arguments_good, arguments_on_plan_lem}
use Rattle.stops.proofs.StopLaws.{stops_length}
use Rattle.tiles.proofs.Theorems.{opening_refused, opening_like_01, validate_exactly}
use Rattle.join.specs.Claims.{full_run_for, SameAnswer, RefusedRun, PrunesAlike, opened, slices_left, Agreeing}
use Rattle.join.specs.Claims.{Demand2, Demand3, SameCandidates, PastStays}
use Rattle.join.specs.Inner.Running.{RunReady}
use Rattle.join.specs.declared.call.Joined.{Joined}
use Rattle.join.specs.Join.{End, run_for, lengths_of, tests, filled, result_of, ended, run_end, join_from}
use Rattle.join.specs.Join.{join_end}
use Rattle.join.specs.WithoutHeight.{tests_on_plan, join_end_on_plan}
use Rattle.join.proofs.Calling.{tests_pass, run_ready}
use Rattle.join.proofs.Running.{smallest, run_lawful}
use Rattle.join.proofs.Writes.{run_writes, answer_alike}

first_stop : (P : List ℤ → Type 0) (ps : List (List ℤ)) → 0 < length ps → All P ps → (p : List ℤ) × P p
first_stop P [] h a = absurd (omega arith)
first_stop P (p ∷ ps) h a = (p, a.0)

-- ---- every run, refused ones too

-- "no struck tile is opened, not even in a refused run"
pub never_pruned : (f : List ℕ) (h : Header) (cols : List (List ℤ)) (k : ℕ)
    → All (λ t. pruned (entries f h) (around cols) k t ≡ false) (run_for f h cols k).openings
unfolding run_for
never_pruned f h cols k = run.never_pruned (entries f h) (around cols) k (opening_of f h) (stops_of cols)

-- 02.1: "a tile with none is treated as empty": no tile is opened that has muted sites only, by the directory
pub only_audible : (f : List ℕ) (h : Header) (cols : List (List ℤ)) (k : ℕ)
    → All (λ t. 0 < ranked (entries f h) t) (run_for f h cols k).openings
unfolding run_for
only_audible f h cols k = run.never_empty (entries f h) (around cols) k (opening_of f h) (stops_of cols)

-- 02.1 leaves files without muted sites as they were: where the directory has none and the tiles that are opened have
-- no cue 0, the run is that without 02.1, in which every site ranks and an opening does not look at cues
pub run_like_01 : (f : List ℕ) (h : Header) (cols : List (List ℤ)) (k : ℕ) → Bytes f
    → ((t : ℕ) → t < h.tiles → muted_at f h t ≡ 0) → All (NoneMuted f h) (run_for f h cols k).openings
    → LikeDocument01 (entries f h) (around cols) k
    × (run_for f h cols k ≡ join (entries01 (entries f h)) (around cols) k (opening_of01 f h) (stops_of cols))
unfolding run_for opening_of opening_of01
run_like_01 f h cols k b none sounds =
    let E = entries f h in
    let O = around cols in
    let ps = stops_of cols in
    let like = run.like_document_01 E O k none in
    let same = like.ran (opening_of f h) (opening_checked f h b) ps in
    let alike = all_both (λ t. t < h.tiles) (NoneMuted f h) (λ t. opening_of01 f h t ≡ opening_of f h t)
    (run_for f h cols k).openings (λ t l s. rw (opening_like_01 f h t (none t l) s))
    (run.only_tiles E O k (opening_of f h) ps) sounds in
    (like, same ∙ sym (run.same_run (entries01 E) O k (opening_of f h) (opening_of01 f h) ps (rw (← same) alike)))

-- The outcome looks at nothing of the slices but their lengths, of every file.
pub lengths_decide : (f : List ℕ) (cols : List (List ℤ)) (k : ℕ) (out out' : Slices) → lengths_of out' ≡ lengths_of out
    → (join_end f cols k out').outcome ≡ (join_end f cols k out).outcome
unfolding join_end tests join_from
lengths_decide f cols k out out' l = by_outcome (directory f)
    (λ h d.
    let w = run_writes f cols k h in
    let same = ap (arguments h cols k) l in
    by_outcome (arguments h cols k (lengths_of out))
    (λ x a. rw (d, same, a, w.ends out, w.ends out'))
    (λ x y a. rw (d, same, a)))
    (λ x y d. rw d)

-- "Elements past these never change", of refused calls too
pub past_stays : (f : List ℕ) (cols : List (List ℤ)) (k : ℕ) (out : Slices) (h : Header) → directory f ≡ accepted h
    → PastStays cols k h out (join_end f cols k out).slices
unfolding join_end tests join_from filled
past_stays f cols k out h d =
    let w = run_writes f cols k h in
    rw d (by_outcome (arguments h cols k (lengths_of out))
    (λ x a. rw (a, w.ends out) (record {
      lists = λ i b. lay_after out.lists 0 w.places i (omega (arith, w.all-places));
      marks = λ t b. get_d_after out.marks 0 t w.marks (omega (arith, w.all_marks));
    }))
    (λ x y a. rw a (record { lists = λ i b. refl; marks = λ t b. refl })))

-- "Any file of the same length, equal to this one in every byte of the directory and of the opened tiles"
module _ (f : List ℕ) (cols : List (List ℤ)) (k : ℕ) (g : List ℕ) (h : Header) (d : directory f ≡ accepted h)
    (same : SameDirectory f g h)
    (alike : All (λ t. block_at g (tile_position h t) ≡ block_at f (tile_position h t)) (run_for f h cols k).openings)
  where
    known : KnownAxes h.axes
    known = ((directory_exactly f h).0 d).axes

    module _ (out : Slices) where
      ended_same : (u : List ℕ) (o : Outcome (List (List Place))) → ended g h cols k u out o ≡ ended f h cols k u out o
      unfolding ended filled
      ended_same u (accepted ls) =
          let o = around cols in
          rw (
            used_depends f g h known same k,
            pruned_count_depends f g h known same o k,
            marks_depend f g h known same o k u,
          )
      ended_same u (refused x y) = refl

      run-same : run_end g h cols k out ≡ run_end f h cols k out
      unfolding run_end run_for
      run-same =
          let r = run_for f h cols k in
          rw (join_depends f g h known same (around cols) k (stops_of cols) alike) (ended_same r.openings r.outcome)

      -- with the same slices the whole end of the call is the same, refusals included
      pub other_files : join_end g cols k out ≡ join_end f cols k out
      unfolding join_end tests join_from
      other_files =
          let e = same-directory f g h d same in
          rw (d, e) (by_outcome (arguments h cols k (lengths_of out)) (λ x q. rw q run-same) (λ n b q. rw q))

    -- "for the same stops, k and output lengths", whatever the slices held before
    module _ (out out' : Slices) (l : lengths_of out' ≡ lengths_of out) where
      -- the outcome is the same, refusals included
      pub same_outcome : (join_end g cols k out').outcome ≡ (join_end f cols k out).outcome
      same_outcome = ap (λ (z : End). z.outcome) (other_files out') ∙ lengths_decide f cols k out out' l

      -- "gets an answer with the same lists, marks and counts": where tests 11 to 14 and 17 pass, of refused runs too
      pub same_answer : arguments h cols k (lengths_of out) ≡ accepted tt
          → SameAnswer cols k h (join_end f cols k out) (join_end g cols k out')
      same_answer a = rw (other_files out') (answer_alike f cols k out out' l h d a)

-- "no struck tile is opened, not even in a refused run", and none without a sounding site, as it can be seen: whatever
-- the blocks of these hold, outcome and slices are the same
pub candidates_decide : (f : List ℕ) (cols : List (List ℤ)) (k : ℕ) (out : Slices) (g : List ℕ) (h : Header)
    → directory f ≡ accepted h → SameCandidates f g h cols k → join_end g cols k out ≡ join_end f cols k out
unfolding run_for
candidates_decide f cols k out g h d s =
    let E = entries f h in
    let opened = (run_for f h cols k).openings in
    let alike : ℕ → Type 0 = λ t. block_at g (tile_position h t) ≡ block_at f (tile_position h t) in
    let unpruned = all_both (λ t. t < h.tiles) (λ t. pruned E (around cols) k t ≡ false)
    (λ t. 0 < ranked E t → alike t) opened s.candidates
    (run.only_tiles E (around cols) k (opening_of f h) (stops_of cols)) (never_pruned f h cols k) in
    other_files f cols k g h d s.same
    (all_both (λ t. 0 < ranked E t → alike t) (λ t. 0 < ranked E t) alike opened (λ t a some. a some)
    unpruned (only_audible f h cols k)) out

module _ (f : List ℕ) (cols : List (List ℤ)) (k : ℕ) (out : Slices) where
  -- a run that is refused
  module _ (h : Header) (d : directory f ≡ accepted h)
      (a : arguments h cols k (lengths_of out) ≡ accepted tt) (n p : ℕ)
      (e : (join_end f cols k out).outcome ≡ refused n p) where
    run-refused : (run_for f h cols k).outcome ≡ refused n p
    unfolding run_end ended
    run-refused =
        let u = (run_for f h cols k).openings in
        by_outcome (run_for f h cols k).outcome
        (λ ls q.
        let w : join_end f cols k out ≡ ended f h cols k u out (accepted ls) = rw q at (tests_pass f cols k out d a) in
        accepted_refused (ap (λ (z : End). z.outcome) w) e)
        (λ x y q.
        let w : join_end f cols k out ≡ ended f h cols k u out (refused x y) = rw q at (tests_pass f cols k out d a) in
        let z : ◌≡◌ {A = Outcome Joined} (refused x y) (refused n p) = sym (ap (λ (z : End). z.outcome) w) ∙ e in
        let i : x ≡ n = cc in
        let j : y ≡ p = cc in
        q ∙ rw (i, j))

    -- "not even in a refused run": what refuses it is the opening of a tile that is not struck
    pub refused_run : RefusedRun f h cols k n p
    unfolding run_for opening_of ranked
    refused_run =
        let E = entries f h in
        let r = join_refused E (around cols) k (opening_of f h) (stops_of cols) n p run-refused in
        let t = r.0 in
        let c = r.1 in
        let o : open_tile f h t ≡ refused n p = and_then_refused (open_tile f h t) (λ _. sites_at f h t) r.2 in
        record {
          tile = t;
          below = c.0;
          position = opening_refused f h t o;
          unpruned = candidate_unpruned E (around cols) k t c.1;
          some = candidate_some E (around cols) k t c.1;
          refuses = o;
        }

  -- Striking changes no run: with the struck tiles in the queue the same tiles are opened in the same order, with the
  -- same lists or the same refusal.
  pub pruning_opens_alike : Bytes f → (h : Header) → directory f ≡ accepted h
      → arguments h cols k (lengths_of out) ≡ accepted tt → full_run_for f h cols k ≡ run_for f h cols k
  unfolding run_for
  pruning_opens_alike b h d a =
      let w = run_ready f cols k out d a in
      run.pruning_opens_alike (entries f h) (around cols) k (run_lawful w) (opening_of f h) (opening_checked f h b)
      (stops_of cols) (smallest w).holds

  -- ---- a call that answers

  -- "Suppose the join answers", with the result r: then all tests passed, and the run gave lists ls
  record Answered (r : Joined) : Type 0 where
    h : Header
    passed : arguments h cols k (lengths_of out) ≡ accepted tt
    args : GoodArguments h cols k (lengths_of out)
    ready : RunReady f h cols k out
    dir : directory f ≡ accepted h
    ls : List (List Place)
    lists : (run_for f h cols k).outcome ≡ accepted ls
    result : r ≡ result_of f h cols k (run_for f h cols k).openings
    slices-are : (join_end f cols k out).slices
        ≡ filled (in_rows k ls) (marks (entries f h) (around cols) k (run_for f h cols k).openings) out

  from_run : (h : Header) → directory f ≡ accepted h → arguments h cols k (lengths_of out) ≡ accepted tt
      → (r : Joined) → (join_end f cols k out).outcome ≡ accepted r
      → (ls : List (List Place)) → (run_for f h cols k).outcome ≡ accepted ls → Answered r
  unfolding run_end ended
  from_run h d a r e ls q =
      let p : join_end f cols k out ≡ ended f h cols k (run_for f h cols k).openings out (accepted ls) =
      rw q at (tests_pass f cols k out d a) in
      record {
        h = h;
        passed = a;
        args = arguments_good h cols k (lengths_of out) a;
        ready = run_ready f cols k out d a;
        dir = d;
        ls = ls;
        lists = q;
        result = accepted_injective (sym e ∙ ap (λ (z : End). z.outcome) p);
        slices-are = ap (λ (z : End). z.slices) p;
      }

  answered : (r : Joined) → (join_end f cols k out).outcome ≡ accepted r → Answered r
  unfolding join_end tests join_from run_end ended
  answered r e = by_outcome (directory f)
      (λ h d. by_outcome (arguments h cols k (lengths_of out))
      (λ x a. by_outcome (run_for f h cols k).outcome
      (λ ls q. from_run h d a r e ls q)
      (λ n b q. accepted_refused {o = (join_end f cols k out).outcome} {n = n} {b = b} e (rw (d, a, q))))
      (λ n b a. accepted_refused {o = (join_end f cols k out).outcome} {n = n} {b = b} e (rw (d, a))))
      (λ n b d. accepted_refused {o = (join_end f cols k out).outcome} {n = n} {b = b} e (rw d))

  -- what an answer gives room for: at most k places a stop, and slices that hold them
  pub answer_fits : (r : Joined) → (join_end f cols k out).outcome ≡ accepted r
      → (r.used ≤ max_k) × ((r.used ≤ k) × Long (join_end f cols k out).slices.lists (stop_count cols * k))
  unfolding places_used filled
  answer_fits r e =
      let a = answered r e in
      let g = a.args in
      let u : r.used ≤ k = rw a.result (omega arith) in (
        omega (arith, g.few_k),
        (
          u,
          rw a.slices-are (lay-long out.lists 0 (in_rows k a.ls) (stop_count cols * k)
              (g.dist, (g.site, g.cue))),
        ),
      )

  -- ---- demand 3

  module _ (r : Joined) (a : Answered r) where
    abbrev H : Header
    H = a.h

    demand : RunAnswers (entries f H) (around cols) k (opening_of f H) (stops_of cols) a.ls
        (run_for f H cols k).openings
    unfolding run_for
    demand =
        run.demand_3 (entries f H) (around cols) k (run_lawful a.ready) (opening_of f H) (stops_of cols)
        (smallest a.ready).holds a.ls a.lists

    once-each : Distinct (run_for f H cols k).openings
    unfolding run_for
    once-each = run.opened_once (entries f H) (around cols) k (opening_of f H) (stops_of cols)

    -- the mark of a tile, and all T marks
    mark-left : (t : ℕ) → t < H.tiles → get_or (slices_left f cols k out H).marks t 0
        ≡ get_or (marks (entries f H) (around cols) k (opened f cols k out H)) t 0
    unfolding filled marks
    mark-left t i =
        let m = mark (entries f H) (around cols) k (opened f cols k out H) in
        rw a.slices-are (filled_at m out.marks H.tiles t a.ready.args.marks i
        ∙ sym (marks_at (entries f H) (around cols) k (opened f cols k out H) t i))

    marks-left : take H.tiles (slices_left f cols k out H).marks
        ≡ marks (entries f H) (around cols) k (opened f cols k out H)
    unfolding filled marks
    marks-left =
        rw a.slices-are (filled-take (mark (entries f H) (around cols) k (opened f cols k out H)) out.marks
        H.tiles a.ready.args.marks)

    -- place j of the list of stop i
    place-left : length a.ls ≡ stop_count cols → (i j : ℕ) → i < stop_count cols → j < k
        → place_at (slices_left f cols k out H).lists (i * k + j) ≡ get_or (in_rows k a.ls) (i * k + j) no_place
    unfolding filled
    place-left e i j p q =
        let n = stop_count cols * k in
        let c : length (in_rows k a.ls) ≡ n = in_rows-length k a.ls ∙ rw e in
        let m : suc i * k ≤ n = mul-le-mul {n₁ = suc i} {m₁ = k} {n₂ = stop_count cols} {m₂ = k} p (omega arith) in
        let w = a.ready.args in
        rw a.slices-are
        (rw (zero-add (i * k + j)) at (lay_place out.lists 0 (in_rows k a.ls)
        (omega (arith, w.dist), (omega (arith, w.site), omega (arith, w.cue))) (i * k + j) (omega arith)))

  -- "Suppose the join answers."
  pub demand_3 : (r : Joined) → (join_end f cols k out).outcome ≡ accepted r → (h : Header) × Demand3 f cols k out h r
  demand_3 r e =
      let a = answered r e in
      let d = demand r a in
      let h = a.h in (
        h,
        record {
          header = a.dir;
          tiles = ap (λ (z : Joined). z.tiles) a.result;
          smallest = smallest a.ready;
          lists = λ town g i j p q.
              let n = stops_length cols in
              let m : length a.ls ≡ stop_count cols = sym (length-map a.ls (padded k))
              ∙ ap length (d.lists town g)
              ∙ length-map (stops_of cols) (λ p. fullSearch (entries f h) k p town) ∙ n in
              place-left r a m i j p q ∙ d.places town g [] i j (omega arith) q;
          ranking = λ town g p. run.ranking_exactly (entries f h) (around cols) k (run_lawful a.ready) p town
              g.directory;
          opened_exactly = d.opened_exactly;
          marked_opened = λ t l. rw (mark-left r a t l) (d.marked_opened t l);
          marked_pruned = λ t l. rw (mark-left r a t l) (d.marked_pruned t l);
          marked_neither = λ t l. rw (mark-left r a t l) (d.marked_neither t l);
          none_pruned = d.none_pruned;
          once = once-each r a;
          count_opened = ap (λ (z : Joined). z.opened) a.result ∙ sym (rw (marks-left r a) d.count_opened);
          count_pruned = ap (λ (z : Joined). z.pruned) a.result ∙ sym (rw (marks-left r a) d.count_pruned);
          count_used = ap (λ (z : Joined). z.used) a.result;
          other_files = λ g same l out' n. same_answer f cols k g h a.dir same l out out' n a.passed;
        },
      )

  -- ---- the call that strikes

  module _ (r : Joined) (e : (join_end f cols k out).outcome ≡ accepted r) (lent : List ℕ) where
    prune-answers : r.tiles ≤ length lent
        → prune_call f (around cols) k lent ≡ accepted (record { tiles = r.tiles; pruned = r.pruned })
    unfolding prune_call valid_k
    prune-answers l =
        let a = answered r e in
        let good_k : leb 1 k && leb k max_k ≡ true =
        both_and (le-leb 1 k a.args.some_k) (le-leb k max_k a.args.few_k) in
        let tiles : a.h.tiles ≡ r.tiles = ap (λ (z : Joined). z.tiles) (sym a.result) in
        let long : leb a.h.tiles (length lent) ≡ true =
        le-leb a.h.tiles (length lent) (omega (arith, tiles)) in
        let struck : pruned_count (entries f a.h) (around cols) k ≡ r.pruned =
        ap (λ (z : Joined). z.pruned) (sym a.result) in
        let axes : eqb a.h.axes (length (around cols)) ≡ true =
        eq-eqb a.h.axes (length (around cols)) (sym ((smallest a.ready).axes ∙ a.args.axes)) in
        rw (a.dir, good_k, axes, (smallest a.ready).valid, long, struck, tiles)

    -- "1 exactly when it is struck", by both calls: strike, for the smallest box around the stops, the same k and any
    -- marks of at least T elements, gives the T and the number struck of the join, and marks the same tiles
    pub prunes_alike : r.tiles ≤ length lent → PrunesAlike f cols k out r lent
    prunes_alike l =
        let a = answered r e in
        let c : Pruned = record { tiles = r.tiles; pruned = r.pruned } in
        let tiles : r.tiles ≡ a.h.tiles = ap (λ (z : Joined). z.tiles) a.result in
        let struck = prunes_exactly f (around cols) k lent c (prune-answers l) in
        let same : struck.0 ≡ a.h = accepted_injective (sym struck.1.header ∙ a.dir) in
        record {
          smallest = smallest a.ready;
          answers = prune-answers l;
          marked = λ t i.
              let j : t < a.h.tiles = omega (arith, tiles) in
              let mine = (demand r a).marked_pruned t j in
              let its = (subst (λ x. PrunesExactly f (around cols) k lent x c) same struck.1).marked t j in
              rw (mark-left r a t j) (λ m. its.1 (mine.0 m), λ m. mine.1 (its.0 m));
        }

  module _ (r : Joined) (e : (join_end f cols k out).outcome ≡ accepted r) (h : Header)
      (d : directory f ≡ accepted h) where
    -- Demand 3 speaks of some town: there is one that agrees with the directory and the opened tiles.
    pub town_exists : Bytes f → (town : Town space) × Agreeing f cols k out h town
    unfolding run_for
    town_exists b =
        let a = answered r e in
        let i : a.h ≡ h = accepted_injective (sym a.dir ∙ d) in
        let s = smallest a.ready in
        let n = stops_length cols in
        let p = first_stop (λ p. inside (around cols) p ≡ true) (stops_of cols)
        (omega (arith, a.ready.args.some))
        s.holds in
        rw (← i) (run.town_exists (entries f a.h) (around cols) k (run_lawful a.ready) (opening_of f a.h)
        (opening_checked f a.h b) (stops_of cols) a.ls a.lists p.0 p.1)

    -- What a full search gives, as a reader would want it: the town's sites that rank, each once, in their ranking,
    -- and every one left out behind every listed one.
    pub full_search : (town : Town space) → Agreeing f cols k out h town
        → All (λ p. FullSearch (entries f h) k p town) (stops_of cols)
    full_search town g =
        let a = answered r e in
        let i : a.h ≡ h = accepted_injective (sym a.dir ∙ d) in
        all_map (stops_of cols)
        (λ p home. run.full_search (entries f h) (around cols) k (rw i at (run_lawful a.ready)) p home town
        g.directory) (smallest a.ready).holds

  -- 02.1: "only sites with another cue rank": no used place of a list has cue 0
  pub never_muted : Bytes f → (r : Joined) → (join_end f cols k out).outcome ≡ accepted r → (i j : ℕ)
      → i < stop_count cols → j < r.used → (place_at (join_end f cols k out).slices.lists (i * k + j)).cue ≡ 0 → ⊥
  unfolding fullSearch
  never_muted b r e i j l u muted =
      let answer = demand_3 r e in
      let h = answer.0 in
      let three = answer.1 in
      let E = entries f h in
      let p = get_or (stops_of cols) i [] in
      let within : j < k = omega (arith, (answer_fits r e).1.0) in
      let town = town_exists r e h three.header b in
      let found = all_get_d (λ p. FullSearch E k p town.0) (stops_of cols) i []
      (omega (arith, stops_length cols)) (full_search r e h three.header town.0 town.1) in
      let listed : j < length (first_of E k p town.0) = omega (arith, three.count_used, found.used) in
      let site = all_get_d (SiteOf E p town.0) (first_of E k p town.0) j no_place listed found.sites in
      let place = three.lists town.0 town.1 i j l within
      ∙ padded_used k (first_of E k p town.0) j no_place listed within ∙ site.place in
      let zero : site.it.cue ≡ 0 = sym (ap (λ (z : Place). z.cue) place) ∙ muted in
      clash site.ranked (rw zero)

  -- ---- demand 2

  -- "On a file that passes the full check, each list is the first k sites of the whole town by Euclidean distance,
  -- ties by tile and slot": the join answers, with these lists
  pub demand_2 : Bytes f → (h : Header) → validate f ≡ accepted h
      → arguments h cols k (lengths_of out) ≡ accepted tt
      → join_end f cols k out ≡ ended f h cols k (run_for f h cols k).openings out
      (accepted (map (λ p. first_of (entries f h) k p (town_of f h)) (stops_of cols)))
  unfolding run_end run_for
  demand_2 b h v a =
      let good = (validate_exactly f h).0 v in
      let d = (directory_exactly f h).1 good.directory in
      let w = run_ready f cols k out d a in
      let e = run.demand_2 (entries f h) (around cols) k (run_lawful w) (opening_of f h) (town_of f h)
      (good_agrees f h good b)
      (good_opens f h good) (stops_of cols) (smallest w).holds in
      tests_pass f cols k out d a
      ∙ ap (ended f h cols k (join (entries f h) (around cols) k (opening_of f h) (stops_of cols)).openings out) e

  -- the same, place by place and sentence by sentence
  pub demand_2_places : Bytes f → (h : Header) → validate f ≡ accepted h
      → arguments h cols k (lengths_of out) ≡ accepted tt → (r : Joined) × Demand2 f cols k out h r
  unfolding ended run_for
  demand_2_places b h v a =
      let good = (validate_exactly f h).0 v in
      let d = (directory_exactly f h).1 good.directory in
      let r = result_of f h cols k (run_for f h cols k).openings in
      let e : (join_end f cols k out).outcome ≡ accepted r = ap (λ (z : End). z.outcome) (demand_2 b h v a) in
      let own : Agreeing f cols k out h (town_of f h) = record {
        directory = good_agrees f h good b;
        blocks = all_map (run_for f h cols k).openings (good_opens f h good)
            (run.only_tiles (entries f h) (around cols) k (opening_of f h) (stops_of cols));
      } in
      let three = demand_3 r e in
      let i : three.0 ≡ h = accepted_injective (sym three.1.header ∙ d) in (
        r,
        record {
          answers = e;
          tiles = refl;
          used = refl;
          lists = (subst (λ x. Demand3 f cols k out x r) i three.1).lists (town_of f h) own;
          first = full_search r e h d (town_of f h) own;
          ranking = λ p. run.ranking_exactly (entries f h) (around cols) k
              (run_lawful (run_ready f cols k out d a)) p (town_of f h) own.directory;
          agrees = own.directory;
        },
      )

-- 02.2: "plan towns keep their answers": of a call for two axes, on a file of at most 512,000 bytes whose block 0 is
-- not of kind 3, the tests are those without 02.2, and what the call comes to, and leaves in the slices, follows from
-- the same header. The entries and the openings that a run then has are by the numbers of document 01
-- (`entries_on_plan` of `blocks`, `opening_on_plan` and `sites_on_plan_lem` of `tiles`)
pub join_on_plan : (f : List ℕ) → PlanFile f → (cols : List (List ℤ)) → length cols ≡ plan → (k : ℕ) (out : Slices) →
    join_end f cols k out ≡ join_end_on_plan f cols k out
unfolding join_end join_end_on_plan tests tests_on_plan
join_on_plan f town cols plane k out =
    ap (join_from f cols k out)
    (rw (directory_on_plan_lem f town)
    (and_then-same (directory_on_plan f) _ _
    (λ h e. rw (arguments_on_plan_lem h cols k (lengths_of out) (((plan_towns f h).0 e).1 ∙ sym plane)))))
