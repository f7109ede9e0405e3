-- The run from its start to its end: what serving finds, and what the definitions make of what it leaves.
use Prim.Native.Nat.{ℕ, ◌*◌, ◌<◌, ◌≤◌}
use mathlib.Core.Bool.{Bool, true, false, not, ◌&&◌}
use mathlib.Core.List.{List, [], ◌∷◌, map}
use mathlib.Core.Path.{◌≡◌, refl, sym, ap, ◌∙◌}
use native.Mathlib.Omega.{arith}
use lib.Dec.{eqb, ltb}
use lib.IntN.{ℤ}
use lib.ListN.{length, take, replicate, length-replicate}
use Rattle.base.specs.Lists.{All}
use Rattle.base.specs.Over.{over}
use Rattle.base.specs.Refusal.{Outcome, accepted, refused, and_then}
use Rattle.blocks.specs.declared.header.Header.{Header}
use Rattle.codec.specs.Number.{Bytes}
use Rattle.geometry.specs.Around.{around, SmallestAround}
use Rattle.geometry.specs.Box.{valid_point}
use Rattle.list.specs.Slices.{Lists, Slices, lay, cleared}
use Rattle.plan.specs.FilePlan.{entries, opening_of}
use Rattle.plan.specs.Inner.Seam.{ValidStop, ValidRegion}
use Rattle.prune.specs.Prune.{prune_marks}
use Rattle.queue.specs.Inner.Keys.{waits}
use Rattle.search.specs.Lists.{range, bit, count, member}
use Rattle.search.specs.Inner.Places.{max_places}
use Rattle.search.specs.Inner.Walk.{Trace, cut_walks}
use Rattle.search.specs.Limits.{max_k}
use Rattle.search.specs.Plan.{Lawful, ranked}
use Rattle.search.specs.Pruning.{pruned, pruned_count}
use Rattle.search.specs.Run.{no_place, candidate, candidates, queue, join, in_rows, places_used, mark, marks}
use Rattle.search.specs.Run.{opened_mark}
use Rattle.search.specs.Run.{pruned_mark}
use Rattle.search.specs.declared.Place.{Place}
use Rattle.serve.specs.Inner.Marks.{mark_all}
use Rattle.serve.specs.Inner.Serving.{last_length, waiting, walks_of, StopsReady, after_stops, Serves}
use Rattle.stops.specs.Stops.{stop_count, stops_of, valid_stop}
use Rattle.base.proofs.Outcomes.{and_then_accepted, and_then_refused, accepted_injective}
use Rattle.base.proofs.Over.{over_under, length_over}
use Rattle.geometry.proofs.Theorems.{all-points, row_axes, around_smallest}
use Rattle.list.proofs.Laying.{lay_under, lay-long}
use Rattle.list.proofs.Padding.{clear-all}
use Rattle.base.proofs.HowMany.{bit-small}
use Rattle.plan.proofs.Tables.{filled_at, filled-take, table-length}
use Rattle.plan.proofs.Theorems.{plan_lawful, opening_checked}
use Rattle.search.proofs.Cut.{join-cut}
use Rattle.search.proofs.Equation.{Alike, with_new-member}
use Rattle.search.proofs.Lists.{all_map, all_mem, mem_all, member_mem, mem_member, filter_same, range_below}
use Rattle.search.proofs.Marks.{in_rows-length}
use Rattle.search.proofs.Walk.{walks_length}
use Rattle.search.proofs.Theorems.{places_used_lem, opened_count, only_tiles}
use Rattle.serve.proofs.Marking.{marks_end}
use Rattle.stops.proofs.ArgumentLaws.{few-places}
use Rattle.stops.proofs.StopLaws.{stops_length}
use Rattle.join.specs.Inner.Running.{RunReady}
use Rattle.join.specs.Join.{End, run_for, filled, ended, run_end}

-- ---- words for lists

last_of : (n m : ℕ) (ls : List (List Place)) → 0 < length ls → All (λ l. length l ≡ n) ls → last_length m ls ≡ n
last_of n m [] h a = absurd (omega arith)
last_of n m (l ∷ []) h a = a.0
last_of n m (l ∷ k ∷ ls) h a = last_of n (length l) (k ∷ ls) (omega arith) a.1

same_end : {used u tiles opened o p q : ℕ} {out out' : Slices} → used ≡ u → opened ≡ o → p ≡ q → out ≡ out'
    → ◌≡◌ {A = End}
    (record { outcome = accepted (record { used = used; tiles = tiles; opened = opened; pruned = p }); slices = out })
    (record { outcome = accepted (record { used = u; tiles = tiles; opened = o; pruned = q }); slices = out' })
same_end a b c d = rw (a, b, c, d)

eq_bit : (b : Bool) → eqb (bit b) pruned_mark ≡ b
eq_bit true = refl
eq_bit false = refl

-- ---- the tiles that wait by the marks of pruning are the candidates
waiting_is : (f : List ℕ) (h : Header) (o : List (List ℤ)) (k : ℕ) (m : List ℕ) → h.tiles ≤ length m
    → waiting f h (over m 0 (prune_marks f h o k)) ≡ candidates (entries f h) o k
unfolding waits candidate prune_marks
waiting_is f h o k m l =
    let tiles = h.tiles in
    let ms = over m 0 (map (λ t. bit (pruned (entries f h) o k t)) (range 0 tiles)) in
    filter_same (waits (entries f h) ms) (candidate (entries f h) o k) (range 0 tiles)
    (all_map (range 0 tiles)
    (λ t i. ap (λ b. not b && ltb 0 (ranked (entries f h) t))
    (ap (λ (n : ℕ). eqb n pruned_mark) (filled_at (λ t. bit (pruned (entries f h) o k t)) m tiles t l i)
    ∙ eq_bit (pruned (entries f h) o k t)))
    (range_below 0 tiles tiles (omega arith)))

-- ---- the run of a call whose tests have passed

module _ {f : List ℕ} {h : Header} {cols : List (List ℤ)} {k : ℕ} {out : Slices} (r : RunReady f h cols k out) where
  abbrev O : List (List ℤ)
  O = around cols

  abbrev n : ℕ
  n = stop_count cols * k

  -- the run as the code goes by it: the walks of all stops over their queues
  abbrev cut_run : Trace (List (List Place))
  cut_run = cut_walks (entries f h) k (opening_of f h) (queue (entries f h) O k) (stops_of cols)

  pub few_enough : n ≤ max_places
  few_enough = few-places r.args.few r.args.few_k

  pub smallest : SmallestAround (length cols) (stops_of cols) O
  unfolding valid_stop
  smallest = around_smallest cols (stop_count cols) r.args.some r.args.same
      (all-points (λ p. valid_point p ≡ true) cols (stop_count cols) r.args.valid)

  pub region : ValidRegion h O
  region = record { valid = smallest.valid; axes = smallest.axes ∙ r.args.axes }

  pub run_lawful : Lawful (entries f h) O
  run_lawful = plan_lawful f h O r.dir region.valid region.axes

  alike : Bytes f → Alike [] (run_for f h cols k) cut_run.asked cut_run.out
  unfolding run_for
  alike b = join-cut (entries f h) O k run_lawful (opening_of f h) (opening_checked f h b) r.args.some_k
      (stops_of cols) smallest.holds

  -- ---- before the stops are served: places zero, tiles pruned

  abbrev pub started : Slices
  started = record {
    lists = lay out.lists 0 (replicate n no_place);
    marks = over out.marks 0 (prune_marks f h O k);
  }

  -- what the code leaves, with o for O
  pub begun : {l : Lists} {o : List (List ℤ)} {m : List ℕ} → l ≡ lay out.lists 0 (replicate n no_place) → o ≡ O
      → m ≡ over out.marks 0 (prune_marks f h o k) → record { lists = l; marks = m } ≡ started
  begun a b c = rw (a, c, b)

  -- as many points as stops
  count_is : length (stops_of cols) * k ≡ n
  count_is = ap (λ (m : ℕ). m * k) (stops_length cols)

  ready : StopsReady f h (stops_of cols) k started
  unfolding prune_marks valid_stop
  ready =
      let a = r.args in
      let lm = length_over out.marks 0 (map (λ t. bit (pruned (entries f h) O k t)) (range 0 h.tiles)) in
      record {
        dir = r.dir;
        valid = all-points (ValidStop h) cols (stop_count cols)
            (λ i l. record { valid = a.valid i l; axes = row_axes cols i ∙ a.axes });
        some = a.some_k;
        few = rw count_is few_enough;
        long = rw count_is (lay-long out.lists 0 (replicate n no_place) n (a.dist, (a.site, a.cue)));
        clear = rw count_is (clear-all out.lists n (a.dist, (a.site, a.cue)));
        marks = rw lm a.marks;
        opens = λ t l e.
            let b = bit-small (pruned (entries f h) O k t) in
            let q = filled_at (λ i. bit (pruned (entries f h) O k i)) out.marks h.tiles t a.marks l in
            absurd (omega (arith, e));
      }

  pub stops_ready : {o : Slices} → o ≡ started → StopsReady f h (stops_of cols) k o
  stops_ready e = rw e ready

  -- ---- after it

  covered : cleared 0 n h.tiles started ≡ cleared 0 n h.tiles out
  unfolding cleared prune_marks
  covered =
      let a = table-length (λ t. bit (pruned (entries f h) O k t)) 0 h.tiles in
      let b = length-replicate {A = ℕ} h.tiles 0 in
      let zeros = replicate n no_place in
      rw (
        lay_under out.lists 0 0 zeros zeros (omega arith) (omega arith),
        over_under out.marks 0 0 (map (λ t. bit (pruned (entries f h) O k t)) (range 0 h.tiles))
            (replicate h.tiles 0) (omega arith) (omega arith),
      )

  lists_cover : (ls : List (List Place)) → cut_run.out ≡ accepted ls
      → lay started.lists 0 (in_rows k ls) ≡ lay out.lists 0 (in_rows k ls)
  lists_cover ls e =
      let a = walks_length _ (stops_of cols) ls e in
      let b = in_rows-length k ls in
      let q : length (in_rows k ls) ≡ n = b ∙ ap (λ (m : ℕ). m * k) (a ∙ stops_length cols) in
      let z = length-replicate n no_place in
      lay_under out.lists 0 0 (replicate n no_place) (in_rows k ls) (omega arith) (omega arith)

  pub record Attempted (answer : Outcome ℕ) (out' : Slices) : Type 0 where
    pub outcome : answer ≡ and_then cut_run.out (λ ls. accepted (last_length 0 ls))
    pub answered : (ls : List (List Place)) → cut_run.out ≡ accepted ls
        → out' ≡ record {
          lists = lay out.lists 0 (in_rows k ls);
          marks = mark_all started.marks cut_run.asked;
        }
    pub refused : (number block : ℕ) → cut_run.out ≡ refused number block
        → out' ≡ cleared 0 n h.tiles out

  pub attempted : {from out' : Slices} {o : Outcome ℕ} → from ≡ started → Serves f h (stops_of cols) k from o out'
      → Attempted o out'
  unfolding queue
  attempted {from} {out'} {o} begins served =
      let w : walks_of f h (waiting f h started.marks) (stops_of cols) k ≡ cut_run =
      ap (λ z. walks_of f h z (stops_of cols) k) (waiting_is f h O k out.marks r.args.marks) in
      let s = rw begins at served in
      let outcome : o ≡ and_then cut_run.out (λ ls. accepted (last_length 0 ls)) =
      rw w at s.outcome in
      let left : out' ≡ after_stops h cut_run k n started = rw (w, count_is) at s.left in
      record {
        outcome = outcome;
        answered = λ ls e. rw e at left ∙ rw (lists_cover ls e);
        refused = λ x y e. rw e at left ∙ covered;
      }

  -- ---- its end

  module _ (b : Bytes f) where
    asked-tiles : All (λ t. t < h.tiles) cut_run.asked
    unfolding run_for member
    asked-tiles =
        let asked = cut_run.asked in
        let a = only_tiles (entries f h) O k (opening_of f h) (stops_of cols) in
        mem_all asked
        (λ t i. all_mem (λ u. u < h.tiles) a
        (member_mem t (join (entries f h) O k (opening_of f h) (stops_of cols)).openings
        (rw (alike b).openings (with_new-member t [] asked ∙ mem_member t asked i))))

    -- the marks that serving leaves are those of the run
    marks_are : mark_all started.marks cut_run.asked
        ≡ over out.marks 0 (marks (entries f h) O k (run_for f h cols k).openings)
    unfolding prune_marks
    marks_are =
        marks_end (entries f h) O k cut_run.asked out.marks r.args.marks asked-tiles
        ∙ ap (λ u. over out.marks 0 (marks (entries f h) O k u)) (sym (alike b).openings)

    -- and those opened are counted
    opened-is : count (λ m. eqb m opened_mark) (take h.tiles (over out.marks 0
        (marks (entries f h) O k (run_for f h cols k).openings))) ≡ length (run_for f h cols k).openings
    unfolding run_for marks
    opened-is =
        let opened = (join (entries f h) O k (opening_of f h) (stops_of cols)).openings in
        rw (filled-take (mark (entries f h) O k opened) out.marks h.tiles r.args.marks)
        (opened_count (entries f h) O k (opening_of f h) (stops_of cols))

    used-is : (ls : List (List Place)) → cut_run.out ≡ accepted ls
        → last_length 0 ls ≡ places_used (entries f h) k
    unfolding run_for
    used-is ls e =
        let a = walks_length _ (stops_of cols) ls e in
        let q = stops_length cols in
        last_of (places_used (entries f h) k) 0 ls (omega (arith, r.args.some))
        (places_used_lem (entries f h) O k run_lawful (opening_of f h) (opening_checked f h b) (stops_of cols)
        smallest.holds ls
        ((alike b).outcome ∙ e))

    module _ {answer : Outcome ℕ} {out' : Slices} (t : Attempted answer out') where
      pub used_few : {used : ℕ} → answer ≡ accepted used → used ≤ max_k
      unfolding places_used
      used_few {used} e =
          let a = and_then_accepted cut_run.out (λ ls. accepted (last_length 0 ls))
          (sym t.outcome ∙ e) in
          let u : used ≡ places_used (entries f h) k = sym (accepted_injective a.2) ∙ used-is a.0 a.1 in
          omega (arith, r.args.few_k, u)

      pub run_answers : {used opened p : ℕ} → answer ≡ accepted used → p ≡ pruned_count (entries f h) O k
          → opened ≡ count (λ m. eqb m opened_mark) (take h.tiles out'.marks)
          → record {
            outcome = accepted (record { used = used; tiles = h.tiles; opened = opened; pruned = p });
            slices = out';
          } ≡ run_end f h cols k out
      unfolding run_end ended filled
      run_answers {used} {opened} {p} e counted o =
          let a = and_then_accepted cut_run.out (λ ls. accepted (last_length 0 ls))
          (sym t.outcome ∙ e) in
          let ls = a.0 in
          let u : used ≡ places_used (entries f h) k = sym (accepted_injective a.2) ∙ used-is ls a.1 in
          let s : out' ≡ record {
            lists = lay out.lists 0 (in_rows k ls);
            marks = over out.marks 0 (marks (entries f h) O k (run_for f h cols k).openings);
          } = t.answered ls a.1 ∙ rw marks_are in
          let c : opened ≡ length (run_for f h cols k).openings =
          o ∙ ap (λ (z : Slices). count (λ m. eqb m opened_mark) (take h.tiles z.marks)) s ∙ opened-is in
          let run : (run_for f h cols k).outcome ≡ accepted ls = (alike b).outcome ∙ a.1 in
          same_end u c counted s ∙ rw run

      pub run_refuses : {x y : ℕ} → answer ≡ refused x y
          → record { outcome = refused x y; slices = out' } ≡ run_end f h cols k out
      unfolding run_end ended
      run_refuses {x} {y} e =
          let w = and_then_refused cut_run.out (λ ls. last_length 0 ls) (sym t.outcome ∙ e) in
          let run : (run_for f h cols k).outcome ≡ refused x y = (alike b).outcome ∙ w in
          rw (run, t.refused x y w)
