-- What a run writes over the slices: n × k places and T marks, which file, stops and k alone decide, and not what the
-- slices held before.
use Prim.Native.Nat.{ℕ, ◌*◌, ◌<◌, ◌≤◌}
use mathlib.Core.List.{List}
use mathlib.Core.Path.{◌≡◌, refl, sym, ap, ◌∙◌}
use native.Mathlib.Nat.{zero-add}
use native.Mathlib.Omega.{arith}
use lib.IntN.{ℤ}
use lib.ListN.{length, get_or, replicate, length-replicate}
use Rattle.base.specs.Over.{over}
use Rattle.base.specs.Refusal.{Outcome, accepted, refused}
use Rattle.blocks.specs.Directory.{directory}
use Rattle.blocks.specs.declared.header.Header.{Header}
use Rattle.geometry.specs.Around.{around}
use Rattle.list.specs.Slices.{Lists, Slices, Long, place_at, lay, cleared}
use Rattle.plan.specs.FilePlan.{entries, opening_of}
use Rattle.search.specs.Run.{no_place, no_mark, in_rows, mark}
use Rattle.search.specs.Run as run
use Rattle.search.specs.declared.Place.{Place}
use Rattle.stops.specs.Arguments.{arguments}
use Rattle.stops.specs.Stops.{stop_count, stops_of}
use Rattle.base.proofs.Outcomes.{by_outcome}
use Rattle.base.proofs.Over.{get_d_run}
use Rattle.list.proofs.Laying.{lay_place}
use Rattle.plan.proofs.Tables.{table-length}
use Rattle.search.proofs.Marks.{in_rows-length}
use Rattle.search.proofs.Run.{join-length}
use Rattle.stops.proofs.ArgumentLaws.{arguments_good}
use Rattle.stops.proofs.StopLaws.{stops_length}
use Rattle.join.specs.Claims.{SameAnswer}
use Rattle.join.specs.declared.call.Joined.{Joined}
use Rattle.join.specs.Join.{run_for, lengths_of, filled, result_of, ended, run_end, join_end}
use Rattle.join.proofs.Calling.{tests_pass}

module _ (f : List ℕ) (cols : List (List ℤ)) (k : ℕ) where
  -- what a run comes to and writes, whatever slices are lent
  pub record RunWrites (h : Header) : Type 0 where
    pub outcome : Outcome Joined
    pub places : List Place
    pub marks : List ℕ
    pub all-places : length places ≡ stop_count cols * k
    pub all_marks : length marks ≡ h.tiles
    pub ends : (out : Slices) → run_end f h cols k out ≡ record { outcome = outcome; slices = filled places marks out }

  pub run_writes : (h : Header) → RunWrites h
  unfolding run_end ended filled cleared run_for run.marks
  run_writes h =
      let E = entries f h in
      let O = around cols in
      let n = stop_count cols * k in
      let opened = (run_for f h cols k).openings in
      by_outcome (run_for f h cols k).outcome
      (λ ls e. record {
        outcome = accepted (result_of f h cols k opened);
        places = in_rows k ls;
        marks = run.marks E O k opened;
        all-places = in_rows-length k ls
            ∙ ap (λ (m : ℕ). m * k) (join-length E O k (opening_of f h) (stops_of cols) ls e ∙ stops_length cols);
        all_marks = table-length (mark E O k opened) 0 h.tiles;
        ends = λ out. rw e;
      })
      (λ x y e. record {
        outcome = refused x y;
        places = replicate n no_place;
        marks = replicate h.tiles no_mark;
        all-places = length-replicate n no_place;
        all_marks = length-replicate h.tiles no_mark;
        ends = λ out. rw e;
      })

  -- two calls with slices of the same lengths
  pub answer_alike : (out out' : Slices) → lengths_of out' ≡ lengths_of out → (h : Header) → directory f ≡ accepted h
      → arguments h cols k (lengths_of out) ≡ accepted tt
      → SameAnswer cols k h (join_end f cols k out) (join_end f cols k out')
  unfolding filled
  answer_alike out out' l h d a =
      let w = run_writes h in
      let a' = ap (arguments h cols k) l ∙ a in
      let g = arguments_good h cols k (lengths_of out) a in
      let g' = arguments_good h cols k (lengths_of out') a' in
      rw (tests_pass f cols k out d a ∙ w.ends out, tests_pass f cols k out' d a' ∙ w.ends out') (record {
        outcome = refl;
        lists = λ i b. place_read w.places w.all-places i b out'.lists (g'.dist, (g'.site, g'.cue))
            ∙ sym (place_read w.places w.all-places i b out.lists (g.dist, (g.site, g.cue)));
        marks = λ t b. mark-read w.marks w.all_marks t b out'.marks g'.marks
            ∙ sym (mark-read w.marks w.all_marks t b out.marks g.marks);
      })
    where
      -- what was written is read back
      place_read : {n : ℕ} (ps : List Place) → length ps ≡ n → (i : ℕ) → i < n → (o : Lists) → Long o n
          → place_at (lay o 0 ps) i ≡ get_or ps i no_place
      place_read ps e i b o g = rw (zero-add i) at (lay_place o 0 ps
          (omega (arith, g.0), (omega (arith, g.1.0), omega (arith, g.1.1))) i (omega arith))

      mark-read : {n : ℕ} (ms : List ℕ) → length ms ≡ n → (t : ℕ) → t < n → (m : List ℕ) → n ≤ length m
          → get_or (over m 0 ms) t 0 ≡ get_or ms t 0
      mark-read ms e t b m g = rw (zero-add t) at (get_d_run m 0 t ms (omega arith) (omega arith))
