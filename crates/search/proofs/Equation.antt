-- The join and the walks of each stop by itself come to the same: a tile opened for an earlier stop has no site ahead
-- of a key that comes before its own, so it counts from where the stop's own walk takes it.
use Prim.Native.Nat.{ℕ}
use mathlib.Core.Bool.{Bool, true, false, cond, ◌||◌, or-false}
use mathlib.Core.List.Memᴰ
use mathlib.Core.List.{List, [], ◌∷◌, ◌++◌, append_assoc, append-nil, Permᴰ}
use mathlib.Core.Path.{◌≡◌, refl, sym, ap, ◌∙◌}
use native.Mathlib.Omega.{arith}
use lib.Dec.{leb, eqb}
use borrow.Author.Tests.{leb-true, eqb-true}
use Rattle.base.specs.Refusal.{Outcome, accepted}
use Rattle.base.proofs.Tests.{by_test}
use Rattle.search.specs.Inner.Walk.{stop_then, walk_by, walks_by}
use Rattle.search.specs.Lists.{count, filter, member, All, Distinct}
use Rattle.search.specs.Plan.{Geometry, Directory, Lawful, Town}
use Rattle.search.specs.Run.{tile_places, Reading, Place, Run, places_of, nearest, by_key, queue, ahead, enough}
use Rattle.search.specs.Run.{contents, Checked, serve, join}
use Rattle.search.proofs.Lists.{all_map, all_both, all_append, all_right, all_mem, count-append, count_none}
use Rattle.search.proofs.Lists.{count_perm, filter-all, filter_passes, filter_mem, filter-append, filter_id}
use Rattle.search.proofs.Lists.{filter-distinct, member_mem, mem_member, member-append, distinct_snoc}
use Rattle.search.proofs.Lists.{same_elements}
use Rattle.search.proofs.Places.{by_key_order, places_of_append, places_of_perm, Filled, later_none, later_behind}
use Rattle.search.proofs.Places.{nearest_front}
use Rattle.search.proofs.Queue.{Chosen, queue_chosen, queue_sorted, queue_distinct, queue_mem}
use Rattle.search.proofs.Run.{contents_accepted, enoughFor, Served, none, ends, again, opens, refuses, served}
use Rattle.search.proofs.Run.{served_all, served_distinct, OpensIn, served_good, Ran, done, answers, breaks, ran}
use Rattle.search.proofs.Sort.{sorted_right, order_irrefl}
use Rattle.search.proofs.Walk.{found_adds, walk, cut, cut_out, walks, walk_ends, walk_refused, walk_opens, Enough}

-- the tiles opened, after some are asked for: those that are new, in their order
unfoldable pub with_new : List ℕ → List ℕ → List ℕ
with_new opened [] = opened
with_new opened (t ∷ ts) = cond (member t opened) (with_new opened ts) (with_new (opened ++ t ∷ []) ts)

with_new-append : (opened ts us : List ℕ) → with_new opened (ts ++ us) ≡ with_new (with_new opened ts) us
unfolding with_new
with_new-append opened [] us = refl
with_new-append opened (t ∷ ts) us = by_test (member t opened)
    (λ e. rw e (with_new-append opened ts us))
    (λ e. rw e (with_new-append (opened ++ t ∷ []) ts us))

-- the opened tiles are those asked for
pub with_new-member : (t : ℕ) (opened ts : List ℕ) → member t (with_new opened ts) ≡ (member t opened || member t ts)
unfolding with_new member
with_new-member t opened [] = sym (or-false (member t opened))
with_new-member t opened (u ∷ ts) = by_test (member u opened)
    (λ e. rw (e, with_new-member t opened ts) (by_test (eqb t u)
    (λ f. let i = eqb-true t u f in rw (ap (λ (v : ℕ). member v opened) i ∙ e))
    (λ f. rw f)))
    (λ e. rw (e, with_new-member t (opened ++ u ∷ []) ts, member-append t opened (u ∷ [])) (by_test (member t opened)
    (λ f. rw f)
    (λ f. rw f (by_test (eqb t u) (λ i. rw i) (λ i. rw i)))))

-- a run comes to an outcome, and opens what is new of the tiles asked for
pub record Alike {X : Type 0} (opened : List ℕ) (r : Run X) (asked : List ℕ) (out : Outcome X) : Type 0 where
  pub outcome : r.outcome ≡ out
  pub openings : r.openings ≡ with_new opened asked

module _ {G : Geometry} (E : Directory G) (O : G.Box) (k : ℕ) where
  open G use {Site, Stop, Within}

  module _ (L : Lawful E O) (read : Reading G) (checked : Checked E read) where
    abbrev g : Town G
    g = contents G read

    -- the tiles opened so far, of all stops
    pub record Open (opened : List ℕ) : Type 0 where
      pub once : Distinct opened
      pub chosen : All (Chosen E O k) opened
      pub good : All (OpensIn E k read) opened

    open-filled : (opened : List ℕ) → Open opened → All (Filled E g) opened
    open-filled opened o = all_both (Chosen E O k) (OpensIn E k read) _ opened
        (λ t c a. (c.0, rw (contents_accepted E k read t a.0 a.1) (checked t a.0 c.0 a.1))) o.chosen
        o.good

    -- ---- a stop at a point of its queue: the tiles passed are open

    module _ (p : Stop) (pre ts opened : List ℕ) (e : queue E O k p ≡ pre ++ ts) (o : Open opened)
        (passed : All (λ t. member t opened ≡ true) pre) where
      -- those open beyond the tiles passed
      abbrev pub extra : List ℕ
      extra = filter (λ t. member t opened) ts

      pub open_perm : Permᴰ opened (pre ++ extra)
      open_perm =
          let q : ℕ → Bool = λ t. member t opened in
          let f : filter q (queue E O k p) ≡ pre ++ extra = ap (filter q) e ∙ filter-append q pre ts
          ∙ ap (λ l. l ++ extra) (filter_id q pre passed) in
          rw f at (same_elements opened (filter q (queue E O k p)) o.once
          (filter-distinct q (queue E O k p) (queue_distinct E O k p))
          (λ t m. let c = all_mem (Chosen E O k) o.chosen m in
          filter_mem q (queue_mem E O k p t c.0 c.1) (mem_member t opened m))
          (λ t m. member_mem t opened (all_mem (λ u. member u opened ≡ true) (filter_passes q (queue E O k p)) m)))

      extra-filled : All (Filled E g) extra
      extra-filled = all_map extra (λ t m. all_mem (Filled E g) (open-filled opened o) (member_mem t opened m))
          (filter_passes (λ t. member t opened) ts)

      extra-late : (t : ℕ) → All (λ u. by_key E p u t ≡ false) ts → All (λ u. by_key E p u t ≡ false) extra
      extra-late t h = filter-all (λ u. by_key E p u t ≡ false) (λ u. member u opened) ts h

    late : (p : Stop) (pre : List ℕ) (t : ℕ) (ts : List ℕ) → queue E O k p ≡ pre ++ t ∷ ts
        → All (λ u. by_key E p u t ≡ false) (t ∷ ts)
    late p pre t ts e =
        let s = sorted_right (by_key E p) pre (t ∷ ts) (rw e at (queue_sorted E O k p)) in
        (order_irrefl (by_key E p) (by_key_order E p) t, s.0)

    -- as many sites of open tiles are ahead of the next key as of the tiles passed
    same_count : (p : Stop) → Within O p → (pre : List ℕ) (t : ℕ) (ts opened : List ℕ) → queue E O k p ≡ pre ++ t ∷ ts
        → Open opened
        → All (λ u. member u opened ≡ true) pre
        → count (ahead E p t) (places_of G p g opened) ≡ count (ahead E p t) (places_of G p g pre)
    same_count p home pre t ts opened e o h =
        let x = extra p pre (t ∷ ts) opened e o h in
        let n = count_none (ahead E p t) (places_of G p g x)
        (later_none E L p home g t x (extra-filled p pre (t ∷ ts) opened e o h)
        (extra-late p pre (t ∷ ts) opened e o h t (late p pre t ts e))) in
        let c = count_perm (ahead E p t) (places_of_perm E p g (open_perm p pre (t ∷ ts) opened e o h)) in
        let a = ap (count (ahead E p t)) (places_of_append E p g pre x) in
        let b = count-append (ahead E p t) (places_of G p g pre) (places_of G p g x) in
        omega arith

    same-enough : (p : Stop) → Within O p → (pre : List ℕ) (t : ℕ) (ts opened : List ℕ) → queue E O k p ≡ pre ++ t ∷ ts
        → Open opened
        → All (λ u. member u opened ≡ true) pre → enoughFor E k read p t opened ≡ enough E k p t (places_of G p g pre)
    unfolding enough
    same-enough p home pre t ts opened e o h = ap (leb k) (same_count p home pre t ts opened e o h)

    -- and they give the same list where the stop ends
    same-list : (p : Stop) → Within O p → (pre ts opened : List ℕ) → queue E O k p ≡ pre ++ ts → Open opened
        → All (λ u. member u opened ≡ true) pre
        → Enough E k p ts (places_of G p g pre) → nearest G k p g opened ≡ cut k (places_of G p g pre)
    unfolding cut nearest filter places_of
    same-list p home pre [] opened e o h f =
        nearest_front E L p home g k opened pre [] (open_perm p pre [] opened e o h) (open-filled opened o) tt
    same-list p home pre (t ∷ ts) opened e o h f =
        let x = extra p pre (t ∷ ts) opened e o h in
        nearest_front E L p home g k opened pre x (open_perm p pre (t ∷ ts) opened e o h) (open-filled opened o)
        (later_behind E L p home g k t x (places_of G p g pre) (extra-filled p pre (t ∷ ts) opened e o h)
        (extra-late p pre (t ∷ ts) opened e o h t (late p pre t ts e)) f)

    -- ---- one stop

    grown : (p : Stop) (pre : List ℕ) (t : ℕ) (f : List Site) → read t ≡ accepted f
        → places_of G p g pre ++ tile_places G p t f ≡ places_of G p g (pre ++ t ∷ [])
    unfolding places_of
    grown p pre t f a = sym (places_of_append E p g pre (t ∷ []) ∙ rw (append-nil, contents_accepted E k read t f a))

    -- a tile passed that was open, and one that opens
    pub more_passed : (t : ℕ) (pre opened : List ℕ) → All (λ u. member u opened ≡ true) pre → member t opened ≡ true
        → All (λ u. member u opened ≡ true) (pre ++ t ∷ [])
    more_passed t pre opened h m = all_append (λ u. member u opened ≡ true) pre (t ∷ []) h (m, tt)

    pub new_passed : (t : ℕ) (pre opened : List ℕ) → All (λ u. member u opened ≡ true) pre
        → All (λ u. member u (opened ++ t ∷ []) ≡ true) (pre ++ t ∷ [])
    new_passed t pre opened h = more_passed t pre (opened ++ t ∷ [])
        (all_map pre (λ u m. member-append u opened (t ∷ []) ∙ rw m) h)
        (mem_member t (opened ++ t ∷ []) (Memᴰ.append_right opened (Memᴰ.head refl)))

    pub new_open : (p : Stop) (pre : List ℕ) (t : ℕ) (ts opened : List ℕ) (f : List Site)
        → queue E O k p ≡ pre ++ t ∷ ts → Open opened
        → member t opened ≡ false → read t ≡ accepted f → Open (opened ++ t ∷ [])
    new_open p pre t ts opened f e o m a = record {
      once = distinct_snoc opened t o.once m;
      chosen = all_append (Chosen E O k) opened (t ∷ []) o.chosen
          ((all_right (Chosen E O k) pre (t ∷ ts) (rw e at (queue_chosen E O k p))).0, tt);
      good = all_append (OpensIn E k read) opened (t ∷ []) o.good ((f, a), tt);
    }

    pub pass_one : (pre : List ℕ) (t : ℕ) (ts l : List ℕ) → l ≡ pre ++ t ∷ ts → l ≡ (pre ++ t ∷ []) ++ ts
    pass_one pre t ts l e = e ∙ sym (append_assoc pre (t ∷ []) ts)

    serve-walk : {p : Stop} {ts opened : List ℕ} {r : Run (List Place)} → Served E k read p ts opened r → Within O p
        → (pre : List ℕ) → queue E O k p ≡ pre ++ ts
        → Open opened → All (λ t. member t opened ≡ true) pre
        → Alike opened r (walk E k read p ts (places_of G p g pre)).asked
        (cut_out k (walk E k read p ts (places_of G p g pre)).out)
    unfolding walk_by with_new enough
    serve-walk {p} (none {opened = u}) home pre e o h =
        record { outcome = ap accepted (same-list p home pre [] u e o h tt); openings = refl }
    serve-walk {p} (ends {t = t} {ts = ts} {opened = u} n) home pre e o h =
        let m : enough E k p t (places_of G p g pre) ≡ true = sym (same-enough p home pre t ts u e o h) ∙ n in
        rw (walk_ends (enough E k p) (found_adds E k p) read t ts (places_of G p g pre) m)
        (record { outcome = ap accepted (same-list p home pre (t ∷ ts) u e o h (leb-true k _ m)); openings = refl })
    serve-walk {p} (again {t = t} {ts = ts} {opened = u} n m s) home pre e o h =
        let a = all_mem (OpensIn E k read) o.good (member_mem t u m) in
        let l : enough E k p t (places_of G p g pre) ≡ false = sym (same-enough p home pre t ts u e o h) ∙ n in
        let ih = serve-walk s home (pre ++ t ∷ []) (pass_one pre t ts (queue E O k p) e) o (more_passed t pre u h m) in
        let f = a.0 in
        let opens = walk_opens (enough E k p) (found_adds E k p) read t ts (places_of G p g pre) f l a.1 in
        rw (opens, grown p pre t f a.1)
        (record { outcome = ih.outcome; openings = rw m ih.openings })
    serve-walk {p} (opens {t = t} {ts = ts} {opened = u} {f = f} n m a s) home pre e o h =
        let l : enough E k p t (places_of G p g pre) ≡ false = sym (same-enough p home pre t ts u e o h) ∙ n in
        let ih = serve-walk s home (pre ++ t ∷ []) (pass_one pre t ts _ e) (new_open p pre t ts u f e o m a)
        (new_passed t pre u h) in
        rw (walk_opens (enough E k p) (found_adds E k p) read t ts (places_of G p g pre) f l a, grown p pre t f a)
        (record { outcome = ih.outcome; openings = rw m ih.openings })
    serve-walk {p} (refuses {t = t} {ts = ts} {opened = u} {n = x} {b = b} n m a) home pre e o h =
        let l : enough E k p t (places_of G p g pre) ≡ false = sym (same-enough p home pre t ts u e o h) ∙ n in
        rw (walk_refused (enough E k p) (found_adds E k p) read t ts (places_of G p g pre) x b l a)
        (record { outcome = refl; openings = rw m })

    -- ---- all stops

    pub still_open : (p : Stop) (opened : List ℕ) (l : List Place)
        → (serve E k read p (queue E O k p) opened).outcome ≡ accepted l
        → Open opened → Open (serve E k read p (queue E O k p) opened).openings
    still_open p opened l e o =
        let s = served E k read p (queue E O k p) opened in
        record {
          once = served_distinct E k read s o.once;
          chosen = served_all E k read (Chosen E O k) s (queue_chosen E O k p) o.chosen;
          good = served_good E k read s l e o.good;
        }

    alone : (p : Stop) → Within O p → (opened : List ℕ) → Open opened
        → Alike opened (serve E k read p (queue E O k p) opened) (walk E k read p (queue E O k p) []).asked
        (cut_out k (walk E k read p (queue E O k p) []).out)
    unfolding places_of
    alone p home opened o = serve-walk (served E k read p (queue E O k p) opened) home [] refl o tt

    run-walks : {ps : List Stop} {opened : List ℕ} {r : Run (List (List Place))}
        → Ran E k (queue E O k) read ps opened r → All (Within O) ps
        → Open opened → Alike opened r (walks E k (queue E O k) read ps).asked (walks E k (queue E O k) read ps).out
    unfolding walks_by stop_then with_new
    run-walks done hs o = record { outcome = refl; openings = refl }
    run-walks (answers {p = p} {ps = ps} {opened = u} {l = l} e s) hs o =
        let a = alone p hs.0 u o in
        let ih = run-walks s hs.1 (still_open p u l e o) in
        let w = walk E k read p (queue E O k p) [] in
        rw (sym a.outcome ∙ e) (record {
          outcome = rw ih.outcome;
          openings =
              ih.openings ∙ rw (a.openings, with_new-append u w.asked (walks E k (queue E O k) read ps).asked);
        })
    run-walks (breaks {p = p} {opened = u} e) hs o =
        let a = alone p hs.0 u o in
        rw (sym a.outcome ∙ e) (record { outcome = refl; openings = a.openings })

    -- The equation: the same outcome and lists; the openings are the tiles asked for, repeats removed.
    pub join_walks : (ps : List Stop) → All (Within O) ps
        → Alike [] (join E O k read ps) (walks E k (queue E O k) read ps).asked (walks E k (queue E O k) read ps).out
    unfolding join
    join_walks ps hs = run-walks (ran E k (queue E O k) read ps []) hs (record { once = tt; chosen = tt; good = tt })
