-- The join's run, case by case: which tiles it opens, each once, and that their contents decide it.
use Prim.Native.Nat.{ℕ, suc}
use mathlib.Core.Bool.{Bool, true, false}
use mathlib.Core.List.{List, [], ◌∷◌, ◌++◌}
use mathlib.Core.Path.{◌≡◌, refl, sym, ap, ◌∙◌}
use native.Mathlib.Omega.{arith}
use lib.ListN.{length}
use Rattle.base.specs.Refusal.{accepted, refused, and_then}
use Rattle.base.proofs.Outcomes.{accepted_injective, accepted_refused, and_then_accepted, and_then_refused, by_outcome}
use Rattle.base.proofs.Tests.{by_test}
use Rattle.search.specs.Lists.{member, All, Distinct}
use Rattle.search.specs.Plan.{Geometry, Directory}
use Rattle.search.specs.Run.{answer, Reading, Place, Run, places_of, nearest, queue, enough, contents, opening}
use Rattle.search.specs.Run.{serve, follow, run, join}
use Rattle.search.proofs.Lists.{all_map, all_append, all_left, all_right, distinct_snoc}
use Rattle.search.proofs.Places.{places_of_same}
use Rattle.search.proofs.Queue.{Chosen, queue_chosen}

module _ {G : Geometry} (E : Directory G) (k : ℕ) where
  open G use {Site, Stop}

  pub contents_accepted : (read : Reading G) (t : ℕ) (f : List Site) → read t ≡ accepted f → contents G read t ≡ f
  unfolding contents
  contents_accepted read t f e = rw e

  contents_same : (read read' : Reading G) (t : ℕ) → read' t ≡ read t → contents G read' t ≡ contents G read t
  unfolding contents
  contents_same read read' t e = rw e

  module _ (read : Reading G) where
    abbrev pub enoughFor : Stop → ℕ → List ℕ → Bool
    enoughFor p t opened = enough E k p t (places_of G p (contents G read) opened)

    -- how a stop goes: the tiles that wait, those opened so far, and what it comes to
    pub data Served (p : Stop) : List ℕ → List ℕ → Run (List Place) → Type 0 where
      none : {opened : List ℕ} → Served p [] opened (answer E k read p opened)
      ends : {t : ℕ} {ts opened : List ℕ} → enoughFor p t opened ≡ true
          → Served p (t ∷ ts) opened (answer E k read p opened)
      again : {t : ℕ} {ts opened : List ℕ} {r : Run (List Place)} → enoughFor p t opened ≡ false
          → member t opened ≡ true
          → Served p ts opened r → Served p (t ∷ ts) opened r
      opens : {t : ℕ} {ts opened : List ℕ} {f : List Site} {r : Run (List Place)} → enoughFor p t opened ≡ false
          → member t opened ≡ false → read t ≡ accepted f → Served p ts (opened ++ t ∷ []) r
          → Served p (t ∷ ts) opened r
      refuses : {t : ℕ} {ts opened : List ℕ} {n b : ℕ} → enoughFor p t opened ≡ false → member t opened ≡ false
          → read t ≡ refused n b
          → Served p (t ∷ ts) opened (record { openings = opened ++ t ∷ []; outcome = refused n b })

    pub served : (p : Stop) (ts opened : List ℕ) → Served p ts opened (serve E k read p ts opened)
    unfolding serve opening
    served p [] opened = none
    served p (t ∷ ts) opened = by_test (enoughFor p t opened)
        (λ e. rw e (ends e))
        (λ e. by_test (member t opened)
        (λ m. rw (e, m) (again e m (served p ts opened)))
        (λ m. by_outcome (read t)
        (λ f r. rw (e, m, r) (opens e m r (served p ts (opened ++ t ∷ []))))
        (λ n b r. rw (e, m, r) (refuses e m r))))

    pub served_all : (P : ℕ → Type 0) {p : Stop} {ts opened : List ℕ} {r : Run (List Place)} → Served p ts opened r
        → All P ts
        → All P opened → All P r.openings
    served_all P none g h = h
    served_all P (ends e) g h = h
    served_all P (again e m s) g h = served_all P s g.1 h
    served_all P (opens {t = t} {opened = o} e m a s) g h = served_all P s g.1 (all_append P o (t ∷ []) h (g.0, tt))
    served_all P (refuses {t = t} {opened = o} e m a) g h = all_append P o (t ∷ []) h (g.0, tt)

    pub served_distinct : {p : Stop} {ts opened : List ℕ} {r : Run (List Place)} → Served p ts opened r
        → Distinct opened
        → Distinct r.openings
    served_distinct none d = d
    served_distinct (ends e) d = d
    served_distinct (again e m s) d = served_distinct s d
    served_distinct (opens {t = t} {opened = o} e m a s) d = served_distinct s (distinct_snoc o t d m)
    served_distinct (refuses {t = t} {opened = o} e m a) d = distinct_snoc o t d m

    -- what holds of all openings holds of those so far
    served-back : (P : ℕ → Type 0) {p : Stop} {ts opened : List ℕ} {r : Run (List Place)} → Served p ts opened r
        → All P r.openings → All P opened
    served-back P none h = h
    served-back P (ends e) h = h
    served-back P (again e m s) h = served-back P s h
    served-back P (opens {t = t} {opened = o} e m a s) h = all_left P o (t ∷ []) (served-back P s h)
    served-back P (refuses {t = t} {opened = o} e m a) h = all_left P o (t ∷ []) h

    -- ---- in a run that answers each opening was accepted

    abbrev pub OpensIn : ℕ → Type 0
    OpensIn t = (f : List Site) × (read t ≡ accepted f)

    pub served_good : {p : Stop} {ts opened : List ℕ} {r : Run (List Place)} → Served p ts opened r → (l : List Place)
        → r.outcome ≡ accepted l → All OpensIn opened → All OpensIn r.openings
    served_good none l e h = h
    served_good (ends n) l e h = h
    served_good (again n m s) l e h = served_good s l e h
    served_good (opens {t = t} {opened = u} {f = f} n m a s) l e h =
        served_good s l e (all_append OpensIn u (t ∷ []) h ((f, a), tt))
    served_good (refuses n m a) l e h = absurd (let z : ◌≡◌ {A = ℕ} 0 1 = cc in omega arith)

    -- ---- and one that is refused is refused by an opening

    abbrev RefusedBy : (ℕ → Type 0) → ℕ → ℕ → Type 0
    RefusedBy P n b = (t : ℕ) × P t × (read t ≡ refused n b)

    served-refused : (P : ℕ → Type 0) {p : Stop} {ts opened : List ℕ} {r : Run (List Place)} → Served p ts opened r
        → All P ts → (n b : ℕ) → r.outcome ≡ refused n b → RefusedBy P n b
    served-refused P none h n b e = accepted_refused refl e
    served-refused P (ends q) h n b e = accepted_refused refl e
    served-refused P (again q m s) h n b e = served-refused P s h.1 n b e
    served-refused P (opens q m a s) h n b e = served-refused P s h.1 n b e
    served-refused P (refuses {t = t} {n = m} {b = c} q i a) h n b e =
        let x : m ≡ n = cc in
        let y : c ≡ b = cc in
        (t, h.0, a ∙ rw (x, y))

  -- ---- the stops in turn, each over its tiles

  module _ (tiles_of : Stop → List ℕ) (read : Reading G) where
    -- how a run goes
    pub data Ran : List Stop → List ℕ → Run (List (List Place)) → Type 0 where
      done : {opened : List ℕ} → Ran [] opened (record { openings = opened; outcome = accepted [] })
      answers : {p : Stop} {ps : List Stop} {opened : List ℕ} {l : List Place} {r : Run (List (List Place))}
          → (serve E k read p (tiles_of p) opened).outcome ≡ accepted l
          → Ran ps (serve E k read p (tiles_of p) opened).openings r
          → Ran (p ∷ ps) opened (record {
            openings = r.openings;
            outcome = and_then r.outcome
                (λ ls. accepted (l ∷ ls));
          })
      breaks : {p : Stop} {ps : List Stop} {opened : List ℕ} {n b : ℕ}
          → (serve E k read p (tiles_of p) opened).outcome ≡ refused n b
          → Ran (p ∷ ps) opened (record {
            openings = (serve E k read p
                (tiles_of p) opened).openings;
            outcome = refused n b;
          })

    pub ran : (ps : List Stop) (opened : List ℕ) → Ran ps opened (run E k tiles_of read ps opened)
    unfolding run follow
    ran [] opened = done
    ran (p ∷ ps) opened = by_outcome (serve E k read p (tiles_of p) opened).outcome
        (λ l e. rw e (answers e (ran ps (serve E k read p (tiles_of p) opened).openings)))
        (λ n b e. rw e (breaks e))

    ran-all : (P : ℕ → Type 0) → ((p : Stop) → All P (tiles_of p))
        → {ps : List Stop} {opened : List ℕ} {r : Run (List (List Place))}
        → Ran ps opened r → All P opened → All P r.openings
    ran-all P q done h = h
    ran-all P q (answers {p = p} {opened = o} e s) h =
        ran-all P q s (served_all read P (served read p (tiles_of p) o) (q p) h)
    ran-all P q (breaks {p = p} {opened = o} e) h = served_all read P (served read p (tiles_of p) o) (q p) h

    ran-distinct : {ps : List Stop} {opened : List ℕ} {r : Run (List (List Place))} → Ran ps opened r → Distinct opened
        → Distinct r.openings
    ran-distinct done d = d
    ran-distinct (answers {p = p} {opened = o} e s) d =
        ran-distinct s (served_distinct read (served read p (tiles_of p) o) d)
    ran-distinct (breaks {p = p} {opened = o} e) d = served_distinct read (served read p (tiles_of p) o) d

    ran-back : (P : ℕ → Type 0) {ps : List Stop} {opened : List ℕ} {r : Run (List (List Place))} → Ran ps opened r
        → All P r.openings → All P opened
    ran-back P done h = h
    ran-back P (answers {p = p} {opened = o} e s) h = served-back read P (served read p (tiles_of p) o) (ran-back P s h)
    ran-back P (breaks {p = p} {opened = o} e) h = served-back read P (served read p (tiles_of p) o) h

    ran-good : {ps : List Stop} {opened : List ℕ} {r : Run (List (List Place))} → Ran ps opened r
        → (ls : List (List Place))
        → r.outcome ≡ accepted ls → All (OpensIn read) opened → All (OpensIn read) r.openings
    ran-good done ls e h = h
    ran-good (answers {p = p} {opened = u} {l = l} {r = r} e s) ls f h = by_outcome r.outcome
        (λ ms q. ran-good s ms q (served_good read (served read p (tiles_of p) u) l e h))
        (λ n b q. absurd (let z : ◌≡◌ {A = ℕ} 0 1 = let v = rw q at f in cc in omega arith))
    ran-good (breaks e) ls f h = absurd (let z : ◌≡◌ {A = ℕ} 0 1 = cc in omega arith)

    ran-length : {ps : List Stop} {opened : List ℕ} {r : Run (List (List Place))} → Ran ps opened r
        → (ls : List (List Place)) → r.outcome ≡ accepted ls → length ls ≡ length ps
    ran-length done ls e = let i : ls ≡ [] = cc in rw i
    ran-length (answers {l = l} {r = r} e s) ls f =
        let a = and_then_accepted r.outcome (λ ms. accepted (l ∷ ms)) f in
        let i : ls ≡ l ∷ a.0 = sym (accepted_injective a.2) in
        rw i (ap suc (ran-length s a.0 a.1))
    ran-length (breaks e) ls f = accepted_refused f refl

    ran-refused : (P : ℕ → Type 0) → ((p : Stop) → All P (tiles_of p))
        → {ps : List Stop} {opened : List ℕ} {r : Run (List (List Place))}
        → Ran ps opened r → (n b : ℕ) → r.outcome ≡ refused n b → RefusedBy read P n b
    ran-refused P q done n b e = accepted_refused refl e
    ran-refused P q (answers {l = l} {r = r} e s) n b f =
        ran-refused P q s n b (and_then_refused r.outcome (λ ms. l ∷ ms) f)
    ran-refused P q (breaks {p = p} {opened = o} {n = m} {b = c} e) n b f =
        let x : m ≡ n = cc in
        let y : c ≡ b = cc in
        served-refused read P (served read p (tiles_of p) o) (q p) n b (e ∙ rw (x, y))

  -- ---- the opened tiles decide the run

  module _ (read read' : Reading G) where
    abbrev Same : ℕ → Type 0
    Same t = read' t ≡ read t

    same-places : (p : Stop) (opened : List ℕ) → All Same opened
        → places_of G p (contents G read') opened ≡ places_of G p (contents G read) opened
    same-places p opened h =
        places_of_same E p (contents G read') (contents G read) opened
        (all_map opened (λ t e. contents_same read read' t e) h)

    serve-same : {p : Stop} {ts opened : List ℕ} {r : Run (List Place)} → Served read p ts opened r
        → All Same r.openings
        → serve E k read' p ts opened ≡ r
    unfolding serve opening nearest
    serve-same {p} (none {opened = o}) h = rw (same-places p o h)
    serve-same {p} (ends {opened = o} e) h = rw (same-places p o h, e)
    serve-same {p} (again {opened = o} e m s) h =
        rw (same-places p o (served-back read Same s h), e, m) (serve-same s h)
    serve-same {p} (opens {t = t} {opened = o} e m a s) h =
        let b = served-back read Same s h in
        rw (same-places p o (all_left Same o (t ∷ []) b), e, m, (all_right Same o (t ∷ []) b).0 ∙ a) (serve-same s h)
    serve-same {p} (refuses {t = t} {opened = o} e m a) h =
        rw (same-places p o (all_left Same o (t ∷ []) h), e, m, (all_right Same o (t ∷ []) h).0 ∙ a)

    module _ (tiles_of : Stop → List ℕ) where
      run-same : {ps : List Stop} {opened : List ℕ} {r : Run (List (List Place))} → Ran tiles_of read ps opened r
          → All Same r.openings
          → run E k tiles_of read' ps opened ≡ r
      unfolding run follow
      run-same done h = refl
      run-same (answers {p = p} {opened = o} e s) h =
          rw (serve-same (served read p (tiles_of p) o) (ran-back tiles_of read Same s h), e, run-same s h)
      run-same (breaks {p = p} {opened = o} e) h = rw (serve-same (served read p (tiles_of p) o) h, e)

-- ---- the join

module _ {G : Geometry} (E : Directory G) (O : G.Box) (k : ℕ) where
  open G use {Stop}

  -- Only tiles of the directory that are not pruned and not empty are opened.
  pub join_chosen : (read : Reading G) (ps : List Stop) → All (Chosen E O k) (join E O k read ps).openings
  unfolding join
  join_chosen read ps =
      ran-all E k (queue E O k) read (Chosen E O k) (queue_chosen E O k) (ran E k (queue E O k) read ps []) tt

  -- Each tile is opened once.
  pub join_once : (read : Reading G) (ps : List Stop) → Distinct (join E O k read ps).openings
  unfolding join
  join_once read ps = ran-distinct E k (queue E O k) read (ran E k (queue E O k) read ps []) tt

  pub join_good : (read : Reading G) (ps : List Stop) (ls : List (List Place))
      → (join E O k read ps).outcome ≡ accepted ls
      → All (OpensIn E k read) (join E O k read ps).openings
  unfolding join
  join_good read ps ls e = ran-good E k (queue E O k) read (ran E k (queue E O k) read ps []) ls e tt

  -- A run that answers has a list for each stop.
  pub join-length : (read : Reading G) (ps : List Stop) (ls : List (List Place))
      → (join E O k read ps).outcome ≡ accepted ls → length ls ≡ length ps
  unfolding join
  join-length read ps ls e = ran-length E k (queue E O k) read (ran E k (queue E O k) read ps []) ls e

  -- A refused run is refused by the opening of such a tile.
  pub join_refused : (read : Reading G) (ps : List Stop) (n b : ℕ) → (join E O k read ps).outcome ≡ refused n b
      → (t : ℕ) × Chosen E O k t × (read t ≡ refused n b)
  unfolding join
  join_refused read ps n b e =
      ran-refused E k (queue E O k) read (Chosen E O k) (queue_chosen E O k) (ran E k (queue E O k) read ps []) n b e

  -- A reading that agrees on the openings, a refused one included, gives the same run.
  pub join-same : (read read' : Reading G) (ps : List Stop) → All (λ t. read' t ≡ read t) (join E O k read ps).openings
      → join E O k read' ps ≡ join E O k read ps
  unfolding join
  join-same read read' ps h = run-same E k read read' (queue E O k) (ran E k (queue E O k) read ps []) h
