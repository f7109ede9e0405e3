-- A run that answers, and a town that agrees with the directory and with what was opened: its lists are the full
-- search's, and what it opened is what another filling can change.
use Prim.Native.Nat.{ℕ, ◌+◌, ◌*◌, ◌<◌}
use mathlib.Core.Bool.{true, false}
use mathlib.Core.List.Memᴰ
use mathlib.Core.List.{List, [], ◌∷◌, map, head-eq_of_cons-eq, tail-eq_of_cons-eq, Memᴰ}
use mathlib.Core.Logic.{◌⊎◌, inl, inr}
use mathlib.Core.Path.{◌≡◌, refl, sym, ap, ◌∙◌, subst}
use native.Mathlib.Omega.{arith}
use lib.Dec.{eqb, ltb}
use lib.ListN.{length, get_or, length-map}
use borrow.Author.Tests.{eqb-true, ltb-true, ltb-false}
use Rattle.base.specs.Refusal.{accepted, refused}
use Rattle.base.proofs.Outcomes.{by_outcome}
use Rattle.base.proofs.Tests.{clash, by_test}
use Rattle.search.specs.FullSearch.{refill, first_of, fullSearch, Fits, Changes}
use Rattle.search.specs.Inner.Walk.{stop_then, walks_by}
use Rattle.search.specs.Lists.{member, All}
use Rattle.search.specs.Plan.{Geometry, Directory, Lawful, Town, Fills, Agrees}
use Rattle.search.specs.Run.{Reading, Place, no_place, Run, nearest, queue, Checked, join, padded, in_rows}
use Rattle.search.specs.Run.{places_used}
use Rattle.search.proofs.Equation.{with_new, with_new-member, join_walks}
use Rattle.search.proofs.Exact.{asked_differs}
use Rattle.search.proofs.Fillings.{some_filling, refill_there}
use Rattle.search.proofs.Lists.{all_map, all_mem, mem_all, member_mem, mem_member, get_d_map_lt}
use Rattle.search.proofs.Marks.{unpad, in_rows_at}
use Rattle.search.proofs.Ranking.{first_length, first_short}
use Rattle.search.proofs.Run.{join-same, join_good}
use Rattle.search.proofs.Sound.{walk_first}
use Rattle.search.proofs.Walk.{walk, cut, walks, Walked, walked}

map_at : {A B : Type 0} (f h : A → B) {x : A} {l : List A} → map f l ≡ map h l → Memᴰ x l → f x ≡ h x
map_at f h e (Memᴰ.head i) = rw i (head-eq_of_cons-eq e)
map_at f h e (Memᴰ.tail m) = map_at f h (tail-eq_of_cons-eq e) m

module _ {G : Geometry} {E : Directory G} {O : G.Box} (L : Lawful E O) (k : ℕ) where
  open G use {Site, Stop, Within}
  open E use {tiles}

  -- the town as a reading that never refuses
  abbrev pub read_town : Town G → Reading G
  read_town g t = accepted (g t)

  town-checked : (g : Town G) → Agrees E g → Checked E (read_town g)
  town-checked g ag t f ht e = let i : g t ≡ f = cc in rw (← i) (ag t ht)

  -- ---- the walks in a town

  walks_town : (g : Town G) → Agrees E g → (ps : List Stop) → All (Within O) ps
      → (walks E k (queue E O k) (read_town g) ps).out ≡ accepted (map (λ p. first_of E k p g) ps)
  unfolding walks_by stop_then cut nearest
  walks_town g ag [] hs = refl
  walks_town g ag (p ∷ ps) hs =
      let w = walked E k p g (queue E O k p) [] in
      let f = walk_first E O k L p hs.0 g ag w in
      rw (w.trace, walks_town g ag ps hs.1) (ap (λ l. accepted (l ∷ map (λ p. first_of E k p g) ps)) f)

  asked_at : (g : Town G) (ps : List Stop) (t : ℕ) → Memᴰ t (walks E k (queue E O k) (read_town g) ps).asked
      → (p : Stop) × Memᴰ p ps × Memᴰ t (walk E k (read_town g) p (queue E O k p) []).asked
  unfolding walks_by stop_then
  asked_at g [] t m = elim m [ ]
  asked_at g (p ∷ ps) t m =
      let w = walked E k p g (queue E O k p) [] in
      go w (λ n. asked_at g ps t n) (Memᴰ.append_cases w.pre (rw w.trace at m))
    where
      go : (w : Walked E k p g (queue E O k p) []) → (Memᴰ t (walks E k (queue E O k) (read_town g) ps).asked
          → (q : Stop) × Memᴰ q ps × Memᴰ t (walk E k (read_town g) q (queue E O k q) []).asked)
          → Memᴰ t w.pre ⊎ Memᴰ t (walks E k (queue E O k) (read_town g) ps).asked
          → (q : Stop) × Memᴰ q (p ∷ ps) × Memᴰ t (walk E k (read_town g) q (queue E O k q) []).asked
      go w rec (inl n) = (p, Memᴰ.head refl, rw w.trace n)
      go w rec (inr n) = let r = rec n in (r.0, Memᴰ.tail r.1, r.2)

  -- The join in a town answers, with the full search's lists.
  pub join-town : (g : Town G) → Agrees E g → (ps : List Stop) → All (Within O) ps
      → (join E O k (read_town g) ps).outcome ≡ accepted (map (λ p. first_of E k p g) ps)
  join-town g ag ps hs = (join_walks E O k L (read_town g) (town-checked g ag) ps hs).outcome ∙ walks_town g ag ps hs

  -- ---- there is a town that fits: what opened, and sites at the least distance elsewhere

  pub filling_for : (read : Reading G) → Checked E read → (p : Stop) → Within O p → (t : ℕ)
      → (f : List Site) × (t < tiles → Fills E t f) × ((h : List Site) → read t ≡ accepted h → h ≡ f)
  filling_for read checked p home t = by_outcome (read t)
      (λ f r. (f, λ ht. checked t f ht r, λ h e. let v = sym e ∙ r in cc))
      (λ n b r. by_test (ltb t tiles)
      (λ e. let q = some_filling E L p home t (ltb-true t tiles e) in (q.0, λ ht. q.1, λ h i. refutes r i))
      (λ e. ([], λ ht. absurd (let l = ltb-false t tiles e in omega arith), λ h i. refutes r i)))
    where
      refutes : {X : Type 0} {n b : ℕ} {h : List Site} → read t ≡ refused n b → read t ≡ accepted h → X
      refutes r i = absurd (let z : ◌≡◌ {A = ℕ} 0 1 = cc in omega arith)

  pub some_town : (read : Reading G) → Checked E read → (ps : List Stop) (ls : List (List Place))
      → (join E O k read ps).outcome ≡ accepted ls
      → (p : Stop) → Within O p → (g : Town G) × Fits E read (join E O k read ps).openings g
  some_town read checked ps ls e p home =
      let fill = filling_for read checked p home in (
        λ t. (fill t).0,
        record {
          directory = λ t ht. (fill t).1 ht;
          blocks = all_map (join E O k read ps).openings (λ t a. a.1 ∙ ap accepted ((fill t).2 a.0 a.1))
              (join_good E O k read ps ls e);
        },
      )

  -- ---- a run that answers

  module _ (read : Reading G) (ps : List Stop) (hs : All (Within O) ps) (ls : List (List Place))
      (answers : (join E O k read ps).outcome ≡ accepted ls) where
    abbrev opened : List ℕ
    opened = (join E O k read ps).openings

    -- it is the run in each town that fits
    as-town : (g : Town G) → Fits E read opened g → join E O k (read_town g) ps ≡ join E O k read ps
    as-town g f = join-same E O k read (read_town g) ps (all_map opened (λ t e. sym e) f.blocks)

    answer-lists : (g : Town G) → Fits E read opened g → ls ≡ map (λ p. first_of E k p g) ps
    answer-lists g f =
        let e = sym answers ∙ ap (λ (r : Run (List (List Place))). r.outcome) (sym (as-town g f))
        ∙ join-town g f.directory ps hs in
        cc

    pub answer_padded : (g : Town G) → Fits E read opened g → map (padded k) ls ≡ map (λ p. fullSearch E k p g) ps
    unfolding fullSearch
    answer_padded g f = rw (answer-lists g f) (twice ps)
      where
        twice : (qs : List Stop) → map (padded k) (map (λ p. first_of E k p g) qs)
            ≡ map (λ p. padded k (first_of E k p g)) qs
        twice [] = refl
        twice (q ∷ qs) = ap (λ l. padded k (first_of E k q g) ∷ l) (twice qs)

    pub answer_places : (g : Town G) → Fits E read opened g → (p : Stop) (i j : ℕ) → i < length ps → j < k
        → get_or (in_rows k ls) (i * k + j) no_place ≡ get_or (fullSearch E k (get_or ps i p) g) j no_place
    unfolding fullSearch
    answer_places g f p i j hi hj =
        let n : i < length (map (λ p. first_of E k p g) ps) = rw (length-map ps (λ p. first_of E k p g)) hi in
        rw (answer-lists g f) (in_rows_at k (map (λ p. first_of E k p g) ps) i j no_place n hj
        ∙ rw (get_d_map_lt (λ p. first_of E k p g) ps i [] p hi))

    pub answer_used : (g : Town G) → Fits E read opened g → All (λ l. length l ≡ places_used E k) ls
    answer_used g f = rw (answer-lists g f) (each ps hs)
      where
        each : (qs : List Stop) → All (Within O) qs
            → All (λ l. length l ≡ places_used E k) (map (λ p. first_of E k p g) qs)
        each [] h = tt
        each (q ∷ qs) h = (first_length E k L q h.0 g f.directory, each qs h.1)

    pub opened_changes : (g : Town G) → Fits E read opened g → (t : ℕ) → member t opened ≡ true → Changes E k g ps t
    unfolding fullSearch member
    opened_changes g f t m =
        let ag = f.directory in
        let o : opened ≡ with_new [] (walks E k (queue E O k) (read_town g) ps).asked =
        ap (λ (r : Run (List (List Place))). r.openings) (sym (as-town g f))
        ∙ (join_walks E O k L (read_town g) (town-checked g ag) ps hs).openings in
        let asked : member t (walks E k (queue E O k) (read_town g) ps).asked ≡ true =
        sym (with_new-member t [] (walks E k (queue E O k) (read_town g) ps).asked) ∙ rw (← o) m in
        let a = asked_at g ps t (member_mem t (walks E k (queue E O k) (read_town g) ps).asked asked) in
        let p = a.0 in
        let home = all_mem (Within O) hs a.1 in
        let d = asked_differs E O k L p home g ag t a.2 in
        let g' = refill G g t d.filling in
        let l = first_length E k L p home g' d.agrees ∙ sym (first_length E k L p home g ag) in
        record {
          filling = d.filling;
          another = d.another;
          agrees = d.agrees;
          stop = p;
          served = a.1;
          differs = λ e. d.differs (unpad k (first_of E k p g') (first_of E k p g) l (first_short E k p g') e);
        }

    pub changes_opened : (g : Town G) → Fits E read opened g → (t : ℕ) → Changes E k g ps t → member t opened ≡ true
    unfolding fullSearch
    changes_opened g f t c = by_test (member t opened) (λ e. e) (λ e. absurd (c.differs (ap (padded k) (same e))))
      where
        g' : Town G
        g' = refill G g t c.filling

        fits : member t opened ≡ false → Fits E read opened g'
        fits e = record {
          directory = c.agrees;
          blocks = mem_all opened (λ u m. by_test (eqb u t)
              (λ i. clash (mem_member t opened (subst (λ (v : ℕ). Memᴰ v opened) (eqb-true u t i) m)) e)
              (λ i. all_mem (λ v. read v ≡ accepted (g v)) f.blocks m
              ∙ ap accepted (sym (refill_there E g t c.filling u i))));
        }

        same : member t opened ≡ false → first_of E k c.stop g' ≡ first_of E k c.stop g
        same e =
            map_at (λ p. first_of E k p g') (λ p. first_of E k p g) (sym (answer-lists g' (fits e)) ∙ answer-lists g f)
            c.served
