-- A list cut at k as code keeps it: sites are put in one after another, and its last place tells whether k are ahead of
-- a key.
-- For the code of the join: its list and its end test are those of the walk.
use Prim.Native.Nat.{ℕ, zero, suc, ◌-◌, ◌≤◌, ◌<◌}
use mathlib.Core.Bool.{Bool, true, false, ◌&&◌}
use mathlib.Core.List.Permᴰ
use mathlib.Core.List.{List, [], ◌∷◌, ◌++◌, append-nil}
use mathlib.Core.Path.{◌≡◌, refl, sym, ap, ◌∙◌, subst}
use native.Mathlib.Omega.{arith}
use lib.Dec.{eqb, leb}
use lib.ListN.{length, take, get_or, length-take}
use lib.Seq.{take-nil}
use borrow.Author.Tests.{eqb-true, eq-eqb, leb-true, le-leb}
use Rattle.base.specs.Refusal.{accepted}
use Rattle.base.proofs.Outcomes.{by_outcome}
use Rattle.base.proofs.Tests.{and_both, both_and, by_test, iff_eq}
use Rattle.search.specs.Inner.Cut.{Sorted, inserts, last_ahead}
use Rattle.search.specs.Inner.Walk.{enter, walk_by, cut_walk, cut_walks}
use Rattle.search.specs.Lists.{count, All}
use Rattle.search.specs.Order.{lex, sort}
use Rattle.search.specs.Plan.{Geometry, Directory, near, Lawful, Town}
use Rattle.search.specs.Run.{tile_places, Reading, Place, no_place, rank, ahead_of, contents, Checked, queue, ahead}
use Rattle.search.specs.Run.{enough, join}
use Rattle.search.proofs.Equation.{Alike, join_walks}
use Rattle.search.proofs.Lists.{all_map, all_append, all_take, all_perm, count-all, all_get_d}
use Rattle.search.proofs.Pairs.{lex-tight, lex_coarse}
use Rattle.search.proofs.Places.{rank_order, Own, own_tight, known}
use Rattle.search.proofs.Queue.{queue_tiles}
use Rattle.search.proofs.Run.{contents_accepted}
use Rattle.search.proofs.Sort.{Order, Tight, insert-cut, sort_perm, sort_sorted, count_cut, count-sort}
use Rattle.search.proofs.Walk.{walk, cut, cut_out, walks, walks_same}

-- ---- putting in

-- the first k of what was found and of more: the more put into the first k of what was found
cut-append : {A : Type 0} (lt : A → A → Bool) (o : Order lt) (P : A
    → Type 0) (tight : Tight lt P) (k : ℕ) (l m : List A)
    → All P (l ++ m) → take k (sort lt (l ++ m)) ≡ inserts lt k m (take k (sort lt l))
unfolding inserts sort
cut-append lt o P tight k l [] h = rw append-nil
cut-append lt o P tight k l (x ∷ m) h =
    let d = Permᴰ.middle x l m in
    ap (take k) (sort_perm lt o P tight d h)
    ∙ cut-append lt o P tight k (x ∷ l) m (all_perm P d h)
    ∙ ap (inserts lt k m) (sym (insert-cut lt k x (sort lt l)))

-- ---- the end test

pub sorted-take : {A : Type 0} (lt : A → A → Bool) (k : ℕ) (l : List A) → Sorted lt l → Sorted lt (take k l)
sorted-take lt zero l h = tt
sorted-take lt (suc k) [] h = tt
sorted-take lt (suc k) (x ∷ l) h = (all_take (λ z. lt z x ≡ false) k l h.0, sorted-take lt k l h.1)

count_le_length : {A : Type 0} (p : A → Bool) (l : List A) → count p l ≤ length l
unfolding count
count_le_length p [] = omega arith
count_le_length p (x ∷ l) =
    let ih = count_le_length p l in by_test (p x) (λ e. rw e (omega arith)) (λ e. rw e (omega arith))

count-take : {A : Type 0} (p : A → Bool) (k : ℕ) (l : List A) → count p (take k l) ≤ count p l
unfolding count
count-take p zero l = omega arith
count-take p (suc k) [] = omega arith
count-take p (suc k) (x ∷ l) = let ih = count-take p k l in omega arith

count_full : {A : Type 0} (p : A → Bool) (l : List A) → length l ≤ count p l → All (λ a. p a ≡ true) l
unfolding count
count_full p [] h = tt
count_full p (x ∷ l) h =
    let c = count_le_length p l in
    by_test (p x) (λ e. (e, count_full p l (let g = rw e at h in omega arith)))
    (λ e. absurd (let g = rw e at h in omega arith))

-- `p` holds of what is not behind something that it holds of
module _ {A : Type 0} (lt : A → A → Bool) (o : Order lt) (p : A → Bool)
    (down : (a b : A) → lt b a ≡ false → p b ≡ true → p a ≡ true) where
  -- whether k pass is seen in the cut list
  cut_test : (k : ℕ) (s : List A) → Sorted lt s → leb k (count p (take k s)) ≡ leb k (count p s)
  cut_test k s h = iff_eq (leb k (count p (take k s))) (leb k (count p s))
      (λ e. le-leb k (count p s) (let g = leb-true k (count p (take k s)) e in let t = count-take p k s in omega arith))
      (λ e. rw (count_cut lt o k p down s h (leb-true k (count p s) e)) (le-leb k k (omega arith)))

  up : (s : List A) (j : ℕ) (d : A) → length s ≡ suc j → Sorted lt s → p (get_or s j d) ≡ true → All (λ a. p a ≡ true) s
  up [] j d e h t = tt
  up (x ∷ []) zero d e h t = (t, tt)
  up (x ∷ []) (suc j) d e h t = absurd (omega arith)
  up (x ∷ y ∷ s) zero d e h t = absurd (omega arith)
  up (x ∷ y ∷ s) (suc j) d e h t = let ih = up (y ∷ s) j d (omega arith) h.1 t in (down x y h.0.0 ih.0, ih)

  -- and by its last place alone
  last_test : (k : ℕ) (s : List A) (d : A) → 0 < k → Sorted lt s → length s ≤ k
      → leb k (count p s) ≡ (eqb (length s) k && p (get_or s (k - 1) d))
  last_test k s d pos h l =
      let c = count_le_length p s in
      iff_eq (leb k (count p s)) (eqb (length s) k && p (get_or s (k - 1) d))
      (λ e. let v = leb-true k (count p s) e in
      both_and (eq-eqb (length s) k (omega arith))
      (all_get_d (λ a. p a ≡ true) s (k - 1) d (omega arith) (count_full p s (omega arith))))
      (λ e. let b = and_both (eqb (length s) k) (p (get_or s (k - 1) d)) e in let n = eqb-true (length s) k b.0 in
      let u = count-all p s (up s (k - 1) d (omega arith) h b.1) in le-leb k (count p s) (omega arith))

module _ {G : Geometry} (E : Directory G) (O : G.Box) (k : ℕ) where
  open G use {Site, Stop, Within, min_dist}
  open E use {tiles, box}

  ahead_down : (p : Stop) (t : ℕ) (a b : Place) → rank b a ≡ false → ahead E p t b ≡ true → ahead E p t a ≡ true
  unfolding rank ahead ahead_of
  ahead_down p t a b e h = by_test (lex a.dist a.site b.dist b.site)
      (λ f. lex_coarse a.dist a.site b.dist b.site (min_dist p (box t)) t f h)
      (λ f. let q = lex-tight a.dist a.site b.dist b.site f e in rw (q.0, q.1) h)

  -- the cut list is full and its last place is ahead of the key exactly when k of what was found are
  full_enough : (p : Stop) (t : ℕ) (found : List Place) → 0 < k
      → last_ahead k (cut k found) (near E p t) t ≡ enough E k p t found
  unfolding last_ahead enough cut ahead
  full_enough p t found pos =
      let s = sort rank found in
      let h = sort_sorted rank rank_order found in
      let n = length-take k s in
      let last = last_test rank rank_order (ahead E p t) (ahead_down p t) k (take k s) no_place pos
      (sorted-take rank k s h)
      (omega arith) in
      sym last ∙ cut_test rank rank_order (ahead E p t) (ahead_down p t) k s h
      ∙ ap (leb k) (count-sort rank (ahead E p t) found)

  -- ---- the walk with the cut list alone

  module _ (L : Lawful E O) (read : Reading G) (checked : Checked E read) (pos : 0 < k) where
    abbrev g : Town G
    g = contents G read

    module _ (p : Stop) (home : Within O p) where
      own-listing : (t : ℕ) (f : List Site) → t < tiles → read t ≡ accepted f → All (Own E p g) (tile_places G p t f)
      own-listing t f h a =
          let c = contents_accepted E k read t f a in
          subst (λ (l : List Site). All (Own E p g) (tile_places G p t l)) c
          (all_map (tile_places G p t (g t)) (λ x i. i.own) (known E L p home g t (h, rw c (checked t f h a))))

      grow : (found here : List Place) → All (Own E p g) (found ++ here)
          → inserts rank k here (cut k found) ≡ cut k (found ++ here)
      unfolding cut
      grow found here o = sym (cut-append rank rank_order (Own E p g) (own_tight E p g) k found here o)

      cut-walk : (ts : List ℕ) (found : List Place) → All (λ t. t < tiles) ts → All (Own E p g) found
          → cut_walk E k read p ts (cut k found) ≡ record {
            asked = (walk E k read p ts found).asked;
            out = cut_out k (walk E k read p ts found).out;
          }
      unfolding walk_by enter
      cut-walk [] found h o = refl
      cut-walk (t ∷ ts) found h o = by_test (enough E k p t found)
          (λ e. rw (full_enough p t found pos, e))
          (λ e. by_outcome (read t)
          (λ f a.
          let here = tile_places G p t f in
          let n = all_append (Own E p g) found here o (own-listing t f h.0 a) in
          let c : inserts rank k here (cut k found) ≡ cut k (found ++ here) = grow found here n in
          rw (full_enough p t found pos, e, a, c, cut-walk ts (found ++ here) h.1 n))
          (λ n b a. rw (full_enough p t found pos, e, a)))

      stop-cut : cut_walk E k read p (queue E O k p) [] ≡ record {
        asked = (walk E k read p (queue E O k p) []).asked;
        out = cut_out k (walk E k read p (queue E O k p) []).out;
      }
      unfolding cut sort
      stop-cut = let e = cut-walk (queue E O k p) [] (queue_tiles E O k p) tt in rw (take-nil {A = Place} k) at e

    walks-cut : (ps : List Stop) → All (Within O) ps
        → cut_walks E k read (queue E O k) ps ≡ walks E k (queue E O k) read ps
    walks-cut ps hs = walks_same _ _ ps (all_map ps stop-cut hs)

    -- The join, from what code keeps: the lists are those of the cut walks, and the openings the tiles asked for,
    -- repeats removed.
    pub join-cut : (ps : List Stop) (hs : All (Within O) ps)
        → Alike [] (join E O k read ps) (cut_walks E k read (queue E O k) ps).asked
        (cut_walks E k read (queue E O k) ps).out
    join-cut ps hs = rw (walks-cut ps hs) (join_walks E O k L read checked ps hs)
