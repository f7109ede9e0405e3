-- Marks and the counts that a result carries; the k places of a stop; the stops' places one after another.
use Prim.Native.Nat.{ℕ, zero, suc, ◌+◌, ◌*◌, ◌≤◌, ◌<◌}
use mathlib.Core.Bool.{Bool, true, false}
use mathlib.Core.List.{List, [], ◌∷◌, ◌++◌, map, head-eq_of_cons-eq, tail-eq_of_cons-eq}
use mathlib.Core.Logic.{◌↔◌}
use mathlib.Core.Path.{◌≡◌, refl, sym, ap, ◌∙◌}
use native.Mathlib.Nat.{zero-mul, suc-mul, zero-add}
use native.Mathlib.Omega.{arith}
use lib.Dec.{eqb}
use lib.ListN.{length, take, get_or, replicate, length-append, length-take, length-replicate, get_or-append}
use lib.Seq.{get_or-append-add, get_or-take}
use Rattle.base.proofs.Tests.{clash, by_test}
use Rattle.search.specs.Lists.{range, count, filter, member, All, Distinct}
use Rattle.search.specs.Plan.{Geometry, Directory}
use Rattle.search.specs.Pruning.{pruned, pruned_count}
use Rattle.search.specs.Run.{Place, no_place, padded, in_rows, mark, marks, opened_mark, pruned_mark, no_mark}
use Rattle.search.proofs.Lists.{all_any, all_mem, count-all, count_perm, filter_passes, filter_mem}
use Rattle.search.proofs.Lists.{get_d_map_lt, range_length, range_get_d}
use Rattle.search.proofs.Lists.{filter-distinct, range_mem, range-distinct, member_mem, mem_member}
use Rattle.search.proofs.Lists.{same_elements}

count_map : {A B : Type 0} (p : B → Bool) (f : A → B) (l : List A) → count p (map f l) ≡ count (λ x. p (f x)) l
unfolding count
count_map p f [] = refl
count_map p f (x ∷ l) = let ih = count_map p f l in omega arith

pub count_same : {A : Type 0} (p q : A → Bool) (l : List A) → All (λ x. p x ≡ q x) l → count p l ≡ count q l
unfolding count
count_same p q [] h = refl
count_same p q (x ∷ l) h = rw h.0 (let ih = count_same p q l h.1 in omega arith)

count-filter : {A : Type 0} (q : A → Bool) (l : List A) → count q l ≡ length (filter q l)
unfolding count filter
count-filter q [] = refl
count-filter q (x ∷ l) = let ih = count-filter q l in by_test (q x) (λ e. rw e (omega arith)) (λ e. rw e (omega arith))

-- of the first n numbers as many stand in a list as it is long, if it has no repeats and nothing else
count_members : (n : ℕ) (l : List ℕ) → Distinct l → All (λ t. t < n) l → count (λ t. member t l) (range 0 n) ≡ length l
count_members n l d h =
    let q : ℕ → Bool = λ t. member t l in
    let f = filter q (range 0 n) in
    let e = same_elements f l (filter-distinct q (range 0 n) (range-distinct 0 n)) d
    (λ t m. member_mem t l (all_mem (λ u. member u l ≡ true) (filter_passes q (range 0 n)) m))
    (λ t m. filter_mem q (range_mem t 0 n (omega arith) (let u = all_mem (λ v. v < n) h m in omega arith))
    (mem_member t l m)) in
    let size : (m : List ℕ) → count (λ t. true) m ≡ length m =
    λ m. count-all (λ t. true) m (all_any (λ t. true ≡ true) m (λ t. refl)) in
    count-filter q (range 0 n) ∙ sym (size f) ∙ count_perm (λ t. true) e ∙ size l

module _ {G : Geometry} (E : Directory G) (O : G.Box) (k : ℕ) where
  open E use {tiles}

  -- ---- marks

  module _ (opened : List ℕ) where
    two : (t : ℕ) → eqb (mark E O k opened t) opened_mark ≡ member t opened
    unfolding mark
    two t = by_test (member t opened) (λ e. rw e) (λ e. by_test (pruned E O k t) (λ s. rw (e, s)) (λ s. rw (e, s)))

    pub marks_at : (t : ℕ) → t < tiles → get_or (marks E O k opened) t 0 ≡ mark E O k opened t
    unfolding marks
    marks_at t h = get_d_map_lt (mark E O k opened) (range 0 tiles) t 0 0 (rw range_length h)
        ∙ ap (mark E O k opened) (range_get_d 0 tiles t h ∙ zero-add t)

    pub mark_opened : (t : ℕ) → (mark E O k opened t ≡ opened_mark) ↔ (member t opened ≡ true)
    unfolding mark
    mark_opened t = (λ h. sym (two t) ∙ rw h, λ h. rw h)

    pub mark_neither : (t : ℕ)
        → (mark E O k opened t ≡ no_mark) ↔ ((member t opened ≡ false) × (pruned E O k t ≡ false))
    unfolding mark
    mark_neither t = (
      λ h. by_test (member t opened)
          (λ e. absurd (omega (arith, rw e at h)))
          (λ e. by_test (pruned E O k t) (λ s. absurd (omega (arith, rw (e, s) at h))) (λ s. (e, s))),
      λ h. rw (h.0, h.1),
    )

    pub marks_opened : Distinct opened → All (λ t. t < tiles) opened
        → count (λ m. eqb m opened_mark) (marks E O k opened) ≡ length opened
    unfolding marks
    marks_opened d h =
        count_map (λ m. eqb m opened_mark) (mark E O k opened) (range 0 tiles)
        ∙ count_same (λ t. eqb (mark E O k opened t) opened_mark) (λ t. member t opened) (range 0 tiles)
        (all_any (λ t. eqb (mark E O k opened t) opened_mark ≡ member t opened) (range 0 tiles) two)
        ∙ count_members tiles opened d h

    module _ (unpruned : All (λ t. pruned E O k t ≡ false) opened) where
      one : (t : ℕ) → eqb (mark E O k opened t) pruned_mark ≡ pruned E O k t
      unfolding mark
      one t = by_test (member t opened)
          (λ e. rw (e, all_mem (λ u. pruned E O k u ≡ false) unpruned (member_mem t opened e)))
          (λ e. by_test (pruned E O k t) (λ s. rw (e, s)) (λ s. rw (e, s)))

      pub mark_pruned : (t : ℕ) → (mark E O k opened t ≡ pruned_mark) ↔ (pruned E O k t ≡ true)
      unfolding mark
      mark_pruned t = (
        λ h. sym (one t) ∙ rw h,
        λ h. by_test (member t opened) (λ e. clash h
            (all_mem (λ u. pruned E O k u ≡ false) unpruned (member_mem t opened e)))
            (λ e. rw (e, h)),
      )

      pub marks_pruned : count (λ m. eqb m pruned_mark) (marks E O k opened) ≡ pruned_count E O k
      unfolding marks pruned_count
      marks_pruned =
          count_map (λ m. eqb m pruned_mark) (mark E O k opened) (range 0 tiles)
          ∙ count_same (λ t. eqb (mark E O k opened t) pruned_mark) (pruned E O k) (range 0 tiles)
          (all_any (λ t. eqb (mark E O k opened t) pruned_mark ≡ pruned E O k t) (range 0 tiles) one)

-- ---- places

same_front : {A : Type 0} (a b c d : List A) (n : ℕ) → length a ≡ length b → length a ≤ n
    → take n (a ++ c) ≡ take n (b ++ d) → a ≡ b
same_front [] [] c d n l h e = refl
same_front [] (y ∷ b) c d n l h e = absurd (omega arith)
same_front (x ∷ a) [] c d n l h e = absurd (omega arith)
same_front (x ∷ a) (y ∷ b) c d zero l h e = absurd (omega arith)
same_front (x ∷ a) (y ∷ b) c d (suc n) l h e =
    rw (head-eq_of_cons-eq e, same_front a b c d n (omega arith) (omega arith) (tail-eq_of_cons-eq e))

module _ (k : ℕ) where
  pub padded-length : (l : List Place) → length (padded k l) ≡ k
  unfolding padded
  padded-length l =
      let zeros : List Place = replicate k no_place in
      let a = length-take k (l ++ zeros) in
      let b = length-append l zeros in
      let c = length-replicate {A = Place} k no_place in
      omega arith

  -- a used place
  pub padded_used : (l : List Place) (j : ℕ) (d : Place) → j < length l → j < k → get_or (padded k l) j d ≡ get_or l j d
  unfolding padded
  padded_used l j d h i = get_or-take k (l ++ replicate k no_place) j d i ∙ get_or-append l (replicate k no_place) d j h

  -- padding loses nothing of lists of one length
  pub unpad : (a b : List Place) → length a ≡ length b → length a ≤ k → padded k a ≡ padded k b → a ≡ b
  unfolding padded
  unpad a b l h e = same_front a b (replicate k _) (replicate k _) k l h e

  -- place j of stop i
  pub in_rows_at : (ls : List (List Place)) (i j : ℕ) (d : Place) → i < length ls → j < k
      → get_or (in_rows k ls) (i * k + j) d ≡ get_or (padded k (get_or ls i [])) j d
  unfolding in_rows
  in_rows_at [] i j d h g = absurd (omega arith)
  in_rows_at (l ∷ ls) zero j d h g =
      let e : 0 * k + j ≡ j = ap (λ (n : ℕ). n + j) (zero-mul k) ∙ zero-add j in
      let f = padded-length l in
      rw e (get_or-append (padded k l) (in_rows k ls) d j (omega arith))
  in_rows_at (l ∷ ls) (suc i) j d h g =
      let f = padded-length l in
      let m = suc-mul i k in
      let e : suc i * k + j ≡ length (padded k l) + (i * k + j) = omega arith in
      rw e (get_or-append-add (padded k l) (in_rows k ls) (i * k + j) d ∙ in_rows_at ls i j d (omega arith) g)

  pub in_rows-length : (ls : List (List Place)) → length (in_rows k ls) ≡ length ls * k
  unfolding in_rows
  in_rows-length [] = sym (zero-mul k)
  in_rows-length (l ∷ ls) =
      let ih = in_rows-length ls in
      let f = padded-length l in
      let m = suc-mul (length ls) k in
      let e = length-append (padded k l) (in_rows k ls) in
      omega arith
