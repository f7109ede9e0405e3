-- Sorting by a test: the sorted list does not depend on the order given, and what stands behind k others does not
-- change the first k.
use Prim.Native.Nat.{ℕ, zero, suc, ◌+◌, ◌≤◌, ◌<◌}
use mathlib.Core.Bool.{Bool, true, false, cond}
use mathlib.Core.List.Permᴰ
use mathlib.Core.List.{List, [], ◌∷◌, ◌++◌, Memᴰ, Permᴰ}
use mathlib.Core.Path.{◌≡◌, refl, sym, ap, ◌∙◌}
use native.Mathlib.Omega.{arith}
use lib.ListN.{length, take}
use Rattle.base.proofs.Tests.{clash, by_test}
use Rattle.search.specs.Lists.{bit, count, filter, All, Distinct}
use Rattle.search.specs.Inner.Cut.{Sorted}
use Rattle.search.specs.Order.{insert, sort, Strict}
use Rattle.search.proofs.Lists.{all_map, all_both, all_mem, all_perm, mem_perm, count-append, count_none}
use Rattle.search.proofs.Lists.{filter-all}

-- a strict order with ties, as a test; `Tight`: no ties among what P holds of
pub record Order {A : Type 0} (lt : A → A → Bool) : Type 0 where
  pub asym : (a b : A) → lt a b ≡ true → lt b a ≡ false
  pub negtrans : (a b c : A) → lt a b ≡ false → lt b c ≡ false → lt a c ≡ false

abbrev pub Tight : {A : Type 0} → (A → A → Bool) → (A → Type 0) → Type 0
Tight {A} lt P = (a b : A) → P a → P b → lt a b ≡ false → lt b a ≡ false → a ≡ b

take-cons-take : {A : Type 0} (k : ℕ) (y : A) (l : List A) → take k (y ∷ take k l) ≡ take k (y ∷ l)
take-cons-take zero y l = refl
take-cons-take (suc k) y [] = refl
take-cons-take (suc k) y (x ∷ l) = ap (λ r. y ∷ r) (take-cons-take k x l)

module _ {A : Type 0} (lt : A → A → Bool) where
  count-insert : (p : A → Bool) (x : A) (l : List A) → count p (insert lt x l) ≡ bit (p x) + count p l
  unfolding count insert
  count-insert p x [] = refl
  count-insert p x (y ∷ l) = by_test (lt y x) (λ e. rw e (let ih = count-insert p x l in omega arith)) (λ e. rw e)

  pub count-sort : (p : A → Bool) (l : List A) → count p (sort lt l) ≡ count p l
  unfolding count sort
  count-sort p [] = refl
  count-sort p (x ∷ l) = count-insert p x (sort lt l) ∙ ap (λ (n : ℕ). bit (p x) + n) (count-sort p l)

  -- cutting before an insertion changes nothing in the cut
  pub insert-cut : (k : ℕ) (x : A) (l : List A) → take k (insert lt x (take k l)) ≡ take k (insert lt x l)
  unfolding insert
  insert-cut zero x l = refl
  insert-cut (suc k) x [] = refl
  insert-cut (suc k) x (y ∷ l) = by_test (lt y x)
      (λ e. rw e (ap (λ (r : List A). y ∷ r) (insert-cut k x l)))
      (λ e. rw e (ap (λ (r : List A). x ∷ r) (take-cons-take k y l)))

  -- a permutation of the list: insertion sort only moves elements
  insert_perm : (x : A) (l : List A) → Permᴰ (insert lt x l) (x ∷ l)
  unfolding insert
  insert_perm x [] = Permᴰ.refl (x ∷ [])
  insert_perm x (y ∷ l) = by_test (lt y x)
      (λ e. rw e (Permᴰ.trans (Permᴰ.cons refl (insert_perm x l)) (Permᴰ.swap refl refl)))
      (λ e. rw e (Permᴰ.refl (x ∷ y ∷ l)))

  pub insert-length : (x : A) (l : List A) → length (insert lt x l) ≡ suc (length l)
  unfolding insert
  insert-length x [] = refl
  insert-length x (y ∷ l) = by_test (lt y x) (λ e. rw e (ap suc (insert-length x l))) (λ e. rw e)

  pub sort_is_perm : (l : List A) → Permᴰ (sort lt l) l
  unfolding sort
  sort_is_perm [] = Permᴰ.nil
  sort_is_perm (x ∷ l) = Permᴰ.trans (insert_perm x (sort lt l)) (Permᴰ.cons refl (sort_is_perm l))

  pub sort-length : (l : List A) → length (sort lt l) ≡ length l
  unfolding sort
  sort-length [] = refl
  sort-length (x ∷ l) = insert-length x (sort lt l) ∙ ap suc (sort-length l)

  pub sorted_right : (l m : List A) → Sorted lt (l ++ m) → Sorted lt m
  sorted_right [] m h = h
  sorted_right (x ∷ l) m h = sorted_right l m h.1

module _ {A : Type 0} (lt : A → A → Bool) (o : Order lt) where
  pub order_irrefl : (a : A) → lt a a ≡ false
  order_irrefl a = by_test (lt a a) (λ e. o.asym a a e) (λ e. e)

  all_insert : (P : A → Type 0) (x : A) (l : List A) → P x → All P l → All P (insert lt x l)
  all_insert P x l h g = all_perm P (Permᴰ.symm (insert_perm lt x l)) (h, g)

  pub insert-sorted : (x : A) (l : List A) → Sorted lt l → Sorted lt (insert lt x l)
  unfolding insert
  insert-sorted x [] h = (tt, tt)
  insert-sorted x (y ∷ l) h = by_test (lt y x)
      (λ e. rw e (all_insert (λ z. lt z y ≡ false) x l (o.asym y x e) h.0, insert-sorted x l h.1))
      (λ e. rw e ((e, all_map l (λ z g. o.negtrans z y x g e) h.0), h))

  pub sort_sorted : (l : List A) → Sorted lt (sort lt l)
  unfolding sort
  sort_sorted [] = tt
  sort_sorted (x ∷ l) = insert-sorted x (sort lt l) (sort_sorted l)

  -- ---- sorting and testing

  insert_first : (x : A) (l : List A) → All (λ y. lt y x ≡ false) l → insert lt x l ≡ x ∷ l
  unfolding insert
  insert_first x [] h = refl
  insert_first x (y ∷ l) h = rw h.0

  filter-insert : (q : A → Bool) (x : A) (l : List A) → Sorted lt l
      → filter q (insert lt x l) ≡ cond (q x) (insert lt x (filter q l)) (filter q l)
  unfolding insert filter
  filter-insert q x [] s = refl
  filter-insert q x (y ∷ l) s =
      let ih = filter-insert q x l s.1 in
      by_test (lt y x)
      (λ e. by_test (q y)
      (λ f. by_test (q x)
      (λ g. rw (e, f, g) (rw e (ap (λ r. y ∷ r) (rw g at ih))))
      (λ g. rw (e, f, g) (ap (λ r. y ∷ r) (rw g at ih))))
      (λ f. rw (e, f) ih))
      (λ e.
      let late = all_map l (λ z g. o.negtrans z y x g e) s.0 in
      let here = insert_first x (filter q (y ∷ l)) (filter-all (λ z. lt z x ≡ false) q (y ∷ l) (e, late)) in
      rw e (by_test (q x) (λ g. rw g (sym here)) (λ g. rw g)))

  -- what passes a test, sorted
  pub sort-filter : (q : A → Bool) (l : List A) → filter q (sort lt l) ≡ sort lt (filter q l)
  unfolding sort filter
  sort-filter q [] = refl
  sort-filter q (x ∷ l) =
      let ih = sort-filter q l in
      filter-insert q x (sort lt l) (sort_sorted l) ∙ by_test (q x) (λ e. rw (e, ih)) (λ e. rw (e, ih))

  -- what is behind k elements of a sorted list is inserted past them
  insert-behind : (k : ℕ) (x : A) (l : List A) → Sorted lt l → k ≤ count (λ y. lt y x) l
      → take k (insert lt x l) ≡ take k l
  unfolding insert count
  insert-behind zero x l s h = refl
  insert-behind (suc k) x [] s h = absurd (omega arith)
  insert-behind (suc k) x (y ∷ l) s h = by_test (lt y x)
      (λ e. rw e (ap (λ (r : List A). y ∷ r) (insert-behind k x l s.1 (let g = rw e at h in omega arith))))
      (λ e. absurd (let g = rw e at h in let z =
      count_none (λ a. lt a x) l (all_map l (λ a f. o.negtrans a y x f e) s.0) in omega arith))

  -- what is behind k of xs adds nothing to the first k
  pub behind : (k : ℕ) (ys xs : List A) → All (λ y. k ≤ count (λ x. lt x y) xs) ys
      → take k (sort lt (ys ++ xs)) ≡ take k (sort lt xs)
  unfolding sort
  behind k [] xs h = refl
  behind k (y ∷ ys) xs h =
      let g : k ≤ count (λ x. lt x y) (sort lt (ys ++ xs)) =
      rw (count-sort lt (λ x. lt x y) (ys ++ xs), count-append (λ x. lt x y) ys xs) (let u = h.0 in omega arith) in
      insert-behind k y (sort lt (ys ++ xs)) (sort_sorted (ys ++ xs)) g ∙ behind k ys xs h.1

  -- The cut list knows whether k are ahead: a test that holds of what is ahead of an element that passes it
  pub count_cut : (k : ℕ) (p : A → Bool) → ((a b : A) → lt b a ≡ false → p b ≡ true → p a ≡ true) → (l : List A)
      → Sorted lt l
      → k ≤ count p l → count p (take k l) ≡ k
  unfolding count
  count_cut zero p d l s h = refl
  count_cut (suc k) p d [] s h = absurd (omega arith)
  count_cut (suc k) p d (x ∷ l) s h = by_test (p x)
      (λ e. rw e (let g = rw e at h in let ih = count_cut k p d l s.1 (omega arith) in omega arith))
      (λ e. absurd (let g = rw e at h in let z =
      count_none p l (all_map l (λ a f. by_test (p a) (λ u. clash (d x a f u) e) (λ u. u)) s.0) in omega arith))

  between : (x y z : A) → lt z x ≡ true → lt z y ≡ false → lt y x ≡ true
  between x y z e f = by_test (lt y x) (λ g. g) (λ g. clash e (o.negtrans z y x f g))

module _ {A : Type 0} (lt : A → A → Bool) where
  pub insert_skip : (x y : A) (l : List A) → lt y x ≡ true → insert lt x (y ∷ l) ≡ y ∷ insert lt x l
  unfolding insert
  insert_skip x y l e = rw e

  pub insert_stop : (x y : A) (l : List A) → lt y x ≡ false → insert lt x (y ∷ l) ≡ x ∷ y ∷ l
  unfolding insert
  insert_stop x y l e = rw e

  tip : (x : A) → insert lt x [] ≡ x ∷ []
  unfolding insert
  tip x = refl

module _ {A : Type 0} (lt : A → A → Bool) (o : Order lt) (P : A → Type 0) (tight : Tight lt P) where
  -- of two that go ahead of all the rest
  two : (x y : A) (m : List A) → P x → P y → insert lt x m ≡ x ∷ m → insert lt y m ≡ y ∷ m
      → insert lt x (y ∷ m) ≡ insert lt y (x ∷ m)
  two x y m px py p q = by_test (lt y x)
      (λ g. let a = o.asym y x g in simp (insert_skip, insert_stop, p))
      (λ g. by_test (lt x y) (λ a. simp (insert_skip, insert_stop, q)) (λ a. rw (tight x y px py a g)))

  insert_comm : (x y : A) (l : List A) → P x → P y → insert lt x (insert lt y l) ≡ insert lt y (insert lt x l)
  insert_comm x y [] px py = simp tip (two x y [] px py (tip lt x) (tip lt y))
  insert_comm x y (z ∷ l) px py = by_test (lt z x)
      (λ e. by_test (lt z y)
      (λ f. simp (insert_skip, insert_comm x y l px py))
      (λ f. let g = between lt o x y z e f in simp (insert_skip, insert_stop)))
      (λ e. by_test (lt z y)
      (λ f. let g = between lt o y x z f e in simp (insert_skip, insert_stop))
      (λ f. simp insert_stop (two x y (z ∷ l) px py (insert_stop lt x z l e) (insert_stop lt y z l f))))

  -- the order of the list to be sorted does not matter
  pub sort_perm : {l m : List A} → Permᴰ l m → All P l → sort lt l ≡ sort lt m
  unfolding sort
  sort_perm Permᴰ.nil h = refl
  sort_perm (Permᴰ.cons {a = a} e d) h = rw (← e) (ap (insert lt a) (sort_perm d h.1))
  sort_perm (Permᴰ.swap {a = a} {b = b} {l = l} e f) h =
      rw (← e, ← f) (insert_comm a b (sort lt l) h.0 h.1.0)
  sort_perm (Permᴰ.trans d e) h = sort_perm d h ∙ sort_perm e (all_perm P d h)

  -- what is behind fewer than k is among the first k
  listed_sorted : (k : ℕ) (x : A) {l : List A} → P x → All P l → Sorted lt l → Memᴰ x l → count (λ y. lt y x) l < k
      → Memᴰ x (take k l)
  unfolding count
  listed_sorted zero x px pl s m h = absurd (omega arith)
  listed_sorted (suc k) x px pl s (Memᴰ.head e) h = Memᴰ.head e
  listed_sorted (suc k) x px pl s (Memᴰ.tail {x = y} {xs = l} m) h = by_test (lt y x)
      (λ e. Memᴰ.tail (listed_sorted k x px pl.1 s.1 m (let g = rw e at h in omega arith)))
      (λ e. Memᴰ.head (tight x y px pl.0 (all_mem (λ z. lt z y ≡ false) s.0 m) e))

  pub listed : (k : ℕ) (x : A) (l : List A) → All P l → Memᴰ x l → count (λ y. lt y x) l < k
      → Memᴰ x (take k (sort lt l))
  listed k x l pl m h =
      let back = Permᴰ.symm (sort_is_perm lt l) in
      listed_sorted k x (all_mem P pl m) (all_perm P back pl) (sort_sorted lt o l) (mem_perm x back m)
      (rw (count-sort lt (λ y. lt y x) l) h)

  -- ---- sorted lists without ties

  pub strictly : (l : List A) → All P l → Sorted lt l → Distinct l → Strict lt l
  strictly [] pl s d = tt
  strictly (x ∷ l) pl s d = (
    all_both (λ z. P z × (lt z x ≡ false)) (λ z. z ≡ x → ⊥) (λ z. lt x z ≡ true) l
        (λ z f n. by_test (lt x z) (λ e. e) (λ e. absurd (n (tight z x f.0 pl.0 f.1 e))))
        (all_both P (λ z. lt z x ≡ false) _ l (λ z f g. (f, g)) pl.1 s.0) d.0,
    strictly l pl.1 s.1 d.1,
  )
