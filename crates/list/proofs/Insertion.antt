-- Insertion from the back of a sorted list, and into a list cut at k. Assumes nothing.
use Prim.Native.Nat.{ℕ, suc, ◌<◌, ◌≤◌}
use mathlib.Core.Bool.{Bool, true, false}
use mathlib.Core.List.{List, [], ◌∷◌, ◌++◌}
use mathlib.Core.Path.{◌≡◌, refl, ap, ◌∙◌}
use native.Mathlib.Omega.{arith}
use lib.ListN.{length, take, length-append, length-take}
use lib.Seq.{take_all, take_at}
use Rattle.search.specs.Inner.Cut.{Sorted, inserts}
use Rattle.search.specs.Order.{insert}
use Rattle.base.proofs.Tests.{clash, by_test}
use Rattle.search.proofs.Cut.{sorted-take}
use Rattle.search.proofs.Lists.{all_right}
use Rattle.search.proofs.Sort.{Order, insert-length, insert-sorted}

module _ {A : Type 0} (lt : A → A → Bool) (x : A) where
  -- past a last element that is not ahead of x
  pub insert_back : (l : List A) (y : A) → lt y x ≡ false → insert lt x (l ++ y ∷ []) ≡ insert lt x l ++ y ∷ []
  unfolding insert
  insert_back [] y e = rw e
  insert_back (z ∷ l) y e = by_test (lt z x) (λ f. rw f (ap (λ r. z ∷ r) (insert_back l y e))) (λ f. rw f)

  pub insert-none : insert lt x [] ≡ x ∷ []
  unfolding insert
  insert-none = refl

  -- where the last element of a sorted list is ahead of x, x comes last
  module _ (o : Order lt) where
    pub insert_end : (l : List A) (y : A) → Sorted lt (l ++ y ∷ []) → lt y x ≡ true
        → insert lt x (l ++ y ∷ []) ≡ (l ++ y ∷ []) ++ x ∷ []
    unfolding insert
    insert_end [] y s e = rw e
    insert_end (z ∷ l) y s e = by_test (lt z x)
        (λ f. rw f (ap (λ r. z ∷ r) (insert_end l y s.1 e)))
        (λ f. clash e (o.negtrans y z x (all_right (λ w. lt w z ≡ false) l (y ∷ []) s.0).0 f))

  -- cut at k: with room for one more; full, and x behind the last; full, and the last falls off
  module _ (k : ℕ) where
    pub cut-room : (l : List A) → length l < k → inserts lt k (x ∷ []) l ≡ insert lt x l
    unfolding inserts
    cut-room l h = take_all k (insert lt x l) (omega (arith, insert-length lt x l))

    pub cut_stays : Order lt → (l : List A) (y : A) → suc (length l) ≡ k → Sorted lt (l ++ y ∷ []) → lt y x ≡ true
        → inserts lt k (x ∷ []) (l ++ y ∷ []) ≡ l ++ y ∷ []
    unfolding inserts
    cut_stays o l y n s e =
        rw (insert_end o l y s e) (take_at (l ++ y ∷ []) (x ∷ []) k (omega (arith, length-append l (y ∷ []))))

    pub cut_falls : (l : List A) (y : A) → suc (length l) ≡ k → lt y x ≡ false
        → inserts lt k (x ∷ []) (l ++ y ∷ []) ≡ insert lt x l
    unfolding inserts
    cut_falls l y n e = rw (insert_back l y e) (take_at (insert lt x l) (y ∷ []) k (insert-length lt x l ∙ n))

-- any number of elements put into a list of at most k: at most k, no fewer than before, and sorted
module _ {A : Type 0} (lt : A → A → Bool) (k : ℕ) where
  one-few : (x : A) (l : List A) → length l ≤ k
      → (length (take k (insert lt x l)) ≤ k) × (length l ≤ length (take k (insert lt x l)))
  one-few x l h =
      let n = length-take k (insert lt x l) in
      let m = insert-length lt x l in
      (omega arith, omega arith)

  pub inserts-few : (m l : List A) → length l ≤ k → length (inserts lt k m l) ≤ k
  unfolding inserts
  inserts-few [] l h = h
  inserts-few (x ∷ m) l h = inserts-few m (take k (insert lt x l)) (one-few x l h).0

  pub inserts_grow : (m l : List A) → length l ≤ k → length l ≤ length (inserts lt k m l)
  unfolding inserts
  inserts_grow [] l h = omega arith
  inserts_grow (x ∷ m) l h =
      let e = one-few x l h in
      let g = inserts_grow m (take k (insert lt x l)) e.0 in
      omega (arith, e.1)

  pub inserts-sorted : Order lt → (m l : List A) → Sorted lt l → Sorted lt (inserts lt k m l)
  unfolding inserts
  inserts-sorted o [] l s = s
  inserts-sorted o (x ∷ m) l s =
      inserts-sorted o m (take k (insert lt x l)) (sorted-take lt k (insert lt x l) (insert-sorted lt o x l s))
