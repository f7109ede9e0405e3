-- Laws of lists: properties of all elements, counts, filters, membership, rearrangement.
use Prim.Native.Nat.{ℕ, zero, suc, ◌+◌, ◌≤◌, ◌<◌}
use mathlib.Core.Bool.{Bool, true, false, not, ◌&&◌, ◌||◌}
use mathlib.Core.List.Permᴰ
use mathlib.Core.List.{List, [], ◌∷◌, ◌++◌, map, Memᴰ, Permᴰ}
use mathlib.Core.Logic.{◌⊎◌, inl, inr, ◌≢◌}
use mathlib.Core.Path.{◌≡◌, refl, sym, ap, ◌∙◌, subst}
use native.Mathlib.Nat.{add-zero}
use native.Mathlib.Omega.{arith}
use lib.Dec.{eqb, ltb}
use lib.ListN.{length, get_or, take}
use borrow.Author.Tests.{ltb-true, ltb-false, eqb-true, eqb-false, eq-eqb}
use Rattle.base.proofs.Tests.{clash, by_test}
use Rattle.search.specs.Lists.{range, count, total, filter, member, All, Distinct}

-- ---- a property of every index: from one to before another, and of that one

pub up_to_next : (P : ℕ → Type 0) (from i : ℕ) → ((j : ℕ) → from ≤ j → j < i → P j) → P i → (j : ℕ) → from ≤ j
    → j < i + 1 → P j
up_to_next P from i before here j l u =
    by_test (ltb j i)
    (λ t. before j l (ltb-true j i t))
    (λ t.
    let e : j ≡ i = omega (arith, ltb-false j i t) in
    rw e here)

-- ---- a property of every element

pub all_map : {A : Type 0} {P Q : A → Type 0} (l : List A) → ((a : A) → P a → Q a) → All P l → All Q l
all_map [] f h = tt
all_map (x ∷ l) f h = (f x h.0, all_map l f h.1)

pub all_any : {A : Type 0} (P : A → Type 0) (l : List A) → ((a : A) → P a) → All P l
all_any P [] f = tt
all_any P (x ∷ l) f = (f x, all_any P l f)

pub all_both : {A : Type 0} (P Q R : A → Type 0) (l : List A) → ((a : A) → P a → Q a → R a) → All P l → All Q l
    → All R l
all_both P Q R [] f h g = tt
all_both P Q R (x ∷ l) f h g = (f x h.0 g.0, all_both P Q R l f h.1 g.1)

pub all_get_d : {A : Type 0} (P : A → Type 0) (l : List A) (i : ℕ) (d : A) → i < length l → All P l → P (get_or l i d)
all_get_d P [] i d h a = absurd (omega arith)
all_get_d P (x ∷ l) zero d h a = a.0
all_get_d P (x ∷ l) (suc i) d h a = all_get_d P l i d (omega arith) a.1

pub all_empty : {A : Type 0} (P : A → Type 0) (l : List A) → length l ≡ 0 → All P l
all_empty P [] e = tt
all_empty P (x ∷ l) e = absurd (omega arith)

pub all_append : {A : Type 0} (P : A → Type 0) (l m : List A) → All P l → All P m → All P (l ++ m)
all_append P [] m h g = g
all_append P (x ∷ l) m h g = (h.0, all_append P l m h.1 g)

pub all_left : {A : Type 0} (P : A → Type 0) (l m : List A) → All P (l ++ m) → All P l
all_left P [] m h = tt
all_left P (x ∷ l) m h = (h.0, all_left P l m h.1)

pub all_right : {A : Type 0} (P : A → Type 0) (l m : List A) → All P (l ++ m) → All P m
all_right P [] m h = h
all_right P (x ∷ l) m h = all_right P l m h.1

pub all_take : {A : Type 0} (P : A → Type 0) (n : ℕ) (l : List A) → All P l → All P (take n l)
all_take P zero l h = tt
all_take P (suc n) [] h = tt
all_take P (suc n) (x ∷ l) h = (h.0, all_take P n l h.1)

pub all_mem : {A : Type 0} (P : A → Type 0) {x : A} {l : List A} → All P l → Memᴰ x l → P x
all_mem P h (Memᴰ.head e) = subst P (sym e) h.0
all_mem P h (Memᴰ.tail m) = all_mem P h.1 m

pub mem_all : {A : Type 0} {P : A → Type 0} (l : List A) → ((x : A) → Memᴰ x l → P x) → All P l
mem_all [] f = tt
mem_all (x ∷ l) f = (f x (Memᴰ.head refl), mem_all l (λ y m. f y (Memᴰ.tail m)))

pub all_perm : {A : Type 0} (P : A → Type 0) {l m : List A} → Permᴰ l m → All P l → All P m
all_perm P Permᴰ.nil h = tt
all_perm P (Permᴰ.cons e d) h = (subst P e h.0, all_perm P d h.1)
all_perm P (Permᴰ.swap e f) h = (subst P f h.1.0, (subst P e h.0, h.1.1))
all_perm P (Permᴰ.trans d e) h = all_perm P e (all_perm P d h)

pub mem_perm : {A : Type 0} (x : A) {l m : List A} → Permᴰ l m → Memᴰ x l → Memᴰ x m
mem_perm {A = A} x Permᴰ.nil m = elim m [ ]
mem_perm x (Permᴰ.cons e d) (Memᴰ.head f) = Memᴰ.head (f ∙ e)
mem_perm x (Permᴰ.cons e d) (Memᴰ.tail m) = Memᴰ.tail (mem_perm x d m)
mem_perm x (Permᴰ.swap e f) (Memᴰ.head g) = Memᴰ.tail (Memᴰ.head (g ∙ e))
mem_perm x (Permᴰ.swap e f) (Memᴰ.tail (Memᴰ.head g)) = Memᴰ.head (g ∙ f)
mem_perm x (Permᴰ.swap e f) (Memᴰ.tail (Memᴰ.tail m)) = Memᴰ.tail (Memᴰ.tail m)
mem_perm x (Permᴰ.trans d e) m = mem_perm x e (mem_perm x d m)

-- ---- counts

pub count-append : {A : Type 0} (p : A → Bool) (l m : List A) → count p (l ++ m) ≡ count p l + count p m
unfolding count
count-append p [] m = omega arith
count-append p (x ∷ l) m = let ih = count-append p l m in omega arith

pub count_le : {A : Type 0} (p q : A → Bool) (l : List A) → All (λ a. p a ≡ true → q a ≡ true) l → count p l ≤ count q l
unfolding count
count_le p q [] h = omega arith
count_le p q (x ∷ l) h =
    let ih = count_le p q l h.1 in
    by_test (p x) (λ e. rw (e, h.0 e) (omega arith)) (λ e. rw e (omega arith))

-- a narrower test that misses one element
pub count_lt : {A : Type 0} (p q : A → Bool) {x : A} {l : List A} → All (λ a. p a ≡ true → q a ≡ true) l
    → Memᴰ x l → p x ≡ false → q x ≡ true → count p l < count q l
unfolding count
count_lt p q h (Memᴰ.head {xs = l} e) u v = let i = count_le p q l h.1 in rw (← e, u, v) (omega arith)
count_lt p q h (Memᴰ.tail {x = y} m) u v =
    let ih = count_lt p q h.1 m u v in
    by_test (p y) (λ e. rw (e, h.0 e) (omega arith)) (λ e. rw e (omega arith))

pub count_none : {A : Type 0} (p : A → Bool) (l : List A) → All (λ a. p a ≡ false) l → count p l ≡ 0
unfolding count
count_none p [] h = refl
count_none p (x ∷ l) h = rw h.0 (let ih = count_none p l h.1 in omega arith)

pub count-all : {A : Type 0} (p : A → Bool) (l : List A) → All (λ a. p a ≡ true) l → count p l ≡ length l
unfolding count
count-all p [] h = refl
count-all p (x ∷ l) h = rw h.0 (let ih = count-all p l h.1 in omega arith)

pub count_perm : {A : Type 0} (p : A → Bool) {l m : List A} → Permᴰ l m → count p l ≡ count p m
unfolding count
count_perm p Permᴰ.nil = refl
count_perm p (Permᴰ.cons e d) = let ih = count_perm p d in rw e (omega arith)
count_perm p (Permᴰ.swap e f) = rw (e, f) (omega arith)
count_perm p (Permᴰ.trans d e) = count_perm p d ∙ count_perm p e

pub total_le : {A : Type 0} (p q : A → Bool) (w : A → ℕ) (l : List A) → All (λ a. p a ≡ true → q a ≡ true) l
    → total p w l ≤ total q w l
unfolding total
total_le p q w [] h = omega arith
total_le p q w (x ∷ l) h =
    let ih = total_le p q w l h.1 in
    by_test (p x) (λ e. rw (e, h.0 e) (omega arith)) (λ e. rw e (omega arith))

-- the first element that passes a test, or none does
pub find : {A : Type 0} (q : A → Bool) (l : List A)
    → ((x : A) × Memᴰ x l × (q x ≡ true)) ⊎ All (λ x. q x ≡ false) l
find q [] = inr tt
find {A} q (x ∷ l) = by_test (q x) (λ e. inl (x, Memᴰ.head refl, e)) (λ e. go e (find q l))
  where
    go : q x ≡ false → ((y : A) × Memᴰ y l × (q y ≡ true)) ⊎ All (λ y. q y ≡ false) l
        → ((y : A) × Memᴰ y (x ∷ l) × (q y ≡ true)) ⊎ All (λ y. q y ≡ false) (x ∷ l)
    go e (inl s) = inl (s.0, Memᴰ.tail s.1, s.2)
    go e (inr a) = inr (e, a)

-- ---- what passes a test

pub filter-all : {A : Type 0} (P : A → Type 0) (q : A → Bool) (l : List A) → All P l → All P (filter q l)
unfolding filter
filter-all P q [] h = tt
filter-all P q (x ∷ l) h =
    by_test (q x) (λ e. rw e (h.0, filter-all P q l h.1)) (λ e. rw e (filter-all P q l h.1))

pub filter_passes : {A : Type 0} (q : A → Bool) (l : List A) → All (λ x. q x ≡ true) (filter q l)
unfolding filter
filter_passes q [] = tt
filter_passes q (x ∷ l) = by_test (q x) (λ e. rw e (e, filter_passes q l)) (λ e. rw e (filter_passes q l))

pub filter_mem : {A : Type 0} (q : A → Bool) {x : A} {l : List A} → Memᴰ x l → q x ≡ true
    → Memᴰ x (filter q l)
unfolding filter
filter_mem q (Memᴰ.head {x = y} e) h = rw (ap q (sym e) ∙ h) (Memᴰ.head e)
filter_mem q (Memᴰ.tail {x = y} m) h =
    by_test (q y) (λ e. rw e (Memᴰ.tail (filter_mem q m h))) (λ e. rw e (filter_mem q m h))

pub filter-append : {A : Type 0} (q : A → Bool) (l m : List A) → filter q (l ++ m) ≡ filter q l ++ filter q m
unfolding filter
filter-append q [] m = refl
filter-append q (x ∷ l) m = by_test (q x)
    (λ e. rw e (ap (λ r. x ∷ r) (filter-append q l m)))
    (λ e. rw e (filter-append q l m))

pub filter_id : {A : Type 0} (q : A → Bool) (l : List A) → All (λ x. q x ≡ true) l → filter q l ≡ l
unfolding filter
filter_id q [] h = refl
filter_id q (x ∷ l) h = rw h.0 (ap (λ r. x ∷ r) (filter_id q l h.1))

-- two tests that agree on the list
pub filter_same : {A : Type 0} (p q : A → Bool) (l : List A) → All (λ x. p x ≡ q x) l → filter p l ≡ filter q l
unfolding filter
filter_same p q [] h = refl
filter_same p q (x ∷ l) h = rw h.0
    (by_test (q x) (λ e. rw e (ap (λ r. x ∷ r) (filter_same p q l h.1))) (λ e. rw e (filter_same p q l h.1)))

-- one test after another
pub filter-filter : {A : Type 0} (p q : A → Bool) (l : List A) → filter p (filter q l) ≡ filter (λ x. p x && q x) l
unfolding filter
filter-filter p q [] = refl
filter-filter p q (x ∷ l) =
    let ih = filter-filter p q l in
    by_test (q x)
    (λ e. by_test (p x) (λ f. rw (e, f) (ap (λ r. x ∷ r) ih)) (λ f. rw (e, f) ih))
    (λ e. by_test (p x) (λ f. rw (e, f) ih) (λ f. rw (e, f) ih))

-- those that fail, then those that pass
pub filter_split : {A : Type 0} (q : A → Bool) (l : List A) → Permᴰ l (filter (λ x. not (q x)) l ++ filter q l)
unfolding filter
filter_split q [] = Permᴰ.nil
filter_split q (x ∷ l) = by_test (q x)
    (λ e. rw e (Permᴰ.trans (Permᴰ.cons refl (filter_split q l))
    (Permᴰ.symm (Permᴰ.middle x (filter (λ y. not (q y)) l) (filter q l)))))
    (λ e. rw e (Permᴰ.cons refl (filter_split q l)))

-- ---- ranges

pub range_below : (a n m : ℕ) → a + n ≤ m → All (λ t. t < m) (range a n)
range_below a zero m h = tt
range_below a (suc n) m h = (omega arith, range_below (suc a) n m (omega arith))

pub range_mem : (t a n : ℕ) → a ≤ t → t < a + n → Memᴰ t (range a n)
range_mem t a zero h l = absurd (omega arith)
range_mem t a (suc n) h l = by_test (eqb t a)
    (λ e. Memᴰ.head (eqb-true t a e))
    (λ e. let d : t ≢ a = eqb-false t a e in Memᴰ.tail (range_mem t (suc a) n (omega arith) (omega arith)))

pub range_above : (a n m : ℕ) → m ≤ a → All (λ t. m ≤ t) (range a n)
range_above a zero m h = tt
range_above a (suc n) m h = (h, range_above (suc a) n m (omega arith))

pub range-distinct : (a n : ℕ) → Distinct (range a n)
range-distinct a zero = tt
range-distinct a (suc n) = (
  all_map (range (suc a) n) (λ z h e. omega arith) (range_above (suc a) n (suc a) (omega arith)),
  range-distinct (suc a) n,
)

-- ---- membership as a test

pub member_mem : (t : ℕ) (l : List ℕ) → member t l ≡ true → Memᴰ t l
unfolding member
member_mem t [] e = clash e refl
member_mem t (u ∷ l) e = by_test (eqb t u)
    (λ f. Memᴰ.head (eqb-true t u f))
    (λ f. Memᴰ.tail (member_mem t l (rw f at e)))

pub mem_member : (t : ℕ) (l : List ℕ) → Memᴰ t l → member t l ≡ true
unfolding member
mem_member t l (Memᴰ.head {x = u} f) = rw (eq-eqb t u f)
mem_member t l (Memᴰ.tail {x = u} {xs = us} m) = by_test (eqb t u) (λ f. rw f) (λ f. rw f (mem_member t us m))

pub member-append : (t : ℕ) (l m : List ℕ) → member t (l ++ m) ≡ (member t l || member t m)
unfolding member
member-append t [] m = refl
member-append t (u ∷ l) m = by_test (eqb t u) (λ e. rw e) (λ e. rw e (member-append t l m))

-- ---- lists without repeats

pub filter-distinct : {A : Type 0} (q : A → Bool) (l : List A) → Distinct l → Distinct (filter q l)
unfolding filter
filter-distinct q [] d = tt
filter-distinct q (x ∷ l) d = by_test (q x)
    (λ e. rw e (filter-all (λ z. z ≡ x → ⊥) q l d.0, filter-distinct q l d.1))
    (λ e. rw e (filter-distinct q l d.1))

pub distinct_perm : {A : Type 0} {l m : List A} → Permᴰ l m → Distinct l → Distinct m
distinct_perm Permᴰ.nil d = tt
distinct_perm (Permᴰ.cons {a = a} {b = b} {l₁ = l} {l₂ = m} e q) d =
    (all_perm (λ z. z ≡ b → ⊥) q (all_map l (λ z f g. f (g ∙ sym e)) d.0), distinct_perm q d.1)
distinct_perm (Permᴰ.swap {a = a} {b = b} {a' = a'} {b' = b'} {l = l} e f) d = (
  (λ g. d.0.0 (f ∙ sym g ∙ sym e), all_map l (λ z h g. h (g ∙ sym f)) d.1.0),
  (all_map l (λ z h g. h (g ∙ sym e)) d.0.1, d.1.1),
)
distinct_perm (Permᴰ.trans q r) d = distinct_perm r (distinct_perm q d)

-- one more at the end that did not stand there
pub distinct_snoc : (l : List ℕ) (t : ℕ) → Distinct l → member t l ≡ false → Distinct (l ++ t ∷ [])
unfolding member
distinct_snoc [] t d e = (tt, tt)
distinct_snoc (x ∷ l) t d e = by_test (eqb t x)
    (λ f. clash refl (rw f at e))
    (λ f. (all_append (λ y. y ≡ x → ⊥) l (t ∷ []) d.0 (eqb-false t x f, tt), distinct_snoc l t d.1 (rw f at e)))

-- an element taken out
remove : {A : Type 0} {x : A} {l : List A} → Memᴰ x l → (m : List A) × Permᴰ l (x ∷ m)
remove (Memᴰ.head {xs = l} e) = (l, Permᴰ.cons (sym e) (Permᴰ.refl l))
remove (Memᴰ.tail {x = y} m) = let r = remove m in
    (y ∷ r.0, Permᴰ.trans (Permᴰ.cons refl r.1) (Permᴰ.swap refl refl))

other : {A : Type 0} {l : List A} {x y : A} → Memᴰ y (x ∷ l) → (y ≡ x → ⊥) → Memᴰ y l
other (Memᴰ.head e) h = absurd (h e)
other (Memᴰ.tail m) h = m

-- two lists without repeats and with the same elements
pub same_elements : {A : Type 0} (l m : List A) → Distinct l → Distinct m → ((x : A) → Memᴰ x l → Memᴰ x m)
    → ((x : A) → Memᴰ x m → Memᴰ x l) → Permᴰ l m
same_elements [] [] d e f g = Permᴰ.nil
same_elements [] (y ∷ m) d e f g = elim (g y (Memᴰ.head refl)) [ ]
same_elements (x ∷ l) m d e f g =
    let r = remove (f x (Memᴰ.head refl)) in
    let c = distinct_perm r.1 e in
    Permᴰ.trans
    (Permᴰ.cons refl (same_elements l r.0 d.1 c.1
    (λ y h. other (mem_perm y r.1 (f y (Memᴰ.tail h))) (all_mem (λ z. z ≡ x → ⊥) d.0 h))
    (λ y h. other (g y (mem_perm y (Permᴰ.symm r.1) (Memᴰ.tail h))) (all_mem (λ z. z ≡ x → ⊥) c.0 h))))
    (Permᴰ.symm r.1)

-- ---- a list by index

pub get_d_map_lt : {A B : Type 0} (f : A → B) (l : List A) (i : ℕ) (d : B) (e : A) → i < length l
    → get_or (map f l) i d ≡ f (get_or l i e)
get_d_map_lt f [] i d e h = absurd (omega arith)
get_d_map_lt f (x ∷ l) zero d e h = refl
get_d_map_lt f (x ∷ l) (suc i) d e h = get_d_map_lt f l i d e (omega arith)

pub range_length : (a n : ℕ) → length (range a n) ≡ n
range_length a zero = refl
range_length a (suc n) = ap suc (range_length (suc a) n)

pub range_get_d : (a n i : ℕ) → i < n → get_or (range a n) i 0 ≡ a + i
range_get_d a zero i h = absurd (omega arith)
range_get_d a (suc n) zero h = sym (add-zero a)
range_get_d a (suc n) (suc i) h =
    let u : suc a + i ≡ a + suc i = omega arith in range_get_d (suc a) n i (omega arith) ∙ u
