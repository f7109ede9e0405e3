-- Laws of lists: membership, what passes a test, the lowest number, one number taken out. Assumes nothing.
use Prim.Native.Nat.{ℕ, zero, suc, ◌≤◌, ◌<◌, min}
use mathlib.Core.Bool.{Bool, true, false, not}
use mathlib.Core.List.{List, [], ◌∷◌, Memᴰ}
use mathlib.Core.Path.{◌≡◌, refl, sym, ap, ◌∙◌}
use native.Mathlib.Omega.{arith}
use lib.Dec.{eqb, ltb}
use lib.ListN.{length, get_or, drop}
use borrow.Author.Tests.{ltb-true, ltb-false, eqb-true, eqb-false, eq-eqb, ne_eqb, not-true}
use Rattle.search.specs.Lists.{count, filter, All, Distinct}
use Rattle.base.proofs.Tests.{by_test}
use Rattle.search.proofs.Lists.{all_mem, mem_all, filter_mem, filter_id, filter-distinct}
use Rattle.sequence.specs.Sequence.{without, lowest_of}

-- ---- membership

pub not_nil : {X : Type 0} {x : ℕ} → Memᴰ x [] → X
not_nil m = elim m [ ]

-- of a list with a head: the head, or another
pub head_or : {X : Type 0} {x y : ℕ} {l : List ℕ} → Memᴰ x (y ∷ l) → (x ≡ y → X) → (Memᴰ x l → X) → X
head_or (Memᴰ.head e) f g = f e
head_or (Memᴰ.tail m) f g = g m

pub other : {x y : ℕ} {l : List ℕ} → Memᴰ y (x ∷ l) → (y ≡ x → ⊥) → Memᴰ y l
other m h = head_or m (λ e. absurd (h e)) (λ n. n)

pub at_mem : (l : List ℕ) (i : ℕ) → i < length l → Memᴰ (get_or l i 0) l
at_mem [] i h = absurd (omega arith)
at_mem (x ∷ l) zero h = Memᴰ.head refl
at_mem (x ∷ l) (suc i) h = Memᴰ.tail (at_mem l i (omega arith))

pub mem_drop : (i : ℕ) (l : List ℕ) {x : ℕ} → Memᴰ x (drop i l) → Memᴰ x l
mem_drop zero l m = m
mem_drop (suc i) [] m = m
mem_drop (suc i) (y ∷ l) m = Memᴰ.tail (mem_drop i l m)

-- ---- what passes a test

pub none_counted : (p : ℕ → Bool) {l : List ℕ} {a : ℕ} → count p l ≡ 0 → Memᴰ a l → p a ≡ false
unfolding count
none_counted p {l} {a} z m = by_test (p a) (λ e. absurd (go m e z)) (λ e. e)
  where
    go : {a : ℕ} {l : List ℕ} → Memᴰ a l → p a ≡ true → count p l ≡ 0 → ⊥
    go (Memᴰ.head {x = y} q) e z = let t : p y ≡ true = rw q at e in let k = rw t at z in omega arith
    go (Memᴰ.tail {x = y} m) e z = go m e (omega arith)

pub mem_filter : (q : ℕ → Bool) (l : List ℕ) {x : ℕ} → Memᴰ x (filter q l) → Memᴰ x l × (q x ≡ true)
unfolding filter
mem_filter q [] m = not_nil m
mem_filter q (y ∷ l) {x} m = by_test (q y)
    (λ e. head_or (rw e at m) (λ f. (Memᴰ.head f, ap q f ∙ e)) (λ n. later (mem_filter q l n)))
    (λ e. later (mem_filter q l (rw e at m)))
  where
    later : Memᴰ x l × (q x ≡ true) → Memᴰ x (y ∷ l) × (q x ≡ true)
    later r = (Memᴰ.tail r.0, r.1)

-- ---- the lowest number

pub lowest_mem : (x : ℕ) (l : List ℕ) → Memᴰ (lowest_of (x ∷ l)) (x ∷ l)
unfolding lowest_of
lowest_mem x [] = Memᴰ.head refl
lowest_mem x (y ∷ l) =
    let ih = lowest_mem y l in
    by_test (ltb x (lowest_of (y ∷ l)))
    (λ e. let h = ltb-true x (lowest_of (y ∷ l)) e in Memᴰ.head (omega arith))
    (λ e.
    let h = ltb-false x (lowest_of (y ∷ l)) e in
    let q : min x (lowest_of (y ∷ l)) ≡ lowest_of (y ∷ l) = omega arith in
    rw q (Memᴰ.tail ih))

pub lowest_le : (l : List ℕ) {x : ℕ} → Memᴰ x l → lowest_of l ≤ x
unfolding lowest_of
lowest_le [] m = not_nil m
lowest_le (y ∷ []) m = head_or m (λ e. omega arith) (λ n. not_nil n)
lowest_le (y ∷ z ∷ l) m = head_or m (λ e. omega arith) (λ n. let ih = lowest_le (z ∷ l) n in omega arith)

-- ---- one number taken out

pub mem_without : (t : ℕ) (l : List ℕ) {x : ℕ} → Memᴰ x (without t l) → Memᴰ x l × (x ≡ t → ⊥)
unfolding without
mem_without t l {x} m =
    let r = mem_filter (λ u. not (eqb u t)) l m in
    (r.0, eqb-false x t (not-true (eqb x t) r.1))

pub without_mem : (t : ℕ) (l : List ℕ) {x : ℕ} → Memᴰ x l → (x ≡ t → ⊥) → Memᴰ x (without t l)
unfolding without
without_mem t l {x} m n = filter_mem (λ u. not (eqb u t)) m (rw (ne_eqb x t n))

-- one that does not stand there
without-none : (t : ℕ) (l : List ℕ) → All (λ y. y ≡ t → ⊥) l → without t l ≡ l
unfolding without
without-none t l h =
    filter_id (λ u. not (eqb u t)) l (mem_all l (λ x m. rw (ne_eqb x t (all_mem (λ y. y ≡ t → ⊥) h m))))

without_head : (t x : ℕ) (l : List ℕ) → x ≡ t → without t (x ∷ l) ≡ without t l
unfolding without filter
without_head t x l e = rw (eq-eqb x t e)

without_tail : (t x : ℕ) (l : List ℕ) → (x ≡ t → ⊥) → without t (x ∷ l) ≡ x ∷ without t l
unfolding without filter
without_tail t x l e = rw (ne_eqb x t e)

pub length_without : (t : ℕ) {l : List ℕ} → Distinct l → Memᴰ t l → length l ≡ suc (length (without t l))
length_without t d (Memᴰ.head {x = x} {xs = l} e) =
    let k : without t (x ∷ l) ≡ l = without_head t x l (sym e) ∙ without-none t l (rw (sym e) at d.0) in
    rw k
length_without t d (Memᴰ.tail {x = x} {xs = l} m) =
    let ih = length_without t d.1 m in
    let n : x ≡ t → ⊥ = λ e. all_mem (λ y. y ≡ x → ⊥) d.0 m (sym e) in
    rw (without_tail t x l n) (ap suc ih)

pub without-distinct : (t : ℕ) (l : List ℕ) → Distinct l → Distinct (without t l)
unfolding without
without-distinct t l d = filter-distinct (λ u. not (eqb u t)) l d

-- a test that one number fails more
pub filter_less : (p q : ℕ → Bool) (t : ℕ) (l : List ℕ)
    → ((x : ℕ) → Memᴰ x l → (x ≡ t → ⊥) → q x ≡ p x) → q t ≡ false → filter q l ≡ without t (filter p l)
unfolding filter without
filter_less p q t [] h e = refl
filter_less p q t (x ∷ l) h e =
    let ih = filter_less p q t l (λ y m. h y (Memᴰ.tail m)) e in
    by_test (eqb x t)
    (λ f.
    let g : q x ≡ false = ap q (eqb-true x t f) ∙ e in
    by_test (p x) (λ k. rw (g, k) (rw f ih)) (λ k. rw (g, k) ih))
    (λ f.
    let g = h x (Memᴰ.head refl) (eqb-false x t f) in
    by_test (p x) (λ k. rw (g, k) (rw f (ap (λ r. x ∷ r) ih))) (λ k. rw (g, k) ih))
