-- Laws of a list with a run of elements replaced. Assumes nothing.
--
--   over_eq, length_over                   what it is, and how long
--   over_nil, over-cons                    no run; a run by its first element
--   get_d_before, get_d_run, get_d_after   its elements before, in and past the run
--   over_next, also                        a run right after another: of lists, of calls that write
--   over-set, over_under                   what was written under a run does not show
--   set-over, over_last                    an element past the run, and right behind it
use Prim.Native.Nat.{ℕ, zero, suc, ◌+◌, ◌<◌, ◌≤◌}
use mathlib.Core.List.{List, [], ◌∷◌, ◌++◌}
use mathlib.Core.Path.{◌≡◌, refl, sym, ap, ◌∙◌}
use native.Mathlib.Nat.{add-zero, add-suc, suc-add}
use native.Mathlib.Omega.{arith}
use lib.Dec.{eqb}
use lib.ListN.{length, get_or, set, take, drop, length-set}
use lib.Seq.{sets, sets-eq, length-sets, get_or-set_same, get_or-set_other, set-set, set_comm}
use borrow.Author.Tests.{eqb-true, eqb-false}
use Rattle.base.proofs.Tests.{by_test}
use Rattle.base.specs.Over.{over}

-- what it is, where the run fits
pub over_eq : {A : Type 0} (l : List A) (i : ℕ) (vs : List A) → i + length vs ≤ length l
    → over l i vs ≡ take i l ++ vs ++ drop (i + length vs) l
unfolding over
over_eq l i vs h = sets-eq vs l i h

pub length_over : {A : Type 0} (l : List A) (i : ℕ) (vs : List A) → length (over l i vs) ≡ length l
unfolding over
length_over l i vs = length-sets l i vs

pub over_nil : {A : Type 0} (l : List A) (i : ℕ) → over l i [] ≡ l
unfolding over
over_nil l i = refl

pub over-cons : {A : Type 0} (l : List A) (i : ℕ) (v : A) (vs : List A)
    → over l i (v ∷ vs) ≡ over (set l i v) (suc i) vs
unfolding over
over-cons l i v vs = refl

-- an element before the run, and one of the run
pub get_d_before : (l : List ℕ) (j i : ℕ) (vs : List ℕ) → i < j → get_or (over l j vs) i 0 ≡ get_or l i 0
unfolding over
get_d_before l j i [] h = refl
get_d_before l j i (v ∷ vs) h =
    get_d_before (set l j v) (suc j) i vs (omega arith) ∙ get_or-set_other l j i v 0 (λ e. omega arith)

pub get_d_run : (l : List ℕ) (j i : ℕ) (vs : List ℕ) → i < length vs → j + length vs ≤ length l
    → get_or (over l j vs) (j + i) 0 ≡ get_or vs i 0
unfolding over
get_d_run l j i [] h k = absurd (omega arith)
get_d_run l j zero (v ∷ vs) h k =
    rw (add-zero j) (get_d_before (set l j v) (suc j) j vs (omega arith) ∙ get_or-set_same l j v 0 (omega arith))
get_d_run l j (suc i) (v ∷ vs) h k =
    let n = length-set l j v in
    let e : j + suc i ≡ suc j + i = omega arith in
    rw e (get_d_run (set l j v) (suc j) i vs (omega arith) (omega arith))

sets-append : (l : List ℕ) (i : ℕ) (a b : List ℕ) → sets (sets l i a) (i + length a) b ≡ sets l i (a ++ b)
sets-append l i [] b = rw add-zero
sets-append l i (x ∷ a) b = rw (add-suc, ← suc-add) (sets-append (set l i x) (suc i) a b)

-- two runs, the second right after the first, are one
pub over_next : (l : List ℕ) (i j : ℕ) (a b : List ℕ) → j ≡ i + length a → over (over l i a) j b ≡ over l i (a ++ b)
unfolding over
over_next l i j a b e = rw e (sets-append l i a b)

-- the next call of a row of calls that write one after the other
pub also : (l : List ℕ) (i j : ℕ) (a b : List ℕ) {d e : List ℕ} → d ≡ over l i a → e ≡ over d j b → j ≡ i + length a →
    e ≡ over l i (a ++ b)
also l i j a b p q h = q ∙ ap (λ x. over x j b) p ∙ over_next l i j a b h

-- an element past the run
pub get_d_after : (l : List ℕ) (j i : ℕ) (vs : List ℕ) → j + length vs ≤ i → get_or (over l j vs) i 0 ≡ get_or l i 0
unfolding over
get_d_after l j i [] h = refl
get_d_after l j i (v ∷ vs) h =
    get_d_after (set l j v) (suc j) i vs (omega arith) ∙ get_or-set_other l j i v 0 (λ e. omega arith)

-- what was written under a run does not show
pub over-set : (l : List ℕ) (i j v : ℕ) (b : List ℕ) → j ≤ i → i < j + length b → over (set l i v) j b ≡ over l j b
unfolding over
over-set l i j v [] h g = absurd (omega arith)
over-set l i j v (y ∷ b) h g = by_test (eqb i j)
    (λ e. let q = eqb-true i j e in rw (q, set-set l j v y))
    (λ e. let d = eqb-false i j e in rw (set_comm l i j v y d)
    (over-set (set l j y) i (suc j) v b (omega arith) (omega arith)))

pub over_under : (l : List ℕ) (i j : ℕ) (a b : List ℕ) → j ≤ i → i + length a ≤ j + length b
    → over (over l i a) j b ≡ over l j b
unfolding over
over_under l i j [] b h g = refl
over_under l i j (x ∷ a) b h g =
    over_under (set l i x) (suc i) j a b (omega arith) (omega arith) ∙ over-set l i j x b h (omega arith)

-- an element written past a run, before it
pub set-over : (l : List ℕ) (i n v : ℕ) (a : List ℕ) → i + length a ≤ n → set (over l i a) n v ≡ over (set l n v) i a
unfolding over
set-over l i n v [] h = refl
set-over l i n v (x ∷ a) h =
    set-over (set l i x) (suc i) n v a (omega arith) ∙ rw (set_comm l i n x v (λ e. omega arith))

pub over_last : (l : List ℕ) (i n v : ℕ) (a : List ℕ) → n ≡ i + length a → over l i (a ++ v ∷ []) ≡ over (set l n v) i a
over_last l i n v a e =
    sym (over_next l i n a (v ∷ []) e) ∙ over-cons (over l i a) n v [] ∙ over_nil (set (over l i a) n v) (suc n)
    ∙ set-over l i n v a (omega arith)
