-- The tiles by place: numbers exchanged, tiles listed. Assumes nothing.
use Prim.Native.Nat.{ℕ, ◌%◌, ◌<◌, ◌≤◌}
use mathlib.Core.List.{List}
use mathlib.Core.Path.{◌≡◌, refl, sym, ap, ◌∙◌}
use native.Mathlib.Omega.{arith}
use lib.Dec.{eqb}
use lib.ListN.{get_or, length, set, length-set}
use lib.Seq.{get_or-set_same, get_or-set_other}
use borrow.Author.Tests.{eqb-true, eqb-false}
use Rattle.base.proofs.Tests.{by_test}
use Rattle.arrange.specs.Inner.Places.{tile_room, tile_at, SameElements, Listed}

pub same_self : (n : ℕ) (l : List ℕ) → SameElements n l l
same_self n l = record { long = refl; kept = λ i u. (i, u, refl); old = λ j u. (j, u, refl) }

pub same_then : {n : ℕ} {a b c : List ℕ} → SameElements n a b → SameElements n b c → SameElements n a c
same_then p q = record {
  long = q.long ∙ p.long;
  kept = λ i u. let x = p.kept i u in let y = q.kept x.0 x.1 in (y.0, y.1, y.2 ∙ x.2);
  old = λ j u. let y = q.old j u in let x = p.old y.0 y.1 in (x.0, x.1, y.2 ∙ x.2);
}

-- two numbers exchanged
module _ (l : List ℕ) (i j n : ℕ) (a : i < n) (b : j < n) (room : n ≤ length l) where
  abbrev once : List ℕ
  once = set l i (get_or l j 0)

  abbrev both : List ℕ
  both = set once j (get_or l i 0)

  at_second : get_or both j 0 ≡ get_or l i 0
  at_second =
      let k = length-set l i (get_or l j 0) in
      get_or-set_same once j (get_or l i 0) 0 (omega arith)

  at_first : (i ≡ j → ⊥) → get_or both i 0 ≡ get_or l j 0
  at_first d = get_or-set_other once j i (get_or l i 0) 0 d ∙ get_or-set_same l i (get_or l j 0) 0 (omega arith)

  elsewhere : (x : ℕ) → (x ≡ i → ⊥) → (x ≡ j → ⊥) → get_or both x 0 ≡ get_or l x 0
  elsewhere x d e = get_or-set_other once j x (get_or l i 0) 0 e ∙ get_or-set_other l i x (get_or l j 0) 0 d

  pub same_exchange : SameElements n l (set (set l i (get_or l j 0)) j (get_or l i 0))
  same_exchange = record {
    long = length-set once j (get_or l i 0) ∙ length-set l i (get_or l j 0);
    kept = λ x u. by_test (eqb x i)
        (λ e. let q : x ≡ i = eqb-true x i e in (j, b, at_second ∙ ap (λ y. get_or l y 0) (sym q)))
        (λ e.
        let d = eqb-false x i e in
        by_test (eqb x j)
        (λ g. let q : x ≡ j = eqb-true x j g in (i, a, at_first (λ r. d (q ∙ sym r)) ∙ ap (λ y. get_or l y 0) (sym q)))
        (λ g. (x, u, elsewhere x d (eqb-false x j g))));
    old = λ x u. by_test (eqb x j)
        (λ e. let q : x ≡ j = eqb-true x j e in (i, a, ap (λ y. get_or both y 0) q ∙ at_second))
        (λ e.
        let d = eqb-false x j e in
        by_test (eqb x i)
        (λ g. let q : x ≡ i = eqb-true x i g in (j, b, ap (λ y. get_or both y 0) q ∙ at_first (λ r. d (q ∙ r))))
        (λ g. (x, u, elsewhere x (eqb-false x i g) d)));
  }

-- tiles listed stay so
pub listed_same : {n : ℕ} {was is : List ℕ} → SameElements n was is → Listed n was → Listed n is
listed_same {n} s l = record {
  below = λ j u. let x = s.old j u in rw x.2 (l.below x.0 x.1);
  every = λ t u.
      let x = l.every t u in
      let y = s.kept x.0 x.1 in
      (y.0, y.1, ap (λ v. v % tile_room) y.2 ∙ x.2);
}

-- each tile at the place of its number
pub listed_first : (n : ℕ) (keys : List ℕ) → ((t : ℕ) → t < n → tile_at keys t ≡ t) → Listed n keys
listed_first n keys h = record { below = λ i u. rw (h i u) u; every = λ t u. (t, u, h t u) }
