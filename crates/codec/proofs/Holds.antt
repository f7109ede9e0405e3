-- A list holds another one from an index on: what was written there, and what is read there. Assumes nothing.
--
--   Holds                                   that s has vs from index i on
--   holds-over, holds_self                  what was written; a list holds itself
--   holds-all, holds_front, over-all        a list that holds one of its own length, or starts with it
--   holds-part, part-holds                  from a list to a part of it, and back
--   holds_at, holds_run                     the same index, the same elements
--   holds-cons, holds_head, holds_tail      one element and the rest
--   holds-append, holds_left, holds_right   one run after another
--   holds-joined, holds-each                n parts of one width
--   zeros_held, held_zeros                  zeros
use Prim.Native.Nat.{ℕ, zero, suc, ◌+◌, ◌*◌, ◌-◌, ◌<◌, ◌≤◌}
use mathlib.Core.Bool.{true}
use mathlib.Core.List.{List, ◌∷◌, ◌++◌}
use mathlib.Core.Path.{◌≡◌, sym, ap, ◌∙◌}
use native.Mathlib.Nat.{add-zero, zero-add, not-suc-le-zero}
use native.Mathlib.Omega.{arith}
use lib.Dec.{ltb}
use lib.ListN.{length, get_or, take, drop, replicate, length-append, length-replicate, get_or-replicate, get_or-append}
use lib.Seq.{get_or-append-add, get_or-take, get_or-drop, ext_get_or, length-take-le}
use borrow.Author.Tests.{ltb-true, ltb-false}
use Rattle.base.specs.Over.{over}
use Rattle.base.specs.Tabulate.{joined}
use Rattle.base.proofs.Over.{get_d_run, length_over}
use Rattle.base.proofs.Tests.{by_test}
use Rattle.codec.specs.Zeros.{zeros}
use Rattle.codec.proofs.Zeros.{zeros_at, zeros_hold}

-- s has vs from index i on
pub record Holds (s : List ℕ) (i : ℕ) (vs : List ℕ) : Type 0 where
  pub at : (j : ℕ) → j < length vs → get_or s (i + j) 0 ≡ get_or vs j 0

pub holds-over : (l : List ℕ) (i : ℕ) (vs : List ℕ) → i + length vs ≤ length l → Holds (over l i vs) i vs
holds-over l i vs h = record { at = λ j k. get_d_run l i j vs k h }

pub holds_self : (vs : List ℕ) → Holds vs 0 vs
holds_self vs = record { at = λ j k. ap (λ i. get_or vs i 0) (zero-add j) }

-- a list that holds another one of its own length is this one
pub holds-all : {s vs : List ℕ} → Holds s 0 vs → length s ≡ length vs → s ≡ vs
holds-all {s} {vs} h e = ext_get_or 0 s vs e (λ j k. ap (λ i. get_or s i 0) (sym (zero-add j)) ∙ h.at j (omega arith))

module _ {s : List ℕ} {i : ℕ} {vs : List ℕ} (h : Holds s i vs) where
  -- in a part of the list
  pub holds-part : (n a k : ℕ) → i ≡ a + k → k + length vs ≤ n → Holds (take n (drop a s)) k vs
  holds-part n a k e l = record {
    at = λ j q.
        let w : a + (k + j) ≡ i + j = omega arith in
        get_or-take n (drop a s) (k + j) 0 (omega arith) ∙ get_or-drop a s (k + j) 0 ∙ ap (λ x. get_or s x 0) w
        ∙ h.at j q;
  }

  -- at an index that is the same
  holds_at : {k : ℕ} → k ≡ i → Holds s k vs
  holds_at e = rw e h

  pub holds_run : {ws : List ℕ} → vs ≡ ws → Holds s i ws
  holds_run e = rw e at h

-- from a part of the list
pub part-holds : {s : List ℕ} {k : ℕ} {vs : List ℕ} (n a : ℕ) {i : ℕ} → Holds (take n (drop a s)) k vs → i ≡ a + k →
    k + length vs ≤ n →
    Holds s i vs
part-holds {s} {k} n a {i} h e l = record {
  at = λ j q. let w : i + j ≡ a + (k + j) = omega arith in
      ap (λ x. get_or s x 0) w ∙ sym (get_or-take n (drop a s) (k + j) 0 (omega arith) ∙ get_or-drop a s (k + j) 0)
      ∙ h.at j q;
}

-- a run of the list's own length is all that is left
pub over-all : (l vs : List ℕ) → length l ≡ length vs → over l 0 vs ≡ vs
over-all l vs e = holds-all (holds-over l 0 vs (omega arith)) (length_over l 0 vs ∙ e)

-- the first elements of a list that holds another one
pub holds_front : {s vs : List ℕ} (n : ℕ) → Holds s 0 vs → length vs ≡ n → n ≤ length s → take n s ≡ vs
holds_front {s} {vs} n h e l =
    holds-all (record { at = λ j q. get_or-take n s (0 + j) 0 (omega arith) ∙ h.at j q }) (length-take-le n s l ∙ sym e)

-- ---- one element and the rest
module _ {s : List ℕ} {i v : ℕ} {vs : List ℕ} where
  pub holds-cons : get_or s i 0 ≡ v → Holds s (i + 1) vs → Holds s i (v ∷ vs)
  holds-cons e h = record { at = go }
    where
      go : (j : ℕ) → j < length (v ∷ vs) → get_or s (i + j) 0 ≡ get_or (v ∷ vs) j 0
      go zero l = ap (λ x. get_or s x 0) (add-zero i) ∙ e
      go (suc j) l = let q : i + suc j ≡ i + 1 + j = omega arith in ap (λ x. get_or s x 0) q ∙ h.at j (omega arith)

  module _ (h : Holds s i (v ∷ vs)) where
    pub holds_head : get_or s i 0 ≡ v
    holds_head = ap (λ x. get_or s x 0) (sym (add-zero i)) ∙ h.at 0 (omega arith)

    pub holds_tail : Holds s (i + 1) vs
    holds_tail = record {
      at = λ j l. let q : i + 1 + j ≡ i + suc j = omega arith in
          ap (λ x. get_or s x 0) q ∙ h.at (suc j) (omega arith);
    }

-- ---- one run after another
module _ (s : List ℕ) (i : ℕ) (a b : List ℕ) where
  pub holds_left : Holds s i (a ++ b) → Holds s i a
  holds_left h = record { at = λ j l. h.at j (omega (arith, length-append a b)) ∙ get_or-append a b 0 j l }

  pub holds_right : {k : ℕ} → k ≡ i + length a → Holds s i (a ++ b) → Holds s k b
  holds_right {k} e h = record {
    at = λ j l.
        let w : k + j ≡ i + (length a + j) = omega arith in
        ap (λ x. get_or s x 0) w ∙ h.at (length a + j) (omega (arith, length-append a b)) ∙ get_or-append-add a b j 0;
  }

  pub holds-append : {k : ℕ} → k ≡ i + length a → Holds s i a → Holds s k b → Holds s i (a ++ b)
  holds-append {k} e h g = record {
    at = λ j l. by_test (ltb j (length a)) (λ t. first j (ltb-true j (length a) t))
        (λ t. second j (ltb-false j (length a) t) (omega (arith, length-append a b)));
  }
    where
      first : (j : ℕ) → j < length a → get_or s (i + j) 0 ≡ get_or (a ++ b) j 0
      first j l = h.at j l ∙ sym (get_or-append a b 0 j l)

      second : (j : ℕ) → length a ≤ j → j < length a + length b → get_or s (i + j) 0 ≡ get_or (a ++ b) j 0
      second j l m =
          let x : i + j ≡ k + (j - length a) = omega arith in
          let y : length a + (j - length a) ≡ j = omega arith in
          ap (λ n. get_or s n 0) x ∙ g.at (j - length a) (omega arith) ∙ sym (get_or-append-add a b (j - length a) 0)
          ∙ ap (λ n. get_or (a ++ b) n 0) y

-- ---- n parts of one width
module _ (s : List ℕ) (g : ℕ → List ℕ) (w : ℕ) where
  pub holds-joined : (i a n : ℕ) → ((k : ℕ) → k < n → length (g (a + k)) ≡ w) →
      ((k : ℕ) → k < n → Holds s (i + w * k) (g (a + k))) → Holds s i (joined g a n)
  unfolding joined
  holds-joined i a zero wide h = record { at = λ j l. absurd (not-suc-le-zero l) }
  holds-joined i a (suc n) wide h =
      let e = add-zero a in
      let z : i ≡ i + w * 0 = omega arith in
      let m : length (g a) ≡ w = rw e at (wide 0 (omega arith)) in
      let here : Holds s i (g a) = holds_at (rw e at (h 0 (omega arith))) z in
      holds-append s i (g a) (joined g (a + 1) n) (ap (λ x. i + x) (sym m)) here
      (holds-joined (i + w) (a + 1) n (λ k l. let q : a + 1 + k ≡ a + (k + 1) = omega arith in
      rw q (wide (k + 1) (omega arith)))
      (λ k l. let q : a + 1 + k ≡ a + (k + 1) = omega arith in
      let x : i + w + w * k ≡ i + w * (k + 1) = omega arith in
      rw q (holds_at (h (k + 1) (omega arith)) x)))

  pub holds-each : (i a n : ℕ) → ((k : ℕ) → k < n → length (g (a + k)) ≡ w) → Holds s i (joined g a n) →
      (k : ℕ) → k < n → Holds s (i + w * k) (g (a + k))
  unfolding joined
  holds-each i a zero wide h k l = absurd (not-suc-le-zero l)
  holds-each i a (suc n) wide h zero l =
      let z : i + w * 0 ≡ i = omega arith in
      rw (add-zero a) (holds_at (holds_left s i (g a) (joined g (a + 1) n) h) z)
  holds-each i a (suc n) wide h (suc k) l =
      let m : length (g a) ≡ w = rw (add-zero a) at (wide 0 (omega arith)) in
      let rest = holds_right s i (g a) (joined g (a + 1) n) (ap (λ x. i + x) (sym m)) h in
      let q : a + suc k ≡ a + 1 + k = omega arith in
      let x : i + w * suc k ≡ i + w + w * k = omega arith in
      rw q (holds_at (holds-each (i + w) (a + 1) n
      (λ k l. let q : a + 1 + k ≡ a + (k + 1) = omega arith in rw q (wide (k + 1) (omega arith))) rest k (omega arith))
      x)

-- ---- zeros
module _ (s : List ℕ) (a b : ℕ) where
  pub zeros_held : zeros s a b ≡ true → Holds s a (replicate (b - a) 0)
  zeros_held e = record {
    at = λ j l.
        let m : j < b - a = omega (arith, length-replicate {A = ℕ} (b - a) 0) in
        zeros_at s a b e (a + j) (omega arith) (omega arith) ∙ sym (get_or-replicate (b - a) j 0 0 m);
  }

  pub held_zeros : Holds s a (replicate (b - a) 0) → zeros s a b ≡ true
  held_zeros h = zeros_hold s a b (λ i l k.
      let e : a + (i - a) ≡ i = omega arith in
      let m : i - a < b - a = omega arith in
      ap (λ x. get_or s x 0) (sym e) ∙ h.at (i - a) (rw (length-replicate {A = ℕ} (b - a) 0) m)
      ∙ get_or-replicate (b - a) (i - a) 0 0 m)
