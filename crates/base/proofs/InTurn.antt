-- Laws of tests in turn. Assumes nothing.
--
--   turn_refused, turn_accepted, turn_end   a loop of tests: its turn, and its end
--   turns_each, turns_all                   all accepted and each accepted
--   turns_same                              tests that agree
use Prim.Native.Nat.{ℕ, zero, suc, ◌+◌, ◌-◌, ◌<◌, ◌≤◌}
use mathlib.Core.Path.{◌≡◌, refl, sym, ap, ◌∙◌}
use native.Mathlib.Nat.{add-zero, not-suc-le-zero}
use native.Mathlib.Omega.{arith}
use Rattle.base.specs.Refusal.{Outcome, accepted, refused, in_turn}
use Rattle.base.proofs.Outcomes.{and_then_accepted}

module _ {A : Type 0} (test : ℕ → Outcome A) where
  -- a loop that tests p, p + 1 .. up to n - 1
  pub turn_refused : (p n k b : ℕ) → p < n → test p ≡ refused k b → in_turn test p (n - p) ≡ refused k b
  unfolding in_turn
  turn_refused p n k b l e = let q : n - p ≡ suc (n - (p + 1)) = omega arith in rw (q, e)

  pub turn_accepted : (p n : ℕ) (a : A) → p < n → test p ≡ accepted a →
      in_turn test (p + 1) (n - (p + 1)) ≡ in_turn test p (n - p)
  unfolding in_turn
  turn_accepted p n a l e = let q : n - p ≡ suc (n - (p + 1)) = omega arith in rw (q, e)

  pub turn_end : (p n : ℕ) → n ≤ p → in_turn test p (n - p) ≡ accepted tt
  unfolding in_turn
  turn_end p n l = let q : n - p ≡ 0 = omega arith in rw q

  -- all are accepted exactly when each is
  pub turns_each : (p n : ℕ) → in_turn test p n ≡ accepted tt → (i : ℕ) → i < n → (a : A) × (test (p + i) ≡ accepted a)
  unfolding in_turn
  turns_each p zero e i l = absurd (not-suc-le-zero l)
  turns_each p (suc n) e zero l =
      let h = and_then_accepted (test p) (λ _. in_turn test (p + 1) n) e in
      (h.0, ap test (add-zero p) ∙ h.1)
  turns_each p (suc n) e (suc i) l =
      let h = and_then_accepted (test p) (λ _. in_turn test (p + 1) n) e in
      let r = turns_each (p + 1) n h.2 i (omega arith) in
      let q : p + suc i ≡ p + 1 + i = omega arith in
      (r.0, ap test q ∙ r.1)

  pub turns_all : (p n : ℕ) → ((i : ℕ) → i < n → (a : A) × (test (p + i) ≡ accepted a)) → in_turn test p n ≡ accepted tt
  unfolding in_turn
  turns_all p zero h = refl
  turns_all p (suc n) h =
      let here : test p ≡ accepted (h 0 (omega arith)).0 = ap test (sym (add-zero p)) ∙ (h 0 (omega arith)).1 in
      let rest = turns_all (p + 1) n (λ i l. let q : p + 1 + i ≡ p + (i + 1) = omega arith in
      ((h (i + 1) (omega arith)).0, ap test q ∙ (h (i + 1) (omega arith)).1)) in
      rw (here, rest)

-- tests that agree agree in turn
pub turns_same : {A : Type 0} (test other : ℕ → Outcome A) (p n : ℕ) →
    ((i : ℕ) → p ≤ i → i < p + n → test i ≡ other i) →
    in_turn test p n ≡ in_turn other p n
unfolding in_turn
turns_same test other p zero h = refl
turns_same test other p (suc n) h =
    let here = h p (omega arith) (omega arith) in
    let rest = turns_same test other (p + 1) n (λ i a b. h i (omega arith) (omega arith)) in
    rw (here, rest)
