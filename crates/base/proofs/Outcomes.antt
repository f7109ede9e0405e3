-- Laws of outcomes. Assumes nothing.
--
--   by_outcome                             proof by an outcome
--   accepted_refused, accepted_injective   no outcome is both; an accepted one has one value
--   require_accepted, and_then_accepted    what an accepted outcome shows of its parts
--   and_then-same, and_then_refused        when what comes next does not matter
--   told                                   an answer that was taken apart
use Prim.Native.Nat.{ℕ}
use mathlib.Core.Bool.{Bool, true, false}
use mathlib.Core.Path.{◌≡◌, refl, sym, ap, ◌∙◌}
use native.Mathlib.Omega.{arith}
use Rattle.base.specs.Refusal.{Outcome, accepted, refused, require, and_then}

-- by an outcome
pub by_outcome : {X Y : Type 0} (o : Outcome X) → ((x : X) → o ≡ accepted x → Y) → ((n b : ℕ) → o ≡ refused n b → Y) → Y
by_outcome (accepted x) f g = f x refl
by_outcome (refused n b) f g = g n b refl

-- no outcome is both accepted and refused
pub accepted_refused {ℓ} : {A : Type 0} {X : Type ℓ} {o : Outcome A} {a : A} {n b : ℕ} → o ≡ accepted a
    → o ≡ refused n b → X
accepted_refused p q = absurd (let z : ◌≡◌ {A = ℕ} 0 1 = cc in omega arith)

pub accepted_injective : {A : Type 0} {a b : A} → accepted a ≡ accepted b → a ≡ b
accepted_injective e = cc

pub require_accepted : {A : Type 0} (test : Bool) (n p : ℕ) (o : Outcome A) {a : A} → require test n p o ≡ accepted a →
    (test ≡ true) × (o ≡ accepted a)
require_accepted true n p o e = (refl, e)
require_accepted false n p o e = accepted_refused e refl

pub and_then_accepted : {A B : Type 0} (o : Outcome A) (next : A → Outcome B) {b : B} → and_then o next ≡ accepted b →
    (a : A) × (o ≡ accepted a) × (next a ≡ accepted b)
and_then_accepted (accepted a) next e = (a, refl, e)
and_then_accepted (refused n p) next e = accepted_refused e refl

-- what comes next matters for an accepted outcome only
pub and_then-same : {A B : Type 0} (o : Outcome A) (f g : A → Outcome B) → ((a : A) → o ≡ accepted a → f a ≡ g a) →
    and_then o f ≡ and_then o g
and_then-same (accepted a) f g h = h a refl
and_then-same (refused n p) f g h = refl

-- a refusal of what is only counted afterwards is its own
pub and_then_refused : {A B : Type 0} (o : Outcome A) (g : A → B) {n p : ℕ}
    → and_then o (λ a. accepted (g a)) ≡ refused n p
    → o ≡ refused n p
and_then_refused (accepted a) g e = accepted_refused refl e
and_then_refused (refused n p) g e = cc

-- an answer that was taken apart
pub told : {A B : Type 0} (outcome : A → Outcome B) {a x : A} {o : Outcome B} → outcome a ≡ o → a ≡ x → o ≡ outcome x
told outcome e q = sym e ∙ ap outcome q
