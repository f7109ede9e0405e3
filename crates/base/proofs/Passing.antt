-- What `?` passes on, and what it shows of a call made of two. Assumes nothing.
--
--   passed_on, passed_at_0             the outcome of a refusal passed on: as it is, of a call as a whole
--   refused_before, accepted_before    a call after another one: refused by the first, answered by the second
use Prim.Native.Nat.{ℕ}
use mathlib.Core.Path.{◌≡◌, ap}
use Rattle.std.specs.Prelude.{Result, Ok, Err, IsErr, IsErrAnd}
use Rattle.base.specs.Answer.{number_of, outcome_of}
use Rattle.base.specs.Refusal.{Outcome, accepted, refused, and_then}
use Rattle.base.specs.declared.refusal.Reason.{Reason}
use Rattle.base.specs.declared.refusal.Refusal.{Refusal}

pub passed_on : {A : Type 0} (r : Result A Refusal) (e : Refusal) → IsErr r × IsErrAnd r (λ x. x ≡ e)
    → outcome_of r ≡ refused (number_of e.reason) e.block
passed_on (Err x) e h = rw h.1
passed_on (Ok a) e h = absurd (cc (h.0))

pub passed_at_0 : {A : Type 0} (r : Result A Refusal) (e : Reason)
    → IsErr r × IsErrAnd r (λ x. (x.reason ≡ e) × (x.block ≡ 0)) → outcome_of r ≡ refused (number_of e) 0
passed_at_0 (Err x) e h = rw (h.1.0, h.1.1)
passed_at_0 (Ok a) e h = absurd (cc (h.0))

-- the first call's outcome o
module _ {A B : Type 0} {o : Outcome A} (next : A → Outcome B) where
  pub refused_before : {n p : ℕ} → refused n p ≡ o → refused n p ≡ and_then o next
  refused_before e = ap (λ x. and_then x next) e

  pub accepted_before : {a : A} → accepted a ≡ o → next a ≡ and_then o next
  accepted_before e = ap (λ x. and_then x next) e
