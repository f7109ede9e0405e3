-- What an answer of the call shows, and when it answers a level. Assumes nothing.
--
--   Answered, answered         an answer: the reach is valid, and the answer is the place's loudness
--   within, heard              a place that is not silent
--   not_silent                 what the test of silence shows
--   Level, level_of_lem        an answer that is a level
--   answer_at                  the answer where the fraction is a known one
--   not_below                  no float is below itself
use Prim.Native.Nat.{ℕ, ◌+◌, ◌*◌, ◌≤◌, ◌<◌}
use mathlib.Core.Bool.{true, false}
use mathlib.Core.Path.{◌≡◌, sym, ap, ◌∙◌}
use native.Mathlib.Nat.{lt_irrefl}
use native.Mathlib.Omega.{arith}
use borrow.Author.Tests.{le-ltb}
use lib.Dec.{T, ltb→lt, nltb→le}
use lib.Ieee.{Float, nan, inf, fin, binary64, up, down, round, lt}
use Rattle.base.proofs.Outcomes.{require_accepted, accepted_injective}
use Rattle.base.proofs.Tests.{by_test}
use Rattle.base.specs.Refusal.{accepted, #reach}
use Rattle.level.specs.Level.{valid_reach, last_heard, is_silent, level_of}
use Rattle.level.specs.Level.{Loudness, silent, level, loudness, level_call}
use Rattle.level.proofs.CallLaws.{reach_limits}
use Rattle.level.proofs.LevelLaws.{Within, level_at}

pub record Answered (r d : ℕ) (a : Loudness) : Type 0 where
  pub valid : valid_reach r ≡ true
  pub is : loudness r d ≡ a

pub answered : (r d : ℕ) (a : Loudness) → level_call r d ≡ accepted a → Answered r d a
unfolding level_call
answered r d a e =
    let s = require_accepted (valid_reach r) #reach 0 (accepted (loudness r d)) e in
    record { valid = s.0; is = accepted_injective s.1 }

pub within : (r d : ℕ) → valid_reach r ≡ true → d ≤ last_heard r → Within r d
within r d v h = let b = reach_limits r v in record { least = b.0; most = b.1; near = h }

-- a place that is not silent has the level of the definition
pub heard : (r d : ℕ) → d ≤ last_heard r → loudness r d ≡ level (level_of r d)
heard r d h = rw (le-ltb (last_heard r) d h)

pub not_silent : (r d : ℕ) → is_silent r d ≡ false → d ≤ last_heard r
not_silent r d e = nltb→le (last_heard r) d (rw e tt)

pub record Level (r d : ℕ) (x : Float) : Type 0 where
  pub within_limits_lem : Within r d
  pub is : level_of r d ≡ x

pub level_of_lem : (r d : ℕ) (x : Float) → level_call r d ≡ accepted (level x) → Level r d x
level_of_lem r d x e =
    let a = answered r d (level x) e in
    by_test (is_silent r d) (λ s. absurd (nothing (rw s at a.is))) (λ s. go (not_silent r d s) a.valid a.is)
  where
    nothing : silent ≡ level x → ⊥
    nothing e = let z : ◌≡◌ {A = ℕ} 0 1 = cc in omega arith

    go : d ≤ last_heard r → valid_reach r ≡ true → loudness r d ≡ level x → Level r d x
    go h v e = record { within_limits_lem = within r d v h; is = same (sym (heard r d h) ∙ e) }
      where
        same : level (level_of r d) ≡ level x → level_of r d ≡ x
        same e = cc

pub answer_at : (r d a c : ℕ) (x : Float) → valid_reach r ≡ true → d ≤ last_heard r → 0 < c
    → r * r * c ≡ a * (r * r + d)
    → round binary64 false a c ≡ x → level_call r d ≡ accepted (level x)
unfolding level_call
answer_at r d a c x v h C e b =
    rw (v, heard r d h) (ap (λ z. accepted (level z)) (level_at r d (within r d v h) a c C e ∙ b))

-- no float is below itself
pub not_below : (x : Float) → T (lt x x) → ⊥
unfolding lt
not_below nan h = h
not_below (inf true) h = h
not_below (inf false) h = h
not_below (fin true m e) h = lt_irrefl _ (ltb→lt (m * up e * down e) (m * up e * down e) h)
not_below (fin false m e) h = lt_irrefl _ (ltb→lt (m * up e * down e) (m * up e * down e) h)
