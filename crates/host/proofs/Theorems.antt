-- The theorems of the calls for C. The report of a level (`nearby_level`, `level_report`) tells what the call came to,
-- so
-- that neither silence nor a refusal is taken for a level: `level_told`. The sequence (`nearby_stream_order`,
-- `nearby_stream_order3`) is refused just as strike is (`nearby_prune`, `nearby_prune3`): `refuses_as_strike`. Assumes
-- nothing.
use Prim.Native.Nat.{ℕ}
use mathlib.Core.Bool.{Bool, true, false}
use mathlib.Core.List.{List}
use mathlib.Core.Path.{◌≡◌, refl, ap}
use native.Mathlib.Omega.{arith}
use lib.Dec.{eqb, leb}
use lib.IntN.{ℤ}
use lib.ListN.{length}
use Rattle.base.specs.Refusal.{Outcome, accepted, require, and_then, #axes, #box, #short, #reach}
use Rattle.blocks.specs.Directory.{directory}
use Rattle.blocks.specs.declared.header.Header.{Header}
use Rattle.geometry.specs.Box.{valid_box}
use Rattle.level.specs.Level.{Loudness, silent, level, valid_reach, loudness, level_call}
use Rattle.plan.specs.FilePlan.{entries}
use Rattle.prune.specs.declared.call.Pruned.{Pruned}
use Rattle.prune.specs.Prune.{prune_call}
use Rattle.search.specs.Limits.{valid_k}
use Rattle.search.specs.Pruning.{pruned_count}
use Rattle.stream.specs.Stream.{stream_call}
use Rattle.base.proofs.Outcomes.{by_outcome}
use Rattle.host.specs.Reports.{level_report}
use Rattle.host.specs.declared.reports.LevelReport.{LevelReport}

abbrev call : Bool → Loudness → Outcome Loudness
call valid a = require valid #reach 0 (accepted a)

-- equal reports have the same numbers
apart : {X : Type 0} (f : LevelReport → ℕ) {a b : LevelReport} → a ≡ b → (f a ≡ f b → ⊥) → X
apart f e h = absurd (h (ap f e))

abbrev silence : LevelReport → ℕ
silence r = r.silent

abbrev number : LevelReport → ℕ
number r = r.number

tells : (v w : Bool) (x y : Loudness) → level_report (call v x) ≡ level_report (call w y) → call v x ≡ call w y
tells false false x y e = refl
tells true true silent silent e = refl
tells true true (level x) (level y) e = ap (λ z. accepted (level z)) (ap (λ (r : LevelReport). r.level) e)
tells true true silent (level y) e = apart silence e (λ z. omega arith)
tells true true (level x) silent e = apart silence e (λ z. omega arith)
tells true false silent y e = apart number e (λ z. omega arith)
tells true false (level x) y e = apart number e (λ z. omega arith)
tells false true x silent e = apart number e (λ z. omega arith)
tells false true x (level y) e = apart number e (λ z. omega arith)

pub level_told : (r q d e : ℕ) → level_report (level_call r d) ≡ level_report (level_call q e)
    → level_call r d ≡ level_call q e
unfolding level_call
level_told r q d e h = tells (valid_reach r) (valid_reach q) (loudness r d) (loudness q e) h

-- 02.5: "It refuses as strike does, without 11": for any good k, and marks as many as the slice has elements, what
-- strike
-- comes to, T alone of its counts
pub refuses_as_strike : (f : List ℕ) (o : List (List ℤ)) (k : ℕ) (marks order : List ℕ) → valid_k k ≡ true
    → length marks ≡ length order
    → stream_call f o order ≡ and_then (prune_call f o k marks) (λ c. accepted c.tiles)
unfolding stream_call prune_call
refuses_as_strike f o k marks order good same =
    by_outcome (directory f)
    (λ h e. rw (e, good, same) (by_tests (eqb h.axes (length o)) (valid_box o) (leb h.tiles (length order)) h))
    (λ number block e. rw e)
  where
    by_tests : (a b c : Bool) (h : Header) →
        require a #axes 0 (require b #box 0 (require c #short 0 (accepted h.tiles)))
        ≡ and_then (require a #axes 0 (require b #box 0 (require c #short 0
        (accepted (record { tiles = h.tiles; pruned = pruned_count (entries f h) o k })))))
        (λ (c : Pruned). accepted c.tiles)
    by_tests true true true h = refl
    by_tests true true false h = refl
    by_tests true false c h = refl
    by_tests false b c h = refl
