-- The theorems of levels. The call is `level`, its definition `level_call`, and what is shown of it stands here.
-- Assumes nothing.
--
--   cases_say                              the table of cases
--   level_sounds                           what a level is: exact sums, one rounding, above 0 and at most 1
--   one_at_the_place, half_at_the_reach,   the level at three distances, for every reach
--   last_level
--   falls_with_distance, falls_strictly    a greater distance is no louder; a level is less loud
--   level_tells                            a level tells its distance
--   rises_with_reach                       a greater reach is no less loud
use Prim.Native.Nat.{ℕ, ◌*◌, ◌≤◌, ◌<◌}
use mathlib.Core.Bool.{true}
use mathlib.Core.Path.{◌≡◌, refl, sym}
use native.Mathlib.Nat.{mul-le-mul, le_antisymm, le_of_suc-le-suc, lt_of_not-le}
use native.Mathlib.Omega.{arith}
use lib.Dec.{T, lit<}
use lib.Ieee.{Float, div, of_int, of_bits, lt}
use Rattle.base.proofs.Tests.{by_test}
use Rattle.base.specs.Refusal.{accepted}
use Rattle.level.specs.Cases.{levels, ends, refusals, AllSay}
use Rattle.level.specs.Claims.{half, one, least_level, Sounds, NoLouder}
use Rattle.level.specs.Level.{valid_reach, last_heard, is_silent, quotient, Loudness, level, loudness, level_call}
use Rattle.level.proofs.Answers.{answered, within, heard, not_silent, level_of_lem, answer_at, not_below}
use Rattle.level.proofs.LevelLaws.{sounds, falls, rises, falls_strict, one_rounded, half_rounded, least_rounded}

pub cases_say : AllSay levels × AllSay ends × AllSay refusals
unfolding level_call valid_reach quotient div of_int of_bits
cases_say = (refl, refl, refl)

pub level_sounds : (r d : ℕ) (x : Float) → level_call r d ≡ accepted (level x) → Sounds r d x
level_sounds r d x e = let a = level_of_lem r d x e in rw a.is at (sounds r d a.within_limits_lem)

-- ---- the level at three distances
pub one_at_the_place : (r : ℕ) → valid_reach r ≡ true → level_call r 0 ≡ accepted (level one)
one_at_the_place r v = answer_at r 0 1 1 one v (omega arith) (lit< tt) (omega arith) one_rounded

pub half_at_the_reach : (r : ℕ) → valid_reach r ≡ true → level_call r (r * r) ≡ accepted (level half)
half_at_the_reach r v = answer_at r (r * r) 1 2 half v (omega arith) (lit< tt) (omega arith) half_rounded

pub last_level : (r : ℕ) → valid_reach r ≡ true → level_call r (last_heard r) ≡ accepted (level least_level)
last_level r v = answer_at r (last_heard r) 1 101 least_level v (omega arith) (lit< tt) (omega arith) least_rounded

-- ---- the order of levels
pub falls_with_distance : (r d e : ℕ) (a b : Loudness) → level_call r d ≡ accepted a → level_call r e ≡ accepted b
    → d ≤ e → NoLouder b a
falls_with_distance r d e a b p q h =
    let s = answered r d a p in
    let t = answered r e b q in
    rw (sym s.is, sym t.is) (by_test (is_silent r e) (λ u. rw u tt) (λ u. both s.valid (not_silent r e u)))
  where
    both : valid_reach r ≡ true → e ≤ last_heard r → NoLouder (loudness r e) (loudness r d)
    both v k =
        let l : d ≤ last_heard r = omega arith in
        rw (heard r d l, heard r e k) (falls r d e (within r d v l) (within r e v k) h)

pub falls_strictly : (r d e : ℕ) (x y : Float) → level_call r d ≡ accepted (level x)
    → level_call r e ≡ accepted (level y) → d < e → T (lt y x)
falls_strictly r d e x y p q h =
    let a = level_of_lem r d x p in
    let b = level_of_lem r e y q in
    rw (a.is, b.is) at (falls_strict r d e a.within_limits_lem b.within_limits_lem h)

pub level_tells : (r d e : ℕ) (x : Float) → level_call r d ≡ accepted (level x) → level_call r e ≡ accepted (level x)
    → d ≡ e
level_tells r d e x p q =
    le_antisymm (not-above e d q p) (not-above d e p q)
  where
    not-above : (d e : ℕ) → level_call r d ≡ accepted (level x) → level_call r e ≡ accepted (level x) → e ≤ d
    not-above d e p q = le_of_suc-le-suc (lt_of_not-le (λ h. not_below x (falls_strictly r d e x x p q h)))

pub rises_with_reach : (q r d : ℕ) (a b : Loudness) → level_call q d ≡ accepted a → level_call r d ≡ accepted b → q ≤ r
    → NoLouder a b
rises_with_reach q r d a b p e h =
    let s = answered q d a p in
    let t = answered r d b e in
    rw (sym s.is, sym t.is)
    (by_test (is_silent q d) (λ u. rw u tt) (λ u. both s.valid t.valid (not_silent q d u)))
  where
    both : valid_reach q ≡ true → valid_reach r ≡ true → d ≤ last_heard q → NoLouder (loudness q d) (loudness r d)
    both v w k =
        let m : q * q ≤ r * r = mul-le-mul h h in
        let l : d ≤ last_heard r = omega arith in
        rw (heard q d k, heard r d l) (rises q r d (within q d v k) (within r d w l) h)
