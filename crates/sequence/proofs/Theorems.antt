-- The theorems of this crate for the reader, over any relation `closer` between tiles: what the sequence is
-- (`sequence`, specs/Sequence) and that nothing else is so (`IsSequence`, `IsNext`, specs/Claims): `next_exists`,
-- `sequence_is`, `sequence_fixed`. Worked examples: `cases_hold` (proofs/Cases, specs/Cases).
use Prim.Native.Nat.{ℕ, ◌<◌}
use mathlib.Core.Bool.{Bool}
use mathlib.Core.List.{List}
use mathlib.Core.Path.{◌≡◌}
use native.Mathlib.Omega.{arith}
use lib.ListN.{length}
use Rattle.search.specs.Lists.{range, All}
use Rattle.search.proofs.Lists.{all_mem, range_below, range_mem, range-distinct, range_length}
use Rattle.sequence.specs.Claims.{StrictOrder, IsNext, IsSequence}
use Rattle.sequence.specs.Sequence.{next, sequence}
use Rattle.sequence.proofs.Steps as steps_of

module _ (closer : ℕ → ℕ → Bool) (T : ℕ) where
  pub sequence_length : length (sequence closer T) ≡ T
  unfolding sequence
  sequence_length = steps_of.length_steps closer T (range 0 T)

  -- "so a next tile always exists": of any tiles left, some is free, and `next` is the one that comes next
  pub next_exists : StrictOrder closer T → (left : List ℕ) → 0 < length left → All (λ t. t < T) left
      → IsNext closer left (next closer left)
  next_exists = steps_of.next_exists closer T

  in_steps : StrictOrder closer T → steps_of.InSteps closer (range 0 T) (sequence closer T)
  unfolding sequence
  in_steps strict =
      steps_of.stepped closer T strict T (range 0 T) (range_length 0 T) (range_below 0 T T (omega arith))
      (range-distinct 0 T)

  -- the sequence is what its sentences say
  pub sequence_is : StrictOrder closer T → IsSequence closer T (sequence closer T)
  sequence_is strict =
      let r = in_steps strict in
      record {
        all = λ t. (
          λ m. all_mem (λ t. t < T) (range_below 0 T T (omega arith)) ((r.same t).1 m),
          λ h. (r.same t).0 (range_mem t 0 T (omega arith) (omega arith)),
        );
        once = r.once;
        after = steps_of.places_after closer (sequence closer T) r.nexts;
        lowest = λ i h. (steps_of.place_next closer (sequence closer T) r.nexts i h).least;
      }

  -- and it is the only such list
  pub sequence_fixed : (l m : List ℕ) → IsSequence closer T l → IsSequence closer T m → l ≡ m
  sequence_fixed l m p q =
      steps_of.sequence_unique closer l m p.once q.once
      (λ x. (λ i. (q.all x).1 ((p.all x).0 i), λ i. (p.all x).1 ((q.all x).0 i)))
      (steps_of.each_next closer l p.after p.lowest) (steps_of.each_next closer m q.after q.lowest)
