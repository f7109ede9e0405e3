-- Laws of the sums by lanes. Assumes nothing.
--
--   row-sums                   the block's sums over n bytes at once
--   lanes-zero, lanes_start    lanes of 0 are reduced, and the start of the block's sums
--   row_added, lanes-reduced   a row put into the lanes, and their remainders, leave the block's sums as they are
--   minus_moment               -1 times the moment, without a number below 0
--   UpTo                       a loop that changes lane after lane
use Prim.Native.Nat.{ℕ, zero, suc, ◌+◌, ◌*◌, ◌-◌, ◌%◌, ◌<◌, ◌≤◌}
use mathlib.Core.List.{List}
use mathlib.Core.Path.{◌≡◌, refl, sym, ap, ◌∙◌}
use native.Mathlib.Nat.{add-zero}
use native.Mathlib.Omega.{arith}
use lib.ListN.{length, get_or, replicate, get_or-replicate}
use lib.Seq.{slice}
use Rattle.blocks.specs.Checksum.{sums_from, sums}
use Rattle.blocks.specs.Layout.{check_at}
use Rattle.blocks.specs.Inner.Lanes.{lanes, sum_to, total_of, moment_of, sums_on, Small, Reduced}
use Rattle.blocks.specs.Inner.Lanes.{RowAdded, Remainders}
use Rattle.blocks.specs.declared.lanes.Lanes.{Lanes}
use Rattle.blocks.proofs.ChecksumLaws.{sums_turn}
use Rattle.blocks.proofs.SumLaws.{sum_same, sum_plus, Alike, alike_shift, alike_plus, alike_times, alike_sum}

-- the block's sums over n bytes from i on, from a and c
row-sums : (s : List ℕ) (i a c n : ℕ) → i + n ≤ check_at → check_at ≤ length s →
    sums_from ((a + sum_to (λ j. get_or s (i + j) 0) n) % 255)
    ((c + n * (a + sum_to (λ j. get_or s (i + j) 0) n) + 254 * sum_to (λ j. j * get_or s (i + j) 0) n) % 255)
    (slice (i + n) check_at s)
    ≡ sums_from (a % 255) (c % 255) (slice i check_at s)
unfolding sum_to
row-sums s i a c zero h l = let e : c + 0 * a + 254 * 0 ≡ c = omega arith in rw (add-zero i, add-zero a, e)
row-sums s i a c (suc n) h l =
    let b = get_or s (i + n) 0 in
    let t = sum_to (λ j. get_or s (i + j) 0) n in
    let m = sum_to (λ j. j * get_or s (i + j) 0) n in
    let next : i + suc n ≡ i + n + 1 = omega arith in
    let ea : (a + (t + b)) % 255 ≡ (a + t + b) % 255 = omega arith in
    let ec : (c + suc n * (a + (t + b)) + 254 * (m + n * b)) % 255
    ≡ (c + n * (a + t) + 254 * m + (a + t + b)) % 255 = omega arith in
    rw (next, ea, ec)
    (sums_turn s (i + n) (a + t) (c + n * (a + t) + 254 * m) b (omega arith) l refl
    ∙ row-sums s i a c n (omega arith) l)

abbrev zeros : Lanes
zeros = record { a = replicate lanes 0; c = replicate lanes 0 }

pub lanes-zero : Reduced zeros
lanes-zero =
    let small : Small (replicate lanes 0) = λ j h. rw (get_or-replicate {A = ℕ} lanes j 0 0 h) (omega arith) in
    (small, small)

-- lanes of 0 are the start of the block's sums
pub lanes_start : (s : List ℕ) → sums_on zeros s 1 ≡ sums s
unfolding sums_on total_of moment_of sum_to sums
lanes_start s = refl

-- the block's sums are the same before and after a row is put into the lanes
pub row_added : (l r : Lanes) (s : List ℕ) (i : ℕ) → i + lanes ≤ check_at → check_at ≤ length s → RowAdded l s i r →
    sums_on r s (i + lanes) ≡ sums_on l s i
unfolding sums_on total_of moment_of
row_added l r s i h k added =
    let a : ℕ → ℕ = λ j. get_or l.a j 0 in
    let c : ℕ → ℕ = λ j. get_or l.c j 0 in
    let b : ℕ → ℕ = λ j. get_or s (i + j) 0 in
    let ta = sum_same (λ j. get_or r.a j 0) (λ j. a j + b j) lanes (λ j u. (added j u).0) ∙ sum_plus a b lanes in
    let tc = sum_same (λ j. get_or r.c j 0) (λ j. c j + (a j + b j)) lanes (λ j u. (added j u).1)
    ∙ sum_plus c (λ j. a j + b j) lanes ∙ ap (λ t. sum_to c lanes + t) (sum_plus a b lanes) in
    let ma = sum_same (λ j. j * get_or r.a j 0) (λ j. j * a j + j * b j) lanes
    (λ j u. ap (λ x. j * x) (added j u).0 ∙ omega arith)
    ∙ sum_plus (λ j. j * a j) (λ j. j * b j) lanes in
    let ec : lanes * (sum_to c lanes + (sum_to a lanes + sum_to b lanes))
    + 254 * (sum_to (λ j. j * a j) lanes + sum_to (λ j. j * b j) lanes)
    ≡ lanes * sum_to c lanes + 254 * sum_to (λ j. j * a j) lanes + lanes * (sum_to a lanes + sum_to b lanes)
    + 254 * sum_to (λ j. j * b j) lanes = omega arith in
    rw (ta, tc, ma, ec)
    (row-sums s i (sum_to a lanes) (lanes * sum_to c lanes + 254 * sum_to (λ j. j * a j) lanes) lanes h k)

-- the block's sums are the same before and after the lanes are reduced
pub lanes-reduced : (l r : Lanes) (s : List ℕ) (i : ℕ) → Remainders l r → sums_on r s i ≡ sums_on l s i
unfolding sums_on total_of moment_of
lanes-reduced l r s i e =
    let alike-a : (j : ℕ) → j < lanes → Alike (get_or r.a j 0) (get_or l.a j 0) = λ j h. record {
      same = let q = (e j h).0 in omega (arith, q);
    } in
    let alike-c : (j : ℕ) → j < lanes → Alike (get_or r.c j 0) (get_or l.c j 0) = λ j h. record {
      same = let q = (e j h).1 in omega (arith, q);
    } in
    let a = alike_sum (λ j. get_or r.a j 0) (λ j. get_or l.a j 0) lanes alike-a in
    let c = alike_sum (λ j. get_or r.c j 0) (λ j. get_or l.c j 0) lanes alike-c in
    let moments : (j : ℕ) → j < lanes → Alike (j * get_or r.a j 0) (j * get_or l.a j 0)
    = λ j h. alike_times j (alike-a j h) in
    let m = alike_sum (λ j. j * get_or r.a j 0) (λ j. j * get_or l.a j 0) lanes moments in
    rw (a.same, (alike_plus (alike_times lanes c) (alike_times 254 m)).same)

-- of the numbers of a list, the first j are as g says, and the others as they were
pub record UpTo (g : ℕ → ℕ) (before now : List ℕ) (j : ℕ) : Type 0 where
  pub size : length now ≡ lanes
  pub done : (k : ℕ) → k < j → get_or now k 0 ≡ g k
  pub left : (k : ℕ) → j ≤ k → get_or now k 0 ≡ get_or before k 0

-- modulo 255, 14,280 less the moment is -1 times the moment
pub minus_moment : (t m : ℕ) → m ≤ 14280 → (lanes * t + (14280 - m)) % 255 ≡ (lanes * t + 254 * m) % 255
minus_moment t m h =
    let e : lanes * t + 254 * m + 255 * 56 ≡ lanes * t + (14280 - m) + 255 * m = omega arith in
    sym (alike_shift (lanes * t + (14280 - m)) m).same ∙ ap (λ z. z % 255) (sym e)
    ∙ (alike_shift (lanes * t + 254 * m) 56).same
