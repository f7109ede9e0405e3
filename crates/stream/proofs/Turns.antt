-- One turn of the code's loop is one step of the sequence. The tiles left are those that were not marked as taken.
use Prim.Native.Nat.{ℕ, suc, ◌+◌, ◌-◌, ◌≤◌, ◌<◌}
use mathlib.Core.Bool.{Bool, true, false}
use mathlib.Core.List.{List, Memᴰ}
use mathlib.Core.Logic.{◌≢◌}
use mathlib.Core.Path.{◌≡◌, sym, ◌∙◌}
use native.Mathlib.Numerals.{add-one}
use native.Mathlib.Omega.{arith}
use lib.Dec.{eqb, ltb}
use lib.ListN.{length, get_or, set}
use lib.Seq.{get_or-set_same, get_or-set_other}
use borrow.Author.Tests.{ltb-true, ltb-false, eqb-true, eqb-false}
use Rattle.base.specs.Over.{over}
use Rattle.search.specs.Lists.{range, filter, Distinct}
use Rattle.base.proofs.Over.{over_nil}
use Rattle.base.proofs.Tests.{clash, by_test}
use Rattle.search.proofs.Lists.{all_mem, all_any, mem_all, filter_mem, filter_id, filter_same, filter-distinct}
use Rattle.search.proofs.Lists.{range_below, range_mem, range-distinct, range_length}
use Rattle.sequence.specs.Claims.{StrictOrder, IsNext}
use Rattle.sequence.specs.Sequence.{without, next, steps, sequence}
use Rattle.arrange.specs.Inner.Places.{tile_at}
use Rattle.stream.specs.Inner.State.{free_mark, taken_mark, is_left, TakenBelow, Standing, Freed}
use Rattle.stream.specs.Inner.State.{FirstFree, FirstLeft}
use Rattle.sequence.proofs.Members.{mem_filter, length_without, filter_less}
use Rattle.stream.proofs.Standing.{left_by, taken_by, left_not, standing_all}
use Rattle.sequence.proofs.Steps as steps_of

module _ (n : ℕ) where
  -- the tiles left, by number
  pub tiles_left : List ℕ → List ℕ
  tiles_left waits = filter (is_left waits) (range 0 n)

  mem_left : (waits : List ℕ) {b : ℕ} → Memᴰ b (tiles_left waits) → (b < n) × (is_left waits b ≡ true)
  unfolding tiles_left
  mem_left waits m =
      let r = mem_filter (is_left waits) (range 0 n) m in
      (all_mem (λ t. t < n) (range_below 0 n n (omega arith)) r.0, r.1)

  left_mem : (waits : List ℕ) {b : ℕ} → b < n → is_left waits b ≡ true → Memᴰ b (tiles_left waits)
  unfolding tiles_left
  left_mem waits {b} h g = filter_mem (is_left waits) (range_mem b 0 n (omega arith) (omega arith)) g

  left_distinct : (waits : List ℕ) → Distinct (tiles_left waits)
  unfolding tiles_left
  left_distinct waits = filter-distinct (is_left waits) (range 0 n) (range-distinct 0 n)

  all_left : (waits : List ℕ) → ((a : ℕ) → is_left waits a ≡ true) → tiles_left waits ≡ range 0 n
  unfolding tiles_left
  all_left waits h = filter_id (is_left waits) (range 0 n) (all_any (λ a. is_left waits a ≡ true) (range 0 n) h)

  same_tiles : (waits waits' : List ℕ) → ((a : ℕ) → is_left waits' a ≡ is_left waits a)
      → tiles_left waits' ≡ tiles_left waits
  unfolding tiles_left
  same_tiles waits waits' h =
      filter_same (is_left waits') (is_left waits) (range 0 n)
      (all_any (λ a. is_left waits' a ≡ is_left waits a) (range 0 n) h)

  one_less : (waits : List ℕ) (t : ℕ) → t < length waits
      → tiles_left (set waits t taken_mark) ≡ without t (tiles_left waits)
  unfolding tiles_left
  one_less waits t room =
      filter_less (is_left waits) (is_left (set waits t taken_mark)) t (range 0 n)
      (λ x m d. rw (get_or-set_other waits t x taken_mark 0 d))
      (taken_by (set waits t taken_mark) t (get_or-set_same waits t taken_mark 0 room))

module _ (closer : ℕ → ℕ → Bool) (n : ℕ) (keys : List ℕ) where
  -- After i turns: what is still to be written, written over the output, is the whole sequence over the output at
  -- entry.
  pub record Running (waits from order : List ℕ) (at low i : ℕ) (whole : List ℕ) : Type 0 where
    pub size : length (tiles_left n waits) ≡ n - i
    pub standing : Standing closer n keys n 0 waits from
    pub gone : TakenBelow closer n keys waits low
    pub none_free : (b : ℕ) → b < at → get_or waits b 0 ≢ free_mark
    pub at_few : at ≤ n
    pub low_few : low ≤ n
    pub rest : over order i (steps closer (n - i) (tiles_left n waits)) ≡ whole

  pub running_start : (waits from order : List ℕ) → Standing closer n keys n 0 waits from
      → ((a : ℕ) → is_left waits a ≡ true) → Running waits from order 0 0 0 (over order 0 (sequence closer n))
  unfolding sequence
  running_start waits from order s h =
      let e = all_left n waits h in
      let d : n - 0 ≡ n = omega arith in
      record {
        size = rw (e, d) (range_length 0 n);
        standing = s;
        gone = λ i l u. absurd (omega arith);
        none_free = λ b l. absurd (omega arith);
        at_few = omega arith;
        low_few = omega arith;
        rest = rw (e, d);
      }

  pub running_end : {waits from order : List ℕ} {at low i : ℕ} {whole : List ℕ} → n ≤ i
      → Running waits from order at low i whole → order ≡ whole
  unfolding steps
  running_end {order = order} {i = i} h r =
      let d : n - i ≡ 0 = omega arith in
      sym (over_nil order i) ∙ rw d at r.rest

  module _ (strict : StrictOrder closer n) (small : n ≤ free_mark) {waits from order : List ℕ} {at low i : ℕ}
      {whole : List ℕ} (r : Running waits from order at low i whole) (more : i < n) {t : ℕ}
      (first : FirstFree waits at n t) where
    -- a tile that is free waits for none
    free-marked : {b : ℕ} → Memᴰ b (tiles_left n waits)
        → ((a : ℕ) → Memᴰ a (tiles_left n waits) → closer a b ≡ false) → get_or waits b 0 ≡ free_mark
    free-marked {b} m h =
        let x = mem_left n waits m in
        let s = r.standing.others b x.0 (omega arith) in
        by_test (ltb (get_or waits b 0) n)
        (λ e.
        let l = ltb-true (get_or waits b 0) n e in
        let y = s.blocked l (omega arith) in
        clash y.1 (h (get_or waits b 0) (left_mem n waits l y.0)))
        (λ e.
        let l = ltb-false (get_or waits b 0) n e in
        by_test (eqb (get_or waits b 0) free_mark)
        (λ g. eqb-true (get_or waits b 0) free_mark g)
        (λ g. absurd (left_not waits b x.1 (s.known l (eqb-false (get_or waits b 0) free_mark g)))))

    -- so no free tile has a lower number than the first that waits for none
    from_first : (b : ℕ) → Memᴰ b (tiles_left n waits)
        → ((a : ℕ) → Memᴰ a (tiles_left n waits) → closer a b ≡ false) → t ≤ b
    from_first b m h = by_test (ltb b t)
        (λ e.
        let l = ltb-true b t e in
        by_test (ltb b at)
        (λ g. absurd (r.none_free b (ltb-true b at g) (free-marked m h)))
        (λ g. absurd (first.none b (ltb-false b at g) l (free-marked m h))))
        (λ e. ltb-false b t e)

    there : IsNext closer (tiles_left n waits) (next closer (tiles_left n waits))
    there =
        steps_of.next_exists closer n strict (tiles_left n waits) (omega (arith, r.size))
        (mem_all (tiles_left n waits) (λ y m. (mem_left n waits m).0))

    pub first_inside : t < n
    first_inside =
        let b = (mem_left n waits there.here).0 in
        let h = from_first (next closer (tiles_left n waits)) there.here there.foremost in
        omega arith

    first-left : is_left waits t ≡ true
    first-left =
        let e = first.found first_inside in
        left_by waits t (λ d. let z : free_mark ≡ taken_mark = sym e ∙ d in omega arith)

    first-is-next : IsNext closer (tiles_left n waits) t
    first-is-next =
        let s = r.standing.others t first_inside (omega arith) in
        record {
          here = left_mem n waits first_inside first-left;
          foremost = λ a m. let x = mem_left n waits m in s.free (first.found first_inside) a x.0 x.1;
          least = from_first;
        }

    first_next : t ≡ next closer (tiles_left n waits)
    first_next = steps_of.next_unique closer (λ x. (λ m. m, λ m. m)) first-is-next there

    step-over : (left : List ℕ) → t ≡ next closer left
        → over (set order i t) (i + 1) (steps closer (n - (i + 1)) (without t left))
        ≡ over order i (steps closer (n - i) left)
    unfolding over steps
    step-over left e = let d : n - i ≡ suc (n - (i + 1)) = omega arith in rw (e, d, add-one)

    -- the tile is marked; up to another place all were taken
    module _ (room : n ≤ length waits) where
      pub gone_next : {low' : ℕ} → FirstLeft keys (set waits t taken_mark) low n low'
          → TakenBelow closer n keys (set waits t taken_mark) low'
      gone_next {low'} f i l u = by_test (ltb i low)
          (λ e. still (tile_at keys i) (r.gone i (ltb-true i low e) u))
          (λ e. f.none i (ltb-false i low e) l)
        where
          still : (a : ℕ) → is_left waits a ≡ false → is_left (set waits t taken_mark) a ≡ false
          still a g = by_test (eqb a t)
              (λ e.
              let q : a ≡ t = eqb-true a t e in
              let i = first_inside in
              taken_by (set waits t taken_mark) a (rw q (get_or-set_same waits t taken_mark 0 (omega arith))))
              (λ e. rw (get_or-set_other waits t a taken_mark 0 (eqb-false a t e)) g)

      pub running_next : {low' at' : ℕ} {waits' from' : List ℕ} → FirstLeft keys (set waits t taken_mark) low n low'
          → at' ≤ t → Freed closer n keys t n (set waits t taken_mark) waits' from from' at'
          → Running waits' from' (set order i t) at' low' (i + 1) whole
      running_next {low'} {at'} {waits'} f l freed =
          let inside = first_inside in
          let same = same_tiles n (set waits t taken_mark) waits' freed.same_left ∙ one_less n waits t (omega arith) in
          let less = length_without t (left_distinct n waits) first-is-next.here in
          record {
            size = rw same (omega (arith, r.size));
            standing = standing_all closer n keys freed.standing;
            gone = λ j m u. freed.same_left (tile_at keys j) ∙ gone_next f j m u;
            none_free = λ b u e.
                let d : b ≢ t = omega arith in
                let was = sym (freed.same_before b u ∙ get_or-set_other waits t b taken_mark 0 d) ∙ e in
                by_test (ltb b at)
                (λ g. r.none_free b (ltb-true b at g) was)
                (λ g. first.none b (ltb-false b at g) (omega arith) was);
            at_few = omega arith;
            low_few = f.within;
            rest = rw same (step-over (tiles_left n waits) first_next ∙ r.rest);
          }
