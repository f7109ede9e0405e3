-- Gathering the waiting tiles: each tile is written behind those gathered, and counted if it waits.
use Prim.Native.Nat.{ℕ, zero, suc, ◌+◌, ◌-◌, ◌<◌, ◌≤◌}
use mathlib.Core.Bool.{Bool, true}
use mathlib.Core.List.{List, [], ◌∷◌, ◌++◌, append_assoc}
use mathlib.Core.Path.{◌≡◌, sym, ◌∙◌}
use native.Mathlib.Nat.{add-zero}
use native.Mathlib.Numerals.{add-one}
use native.Mathlib.Omega.{arith}
use lib.Dec.{ltb}
use lib.ListN.{length, take, drop, set, length-append, length-set}
use lib.Seq.{take_at}
use borrow.Author.Tests.{lt-ltb}
use Rattle.base.specs.Over.{over}
use Rattle.search.specs.Lists.{range, bit, filter, All}
use Rattle.search.specs.Order.{Strict}
use Rattle.base.proofs.Over.{over_eq, over_nil, over-cons, over-set}
use Rattle.base.proofs.Tests.{by_test}
use Rattle.base.proofs.HowMany.{bit-small}
use Rattle.search.proofs.Lists.{all_map, filter-all, range_below, range_above, range_length}
use Rattle.queue.specs.Inner.Keys.{spare, Gathers}

module _ (w : ℕ → Bool) where
  -- what the tiles of a list leave behind those gathered
  abbrev written : List ℕ → List ℕ
  written l = filter w l ++ spare w l

  some_written : (t : ℕ) (l : List ℕ) → 0 < length (written (t ∷ l))
  unfolding filter spare
  some_written t [] = by_test (w t) (λ e. rw e (omega arith)) (λ e. rw e (omega arith))
  some_written t (u ∷ l) = by_test (w t) (λ e. rw e (omega arith)) (λ e. rw e (some_written u l))

  few_written : (l : List ℕ) → length (written l) ≤ length l
  unfolding filter spare
  few_written [] = omega arith
  few_written (t ∷ []) = by_test (w t) (λ e. rw e (omega arith)) (λ e. rw e (omega arith))
  few_written (t ∷ u ∷ l) =
      let ih = few_written (u ∷ l) in
      by_test (w t) (λ e. rw e (omega arith)) (λ e. rw e (omega arith))

  -- a tile written, and the rest
  write_turn : (order : List ℕ) (m t : ℕ) (l : List ℕ)
      → over (set order m t) (m + bit (w t)) (written l) ≡ over order m (written (t ∷ l))
  unfolding filter spare
  write_turn order m t [] = by_test (w t)
      (λ e. rw (e, add-one m, over-cons order m t []))
      (λ e. rw (e, add-zero m, over_nil (set order m t) m, over-cons order m t [], over_nil (set order m t) (suc m)))
  write_turn order m t (u ∷ l) = by_test (w t)
      (λ e. rw (e, add-one m) (sym (over-cons order m t (written (u ∷ l)))))
      (λ e. rw (e, add-zero m) (over-set order m m t (written (u ∷ l)) (omega arith) (omega (arith, some_written u l))))

  filter_turn : (t : ℕ) (l : List ℕ) → bit (w t) + length (filter w l) ≡ length (filter w (t ∷ l))
  unfolding filter
  filter_turn t l = by_test (w t) (λ e. rw e (omega arith)) (λ e. rw e (omega arith))

-- the loop: the tiles below t are gone through, and m of them wait
pub record Gathering (w : ℕ → Bool) (n : ℕ) (order₀ order : List ℕ) (m t : ℕ) : Type 0 where
  pub within : t ≤ n
  pub behind : m ≤ t
  pub same : length order ≡ length order₀
  pub number : m + length (filter w (range t (n - t))) ≡ length (filter w (range 0 n))
  pub rest : over order m (written w (range t (n - t))) ≡ over order₀ 0 (written w (range 0 n))

module _ {w : ℕ → Bool} {n : ℕ} {order₀ order : List ℕ} {m t : ℕ} (g : Gathering w n order₀ order m t) where
  pub gathering_turn : {v : ℕ} → t < n → v ≡ bit (w t) → Gathering w n order₀ (set order m t) (m + v) (t + 1)
  gathering_turn h e =
      let l = range (suc t) (n - suc t) in
      let d : n - t ≡ suc (n - suc t) = omega arith in
      let c = filter_turn w t l in
      let k = rw d at g.number in
      let small = bit-small (w t) in
      record {
        within = omega arith;
        behind = omega (arith, g.behind);
        same = length-set order m t ∙ g.same;
        number = rw (add-one t, e) (omega arith);
        rest = rw (add-one t, e) (write_turn w order m t l ∙ rw d at g.rest);
      }

  pub gathering_done : n ≤ t → Gathers w n order₀ m order
  unfolding filter spare
  gathering_done h =
      let d : n - t ≡ 0 = omega arith in
      let k = rw d at g.number in
      record { number = omega arith; written = sym (over_nil order m) ∙ rw d at g.rest }

-- ---- what is gathered

-- the front of the slice: the waiting tiles
pub gathered : {w : ℕ → Bool} {n : ℕ} {order : List ℕ} {r : ℕ} {order' : List ℕ} → Gathers w n order r order'
    → n ≤ length order → (r ≤ n) × (take r order' ≡ filter w (range 0 n))
gathered {w} {n} {order} {r} {order'} g h =
    let all = range 0 n in
    let l = few_written w all in
    let k = range_length 0 n in
    let f = length-append (filter w all) (spare w all) in
    let e : over order 0 (written w all) ≡ filter w all ++ (spare w all ++ drop (0 + length (written w all)) order) =
    over_eq order 0 (written w all) (omega arith) ∙ append_assoc (filter w all) (spare w all) _ in
    (omega (arith, g.number), rw (g.written, e) (take_at (filter w all) _ r (sym g.number)))

-- they are tiles, and they rise
pub waiting_tiles : (w : ℕ → Bool) (n : ℕ) → All (λ t. t < n) (filter w (range 0 n))
waiting_tiles w n = filter-all (λ t. t < n) w (range 0 n) (range_below 0 n n (omega arith))

rise : (w : ℕ → Bool) (a n : ℕ) → Strict ltb (filter w (range a n))
unfolding filter
rise w a zero = tt
rise w a (suc n) =
    let later = all_map (range (suc a) n) (λ t l. lt-ltb a t l) (range_above (suc a) n (suc a) (omega arith)) in
    by_test (w a)
    (λ e. rw e (filter-all (λ t. ltb a t ≡ true) w (range (suc a) n) later, rise w (suc a) n))
    (λ e. rw e (rise w (suc a) n))

pub waiting_rise : (w : ℕ → Bool) (n : ℕ) → Strict ltb (filter w (range 0 n))
waiting_rise w n = rise w 0 n
