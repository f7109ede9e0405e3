-- A sum over the tiles, turn by turn, and what the sum over a table decides. Assumes nothing.
use Prim.Native.Nat.{ℕ, zero, suc, ◌+◌, ◌-◌, ◌<◌, ◌≤◌}
use mathlib.Core.Bool.{Bool, false, cond}
use mathlib.Core.List.{List}
use mathlib.Core.Path.{◌≡◌, refl, ap}
use native.Mathlib.Nat.{add-zero, zero-add}
use native.Mathlib.Numerals.{add-one}
use native.Mathlib.Omega.{arith}
use lib.Dec.{leb}
use lib.IntN.{ℤ}
use Rattle.base.specs.Refusal.{accepted}
use Rattle.blocks.specs.Directory.{directory}
use Rattle.blocks.specs.declared.header.Header.{Header}
use Rattle.corners.specs.Inner.Tables.{FarTable, NearTable}
use Rattle.plan.specs.FilePlan.{entries}
use Rattle.plan.specs.Inner.Seam.{ValidRegion}
use Rattle.search.specs.Lists.{range, bit, count, total}
use Rattle.search.specs.Pruning.{pruned}
use Rattle.corners.proofs.CornerTables.{tells_closer}
use Rattle.search.proofs.Lists.{all_map, range_below}
use Rattle.search.proofs.SameEntries.{total-same}
use Rattle.prune.specs.Inner.Sum.{sum_below}

module _ (p : ℕ → Bool) (w : ℕ → ℕ) where
  pub sum_turn : (e n : ℕ) → e < n
      → cond (p e) (w e) 0 + total p w (range (e + 1) (n - (e + 1))) ≡ total p w (range e (n - e))
  unfolding total
  sum_turn e n h = let d : n - e ≡ suc (n - (e + 1)) = omega arith in rw (d, add-one e)

  pub sum_done : (e n : ℕ) → n ≤ e → total p w (range e (n - e)) ≡ 0
  unfolding total
  sum_done e n h = let d : n - e ≡ 0 = omega arith in rw d

  -- tiles that do not count
  sum_past : (e j n : ℕ) → e + j ≤ n → ((i : ℕ) → e ≤ i → i < e + j → p i ≡ false)
      → total p w (range (e + j) (n - (e + j))) ≡ total p w (range e (n - e))
  sum_past e zero n h none = rw (add-zero e)
  sum_past e (suc j) n h none =
      let a : e + suc j ≡ e + j + 1 = omega arith in
      let before = sum_past e j n (omega arith) (λ i l u. none i l (omega arith)) in
      let here : cond (p (e + j)) (w (e + j)) 0 ≡ 0 = rw (none (e + j) (omega arith) (omega arith)) in
      rw a (omega (arith, sum_turn (e + j) n (omega arith)))

  pub sum_skip : (e r n : ℕ) → e ≤ r → r ≤ n → ((i : ℕ) → e ≤ i → i < r → p i ≡ false)
      → total p w (range r (n - r)) ≡ total p w (range e (n - e))
  sum_skip e r n h k none =
      let a : e + (r - e) ≡ r = omega arith in
      rw a at (sum_past e (r - e) n (omega arith) (λ i l u. none i l (omega arith)))

  -- a part of the tiles makes no more than all of them
  front_most : (s m n : ℕ) → m ≤ n → total p w (range s m) ≤ total p w (range s n)
  unfolding total
  front_most s zero n h = omega arith
  front_most s (suc m) zero h = absurd (omega arith)
  front_most s (suc m) (suc n) h = omega (arith, front_most (suc s) m n (omega arith))

  part_most : (s a m n : ℕ) → a + m ≤ n → total p w (range (s + a) m) ≤ total p w (range s n)
  unfolding total
  part_most s zero m n h = rw (add-zero s) (front_most s m n (omega arith))
  part_most s (suc a) m zero h = absurd (omega arith)
  part_most s (suc a) m (suc n) h =
      let e : s + suc a ≡ suc s + a = omega arith in
      rw e (omega (arith, part_most (suc s) a m n (omega arith)))

  pub sum-part : (a b n : ℕ) → a ≤ b → b ≤ n → total p w (range a (b - a)) ≤ total p w (range 0 n)
  sum-part a b n h l = rw (zero-add a) at (part_most 0 a (b - a) n (omega arith))

-- how many pass a test
module _ (p : ℕ → Bool) where
  pub count_turn : (e n : ℕ) → e < n → bit (p e) + count p (range (e + 1) (n - (e + 1))) ≡ count p (range e (n - e))
  unfolding count
  count_turn e n h = let d : n - e ≡ suc (n - (e + 1)) = omega arith in rw (d, add-one e)

  pub count_done : (e n : ℕ) → n ≤ e → count p (range e (n - e)) ≡ 0
  unfolding count
  count_done e n h = let d : n - e ≡ 0 = omega arith in rw d

-- the sum over the tables of a region decides
pub sum_prunes : (f : List ℕ) (h : Header) → directory f ≡ accepted h → (o : List (List ℤ)) → ValidRegion h o
    → {d : List ℕ} → FarTable f h o (λ t. t) h.tiles d → (t : ℕ) → t < h.tiles
    → (nears : List ℕ) → NearTable f h o t nears
    → (k : ℕ) → leb k (sum_below f h d nears 0 h.tiles) ≡ pruned (entries f h) o k t
unfolding pruned
sum_prunes f h dir o v table t below nears from k =
    let ts = range 0 h.tiles in
    let all = range_below 0 h.tiles h.tiles (omega arith) in
    ap (leb k) (total-same _ _ _ _ ts
    (all_map ts (λ e l. (tells_closer f h o dir v (λ t. t) table t below nears from e l l, refl)) all))
