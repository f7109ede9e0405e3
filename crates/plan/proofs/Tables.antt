-- For the crates above: a table filled element by element: one turn of the loop, its end, and reading it.
use Prim.Native.Nat.{ℕ, suc, ◌+◌, ◌-◌, ◌<◌, ◌≤◌}
use mathlib.Core.List.{List, map}
use mathlib.Core.Path.{◌≡◌, sym, ap, ◌∙◌}
use native.Mathlib.Nat.{zero-add}
use native.Mathlib.Numerals.{add-one}
use native.Mathlib.Omega.{arith}
use lib.ListN.{length, get_or, set, take, length-map}
use lib.Seq.{take_at}
use Rattle.base.specs.Over.{over}
use Rattle.search.specs.Lists.{range}
use Rattle.search.proofs.Lists.{get_d_map_lt, range_length, range_get_d}
use Rattle.base.proofs.Over.{over_eq, over_nil, over-cons, get_d_run}

module _ (g : ℕ → ℕ) where
  -- what g gives for t stands at index i
  pub table_turn : (d : List ℕ) (i t n : ℕ) → t < n
      → over (set d i (g t)) (i + 1) (map g (range (t + 1) (n - (t + 1)))) ≡ over d i (map g (range t (n - t)))
  table_turn d i t n h =
      let e : n - t ≡ suc (n - (t + 1)) = omega arith in
      rw (e, add-one i) (sym (over-cons d i (g t) (map g (range (suc t) (n - (t + 1)))) ∙ rw (add-one t)))

  pub table_done : (d : List ℕ) (i t n : ℕ) → n ≤ t → d ≡ over d i (map g (range t (n - t)))
  table_done d i t n h = let e : n - t ≡ 0 = omega arith in rw e (sym (over_nil d i))

  pub table-length : (a n : ℕ) → length (map g (range a n)) ≡ n
  table-length a n = length-map (range a n) g ∙ range_length a n

  pub table_at : (a n i : ℕ) → i < n → get_or (map g (range a n)) i 0 ≡ g (a + i)
  table_at a n i h = get_d_map_lt g (range a n) i 0 0 (rw (range_length a n) h) ∙ ap g (range_get_d a n i h)

  pub filled_at : (d : List ℕ) (n t : ℕ) → n ≤ length d → t < n → get_or (over d 0 (map g (range 0 n))) t 0 ≡ g t
  filled_at d n t h k =
      let l = table-length 0 n in
      ap (λ (i : ℕ). get_or (over d 0 (map g (range 0 n))) i 0) (sym (zero-add t))
      ∙ get_d_run d 0 t (map g (range 0 n)) (omega arith) (omega arith)
      ∙ table_at 0 n t k ∙ rw (zero-add t)

  pub filled-take : (d : List ℕ) (n : ℕ) → n ≤ length d → take n (over d 0 (map g (range 0 n))) ≡ map g (range 0 n)
  filled-take d n h =
      let l = table-length 0 n in
      rw (over_eq d 0 (map g (range 0 n)) (omega arith)) (take_at (map g (range 0 n)) _ n l)
