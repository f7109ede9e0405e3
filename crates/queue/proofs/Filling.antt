-- Filling the keys: one tile at a time.
use Prim.Native.Nat.{ℕ, suc, ◌+◌, ◌<◌}
use mathlib.Core.List.{List, map}
use mathlib.Core.Path.{◌≡◌, sym}
use native.Mathlib.Numerals.{add-one}
use lib.ListN.{length, get_or, set, drop}
use lib.Seq.{drop-cons, drop-length}
use Rattle.base.specs.Over.{over}
use Rattle.base.proofs.Over.{over_nil, over-cons}

module _ (g : ℕ → ℕ) (order keys : List ℕ) (j : ℕ) where
  pub keys_turn : j < length order
      → over (set keys j (g (get_or order j 0))) (j + 1) (map g (drop (j + 1) order))
      ≡ over keys j (map g (drop j order))
  keys_turn h =
      rw (add-one j, drop-cons order j 0 h)
      (sym (over-cons keys j (g (get_or order j 0)) (map g (drop (suc j) order))))

  pub keys_done : j ≡ length order → keys ≡ over keys j (map g (drop j order))
  keys_done e = rw (e, drop-length order) (sym (over_nil keys (length order)))
