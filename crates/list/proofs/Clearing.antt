-- A slice whose first n elements are filled with one value. Assumes nothing.
use Prim.Native.Nat.{ℕ, ◌≤◌}
use mathlib.Core.List.{List, ◌++◌}
use mathlib.Core.Path.{◌≡◌, sym}
use native.Mathlib.Nat.{zero-add}
use native.Mathlib.Omega.{arith}
use lib.ListN.{length, take, drop, replicate, length-take, length-replicate}
use Rattle.base.proofs.Over.{over_eq}
use Rattle.base.specs.Over.{over}

pub filled : (d e : List ℕ) (n v : ℕ) → n ≤ length d → e ≡ replicate (length (take n d)) v
    → e ++ drop n d ≡ over d 0 (replicate n v)
filled d e n v h p =
    let m : length (take n d) ≡ n = omega (arith, length-take n d) in
    let r = length-replicate n v in
    rw (p, m) (sym (rw (r, zero-add) at (over_eq d 0 (replicate n v) (omega arith))))
