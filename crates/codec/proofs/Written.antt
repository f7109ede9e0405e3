-- What calls that write leave in a part of a slice. Assumes nothing.
--
--   part_over                  a part that holds other elements now
--   le_bytes_16, le_bytes_32   the bytes that the library gives
use Prim.Native.Nat.{ℕ, ◌+◌, ◌/◌, ◌%◌, ◌≤◌}
use mathlib.Core.List.{List, ◌++◌, append_assoc}
use mathlib.Core.Path.{◌≡◌, sym, ap, ◌∙◌}
use native.Mathlib.Omega.{arith}
use lib.ListN.{length, take, drop}
use lib.Seq.{drop-drop}
use borrow.Rule.Slice.PartMut.{put_mid}
use mir.Syntax.{w16, w32}
use Rattle.base.specs.Over.{over}
use Rattle.base.proofs.Over.{over_eq}
use Rattle.codec.specs.Bytes.{bytes, bytes16, bytes32}
use Rattle.std.specs.Int.{to_le_bytes}

-- the k elements from index i on, lent as `&mut s[i..e]`, are vs now
pub part_over : {A : Type 0} (l : List A) (i k : ℕ) {ys vs : List A} → ys ≡ vs → length vs ≡ k → i + k ≤ length l →
    put_mid i k l ys ≡ over l i vs
part_over l i k {ys} {vs} e n h =
    rw (e, ← n) (ap (λ r. take i l ++ (vs ++ r)) (drop-drop (length vs) i l)
    ∙ sym (append_assoc (take i l) vs (drop (i + length vs) l)) ∙ sym (over_eq l i vs (omega arith)))

pub le_bytes_16 : (n : ℕ) → to_le_bytes w16 (n % 0x1_0000) ≡ bytes16 n
unfolding bytes16 bytes
le_bytes_16 n =
    let low : n % 0x1_0000 % 256 ≡ n % 256 = omega arith in
    let high : n % 0x1_0000 / 256 % 256 ≡ n / 256 % 256 = omega arith in
    rw (low, high)

pub le_bytes_32 : (n : ℕ) → to_le_bytes w32 n ≡ bytes32 n
unfolding bytes32 bytes
le_bytes_32 n =
    let third : n / 0x1_0000 ≡ n / 256 / 256 = omega arith in
    let fourth : n / 0x100_0000 ≡ n / 256 / 256 / 256 = omega arith in
    rw (third, fourth)
