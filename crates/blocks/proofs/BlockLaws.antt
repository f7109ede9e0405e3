-- Laws of the blocks of a file. Assumes nothing.
use Prim.Native.Nat.{ℕ, ◌+◌, ◌-◌, ◌*◌, ◌≤◌}
use mathlib.Core.Bool.{true, cond}
use mathlib.Core.List.{List}
use mathlib.Core.Path.{◌≡◌, ap}
use native.Mathlib.Nat.{add-sub_cancel_left}
use native.Mathlib.Omega.{arith}
use lib.Dec.{eqb, ltb, lit<}
use lib.ListN.{get_or, length, take, drop, length-take, length-drop, get_or-eq_default}
use lib.Seq.{length-take-le, get_or-take, get_or-drop}
use borrow.Author.Tests.{eqb-true, eq-eqb, ltb-true, ltb-false}
use Rattle.base.specs.Refusal.{accepted, #sync, #check, #kind}
use Rattle.codec.specs.Number.{Bytes}
use Rattle.base.proofs.Outcomes.{require_accepted}
use Rattle.base.proofs.Tests.{by_test, cond_ind}
use Rattle.geometry.specs.Axes.{KnownAxes}
use Rattle.geometry.proofs.Theorems.{by_axes}
use Rattle.blocks.specs.Accepted.{GoodHead}
use Rattle.blocks.specs.Block.{block_at, position_in, axes_in, kind_due, block_start}
use Rattle.blocks.specs.Checksum.{check_agrees}
use Rattle.blocks.specs.Layout.{block_size, plan, height, sync_byte, directory_kind, kind_at}

-- a block as the code takes it from the file
pub part_block : (f : List ℕ) (p : ℕ) →
    take (block_size * p + block_size - block_size * p) (drop (block_size * p) f) ≡ block_at f p
unfolding block_at
part_block f p = ap (λ k. take k (drop (block_size * p) f)) (add-sub_cancel_left (block_size * p) block_size)

pub length_block : (f : List ℕ) (p : ℕ) → block_size * p + block_size ≤ length f → length (block_at f p) ≡ block_size
unfolding block_at
length_block f p h = length-take-le block_size (drop (block_size * p) f) (omega (arith, length-drop (block_size * p) f))

-- a block of a file of bytes is one of bytes
pub block_bytes_lem : (f : List ℕ) (p : ℕ) → Bytes f → Bytes (block_at f p)
unfolding block_at
block_bytes_lem f p byte i =
    let s = drop (block_size * p) f in
    by_test (ltb i block_size)
    (λ e. rw (get_or-take block_size s i 0 (ltb-true i block_size e), get_or-drop (block_size * p) f i 0)
    (byte (block_size * p + i)))
    (λ e. let l : length (take block_size s) ≤ i = omega (arith, length-take block_size s, ltb-false i block_size e) in
    rw (get_or-eq_default (take block_size s) 0 l) (lit< tt))

-- tests 2 to 4, and with test 5 a good head
pub start_good : (kind : ℕ) (s : List ℕ) (p : ℕ) {u : Unit} → block_start kind s p ≡ accepted u →
    eqb (position_in s) p ≡ true → GoodHead kind s p
unfolding block_start
start_good kind s p e q =
    let a = require_accepted _ _ _ _ e in
    let b = require_accepted _ _ _ _ a.1 in
    let c = require_accepted _ _ _ _ b.1 in
    record {
      sync = eqb-true (get_or s 0 0) sync_byte a.0;
      check = b.0;
      due = c.0;
      position = eqb-true (position_in s) p q;
    }

pub start_kind : (kind : ℕ) (s : List ℕ) (p : ℕ) → block_start kind s p ≡ accepted tt → kind_due kind s ≡ true
unfolding block_start
start_kind kind s p e =
    let a = require_accepted (eqb (get_or s 0 0) sync_byte) #sync p _ e in
    let b = require_accepted (check_agrees s) #check p _ a.1 in
    (require_accepted (kind_due kind s) #kind p (accepted tt) b.1).0

pub start_enough : (kind : ℕ) (s : List ℕ) (p : ℕ) → GoodHead kind s p → block_start kind s p ≡ accepted tt
unfolding block_start
start_enough kind s p g = rw (eq-eqb (get_or s 0 0) sync_byte g.sync, g.check, g.due)

-- ---- the axes that a block has by its kind
pub axes_known : (s : List ℕ) → KnownAxes (axes_in s)
unfolding axes_in
axes_known s =
    cond_ind (eqb (get_or s kind_at 0) (directory_kind height)) height plan KnownAxes
    (λ _. (omega arith, omega arith)) (λ _. (omega arith, omega arith))

pub axes_of_kind : (a : ℕ) (s : List ℕ) → KnownAxes a → kind_due (directory_kind a) s ≡ true → axes_in s ≡ a
unfolding axes_in kind_due
axes_of_kind a s k e =
    by_axes (λ n. eqb (get_or s kind_at 0) (directory_kind n) ≡ true
    → cond (eqb (get_or s kind_at 0) (directory_kind height)) height plan ≡ n)
    (λ t. rw (eqb-true (get_or s kind_at 0) 1 t))
    (λ t. rw t) a k e
