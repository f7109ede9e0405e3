use Prim.Native.Nat.{◌+◌}
use mathlib.Core.List.{[], ◌∷◌, ◌++◌}
use mathlib.Core.Path.{◌≡◌, refl}
use native.Mathlib.Numerals.{add-one}
use native.Mathlib.Omega.{arith}
use lib.Dec.{eqb}
use lib.ListN.{get_or, take}
use lib.Seq.{take-suc}
use Rattle.search.specs.Lists.{count}
use Rattle.search.specs.Run.{opened_mark}
use Rattle.base.proofs.HowMany.{bit-small, bit_byte}
use Rattle.search.proofs.Lists.{count-append}
use Rattle.serve.proofs.marks.count_opened.Goals as goal

pub loop-t-init : goal.loop-t-init
unfolding count
loop-t-init c = (omega arith, refl)

pub bounds-marks-t : goal.bounds-marks-t
bounds-marks-t c = omega (arith, c.requires)

pub overflow_add-opened : goal.overflow_add-opened
overflow_add-opened c =
    let t = eqb (get_or c.args.marks.now c.loop-t.t 0) opened_mark in
    let b = bit_byte t in
    let m = bit-small t in
    omega (arith, c.requires)

pub loop-t-preserved : goal.loop-t-preserved
unfolding count
loop-t-preserved c =
    let marks = c.args.marks.now in
    let at = c.loop-t.t in
    let here = get_or marks at 0 in
    let b = bit_byte (eqb here opened_mark) in
    let m = bit-small (eqb here opened_mark) in
    let q : take (at + 1) marks ≡ take at marks ++ here ∷ [] = rw (add-one at)
    (take-suc marks at 0 (omega (arith, c.requires))) in
    let more = count-append (λ m. eqb m opened_mark) (take at marks) (here ∷ []) in
    (omega arith, rw (b, q, more) (omega (arith, c.loop-t.invariant.1)))

pub returns : goal.returns
returns c =
    let l = c.loop-t in
    let e : l.t ≡ c.args.h.tiles = omega arith in
    (rw e at l.invariant.1, omega arith)
