-- Laws of what the program reads. The sets are what its calls need besides: `limits` for the tests of a request,
-- `requests` for one that passed them.
use Prim.Native.Nat.{ℕ, suc, ◌+◌, ◌*◌, ◌-◌, ◌<◌, ◌≤◌}
use mathlib.Core.Bool.{true, ◌&&◌}
use mathlib.Core.List.{List, [], ◌∷◌, ◌++◌, append_assoc}
use mathlib.Core.Path.{◌≡◌, sym, ◌∙◌}
use native.Mathlib.Nat.{zero-add}
use native.Mathlib.Numerals.{add-one}
use native.Mathlib.Omega.{arith}
use lib.Dec.{leb}
use lib.IntN.{ℤ, pos}
use lib.ListN.{length, get_or, set, take, drop, length-drop}
use lib.Seq.{take_all, take_at, set_at, drop-cons}
use borrow.Author.Tests.{leb-true}
use Rattle.std.proofs.lemmas.Bool.Decides.{nat_tests}
use Rattle.std.proofs.lemmas.Grind.{common_steps}
use Rattle.base.proofs.Tabulate.{length-tabulate, tabulate_last}
use Rattle.base.proofs.Tests.{and_both}
use Rattle.codec.specs.Number.{i32_at}
use Rattle.console.specs.Limits.{max_input, request_stops}
use Rattle.console.specs.Request.{stops_asked, coordinates, head_length, well_formed}

pub length-coordinates : (input : List ℕ) (at n : ℕ) → length (coordinates input at n) ≡ n
unfolding coordinates
length-coordinates input at n = length-tabulate _ 0 n

-- one more number of a stop, stored after the others
pub stored_next : (input : List ℕ) (at i : ℕ) (l₀ l : List ℤ) → i < length l₀ → l ≡ coordinates input at i ++ drop i l₀
    → set l i (i32_at input (at + 8 * i)) ≡ coordinates input at (i + 1) ++ drop (i + 1) l₀
unfolding coordinates
stored_next input at i l₀ l h e =
    let v = i32_at input (at + 8 * i) in
    let some = coordinates input at i in
    let next : coordinates input at (suc i) ≡ some ++ v ∷ [] =
    rw (zero-add i) at (tabulate_last (λ j. i32_at input (at + 8 * j)) 0 i) in
    rw (e, drop-cons l₀ i (pos 0) h, add-one i, next)
    (set_at some (get_or l₀ i (pos 0)) (drop (suc i) l₀) v i (length-coordinates input at i)
    ∙ sym (append_assoc some (v ∷ []) (drop (suc i) l₀)))

-- those at the front
pub stored_all : (input : List ℕ) (at n : ℕ) (rest l : List ℤ) → l ≡ coordinates input at n ++ rest
    → take n l ≡ coordinates input at n
stored_all input at n rest l e = rw e (take_at (coordinates input at n) rest n (length-coordinates input at n))

-- ---- a whole request
pub record Whole (input : List ℕ) : Type 0 where
  pub long : 8 ≤ length input
  pub few : stops_asked input ≤ request_stops
  pub stops : 8 + 8 * stops_asked input ≤ length input

pub whole : (input : List ℕ) → well_formed input ≡ true → Whole input
unfolding well_formed head_length
whole input e =
    let n = stops_asked input in
    let p = and_both (leb 8 (length input) && leb (length input) max_input)
    (leb n request_stops && leb (8 + 8 * n) (length input)) e in
    let q = and_both (leb 8 (length input)) (leb (length input) max_input) p.0 in
    let r = and_both (leb n request_stops) (leb (8 + 8 * n) (length input)) p.1 in
    record { long = leb-true _ _ q.0; few = leb-true _ _ r.0; stops = leb-true _ _ r.1 }

pub ruleset limits = nat_tests

pub ruleset requests = (whole, common_steps)

-- all that is left of a list after some of it
pub rest_all : (l : List ℕ) (a : ℕ) → take (length l - a) (drop a l) ≡ drop a l
rest_all l a = take_all (length l - a) (drop a l) (omega (arith, length-drop a l))
