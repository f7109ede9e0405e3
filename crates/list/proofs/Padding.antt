-- The stops' lists one after another: over places that are zero, a list of at most k places is its k places.
use Prim.Native.Nat.{ℕ, zero, suc, ◌+◌, ◌-◌, ◌<◌, ◌≤◌}
use mathlib.Core.List.{List, ◌∷◌, ◌++◌, map}
use mathlib.Core.Path.{◌≡◌, refl, sym, ap, ◌∙◌}
use native.Mathlib.Omega.{arith}
use lib.ListN.{length, take, replicate, length-replicate, get_or-replicate}
use lib.Seq.{take-append-add}
use Rattle.base.specs.Over.{over}
use Rattle.search.specs.Run.{no_place, padded, in_rows}
use Rattle.search.specs.declared.Place.{Place}
use Rattle.base.proofs.Tabulate.{tabulate_const}
use Rattle.search.proofs.Marks.{padded-length}
use Rattle.list.specs.Inner.Keeping.{places}
use Rattle.list.specs.Slices.{Lists, lists, Long, place_at, lay}
use Rattle.list.proofs.Laying.{lay_self, lay_place, lay_after, lay_next}

map-replicate : (show : Place → ℕ) (n : ℕ) → map show (replicate n no_place) ≡ replicate n (show no_place)
map-replicate show zero = refl
map-replicate show (suc n) = ap (λ l. show no_place ∷ l) (map-replicate show n)

-- three slices set to zero are a list of zeros laid
pub clear_lays : (o : Lists) (n : ℕ)
    → lists (over o.dist 0 (replicate n 0)) (over o.site 0 (replicate n 0)) (over o.cue 0 (replicate n 0))
    ≡ lay o 0 (replicate n no_place)
unfolding lay
clear_lays o n = rw (map-replicate (λ a. a.dist) n, map-replicate (λ a. a.site) n, map-replicate (λ a. a.cue) n)

-- ---- places that are zero

abbrev pub Clear : Lists → ℕ → ℕ → Type 0
Clear o a b = (i : ℕ) → a ≤ i → i < b → place_at o i ≡ no_place

pub clear-all : (o : Lists) (n : ℕ) → Long o n → Clear (lay o 0 (replicate n no_place)) 0 n
clear-all o n g i a b =
    let m = length-replicate n no_place in
    let e : 0 + i ≡ i = omega arith in
    rw e at (lay_place o 0 (replicate n no_place) (omega arith, (omega arith, omega arith)) i (omega arith)
    ∙ get_or-replicate n i no_place no_place b)

-- those above a list that is laid stay zero
pub clear_kept : (o : Lists) (at : ℕ) (l : List Place) (a a' b : ℕ) → a ≤ a' → at + length l ≤ a' → Clear o a b
    → Clear (lay o at l) a' b
clear_kept o at l a a' b e h z i f g = lay_after o at l i (omega arith) ∙ z i (omega arith) g

-- ---- a stop

take-replicate : {A : Type 0} (n m : ℕ) (a : A) → n ≤ m → take n (replicate m a) ≡ replicate n a
take-replicate zero m a h = refl
take-replicate (suc n) zero a h = absurd (omega arith)
take-replicate (suc n) (suc m) a h = ap (λ l. a ∷ l) (take-replicate n m a (omega arith))

padded_is : (k : ℕ) (l : List Place) → length l ≤ k → padded k l ≡ l ++ replicate (k - length l) no_place
unfolding padded
padded_is k l h =
    let n = k - length l in
    let e : k ≡ length l + n = omega arith in
    ap (λ m. take m (l ++ replicate k no_place)) e ∙ take-append-add l (replicate k no_place) n
    ∙ ap (λ r. l ++ r) (take-replicate n k no_place (omega arith))

module _ (k : ℕ) (o : Lists) (at : ℕ) (l : List Place) (z : Clear o at (at + k)) (few : length l ≤ k) where
  -- over zeros a list is its k places
  lay-padded : lay o at (padded k l) ≡ lay o at l
  unfolding places
  lay-padded =
      let n = k - length l in
      let o' = lay o at l in
      let rest : places o' (at + length l) n ≡ replicate n no_place =
      tabulate_const (place_at o') no_place (at + length l) n (λ i a b. lay_after o at l i a
      ∙ z i (omega arith) (omega arith)) in
      rw (padded_is k l few) (sym (lay_next o at l (replicate n no_place)) ∙ rw rest at (lay_self o' (at + length l) n))

  -- the list of a stop is laid, and those of the later stops are left
  pub stop_laid : (ls : List (List Place)) → lay (lay o at l) (at + k) (in_rows k ls) ≡ lay o at (in_rows k (l ∷ ls))
  unfolding in_rows
  stop_laid ls =
      let n = padded-length k l in
      ap (λ z. lay z (at + k) (in_rows k ls)) (sym lay-padded) ∙ rw n at (lay_next o at (padded k l) (in_rows k ls))
