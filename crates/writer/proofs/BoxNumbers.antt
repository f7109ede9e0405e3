-- A list by its elements; a box by its numbers in the directory's order, all lows and then all highs, for a number of
-- axes a. Assumes nothing.
--
--   tabulate_whole         a list by its elements
--   ends                   the box whose numbers f gives
--   ends_same, ends_only   the same numbers, the same box; and the other way
--   numbers_of             the numbers of the box
use Prim.Native.Nat.{ℕ, zero, suc, ◌+◌, ◌<◌}
use mathlib.Core.List.{List, [], ◌∷◌, ◌++◌, map}
use mathlib.Core.Path.{◌≡◌, refl, sym, ap, ◌∙◌}
use native.Mathlib.Nat.{add-zero, zero-add}
use native.Mathlib.Omega.{arith}
use lib.IntN.{ℤ, pos}
use lib.ListN.{get_or, length}
use lib.Seq.{take_all}
use Rattle.base.specs.Tabulate.{tabulate}
use Rattle.encode.specs.Supply.{numbers_per_box}
use Rattle.geometry.specs.Box.{lo, hi}
use Rattle.base.proofs.Tabulate.{get_d_tabulate, tabulate-same, tabulate-part}
use Rattle.writer.specs.Made.{box_numbers}

pub tabulate_whole : {A : Type 0} (l : List A) (d : A) (n : ℕ) → length l ≡ n → tabulate (λ i. get_or l i d) 0 n ≡ l
tabulate_whole l d n e =
    tabulate-same (λ i. get_or l i d) (λ i. get_or l (0 + i) d) 0 n (λ i h. let z = zero-add i in rw (z, z))
    ∙ tabulate-part l d 0 n (omega arith) ∙ take_all n l (omega arith)

abbrev pub ends : ℕ → (ℕ → ℤ) → List (List ℤ)
ends a f = tabulate (λ axis. f axis ∷ f (a + axis) ∷ []) 0 a

map-ends : (f g : ℕ → ℤ) (i n : ℕ) → let b = tabulate (λ axis. f axis ∷ g axis ∷ []) i n in
    (map lo b ≡ tabulate f i n) × (map hi b ≡ tabulate g i n)
unfolding tabulate
map-ends f g i zero = (refl, refl)
map-ends f g i (suc n) = let r = map-ends f g (i + 1) n in (rw r.0, rw r.1)

-- n numbers and m more, which are counted from i + n on
more : (f : ℕ → ℤ) (i n m : ℕ) → tabulate f i n ++ tabulate f (i + n) m ≡ tabulate f i (n + m)
unfolding tabulate
more f i zero m = rw (add-zero i, zero-add m)
more f i (suc n) m =
    let e : i + suc n ≡ i + 1 + n = omega arith in
    let q : suc n + m ≡ suc (n + m) = omega arith in
    rw (e, q, more f (i + 1) n m)

shifted : (f : ℕ → ℤ) (a i n : ℕ) → tabulate (λ j. f (a + j)) i n ≡ tabulate f (a + i) n
unfolding tabulate
shifted f a i zero = refl
shifted f a i (suc n) = let e : a + (i + 1) ≡ a + i + 1 = omega arith in rw (shifted f a (i + 1) n, e)

module _ (a : ℕ) where
  pub numbers_of : (f : ℕ → ℤ) → box_numbers (ends a f) ≡ tabulate f 0 (numbers_per_box a)
  unfolding box_numbers
  numbers_of f =
      let m = map-ends f (λ j. f (a + j)) 0 a in
      let e : a + 0 ≡ 0 + a = omega arith in
      let q : a + a ≡ numbers_per_box a = omega arith in
      rw (m.0, m.1) (ap (λ l. tabulate f 0 a ++ l) (shifted f a 0 a ∙ ap (λ k. tabulate f k a) e)
      ∙ more f 0 a a ∙ ap (tabulate f 0) q)

  pub ends_same : (f g : ℕ → ℤ) → ((n : ℕ) → n < numbers_per_box a → f n ≡ g n) → ends a f ≡ ends a g
  ends_same f g e =
      tabulate-same (λ axis. f axis ∷ f (a + axis) ∷ []) (λ axis. g axis ∷ g (a + axis) ∷ []) 0 a
      (λ i l. rw (e (0 + i) (omega arith), e (a + (0 + i)) (omega arith)))

  pub ends_only : (f g : ℕ → ℤ) → ends a f ≡ ends a g → (n : ℕ) → n < numbers_per_box a → f n ≡ g n
  ends_only f g e n l = sym (at f) ∙ ap (λ b. get_or (box_numbers b) n (pos 0)) e ∙ at g
    where
      at : (h : ℕ → ℤ) → get_or (box_numbers (ends a h)) n (pos 0) ≡ h n
      at h = ap (λ l. get_or l n (pos 0)) (numbers_of h) ∙ get_d_tabulate h (pos 0) 0 (numbers_per_box a) n l
          ∙ ap h (zero-add n)
