-- Laws of lists that are given element by element. Assumes nothing.
--
--   length-tabulate, get_d_tabulate   how long such a list is, and its elements
--   tabulate_last, tabulate-take      its last element, its first ones
--   tabulate-same, tabulate_const     functions that agree; one that gives the same everywhere
--   tabulate-all                      what holds of all that the function gives
--   tabulate-part                     a part of a list is such a list
use Prim.Native.Nat.{ℕ, zero, suc, ◌+◌, ◌<◌, ◌≤◌}
use mathlib.Core.List.{List, [], ◌∷◌, ◌++◌}
use mathlib.Core.Path.{◌≡◌, refl, sym, ap, ◌∙◌}
use native.Mathlib.Nat.{add-zero, zero-add, not-suc-le-zero, le_of_suc-le-suc}
use native.Mathlib.Omega.{arith}
use lib.ListN.{length, get_or, take, drop, replicate, length-drop}
use lib.Seq.{length-take-le, get_or-take, get_or-drop, ext_get_or}
use Rattle.base.specs.Tabulate.{tabulate}

module _ {A : Type 0} (g : ℕ → A) where
  pub length-tabulate : (a n : ℕ) → length (tabulate g a n) ≡ n
  unfolding tabulate
  length-tabulate a zero = refl
  length-tabulate a (suc n) = ap suc (length-tabulate (a + 1) n)

  pub get_d_tabulate : (d : A) (a n i : ℕ) → i < n → get_or (tabulate g a n) i d ≡ g (a + i)
  unfolding tabulate
  get_d_tabulate d a zero i l = absurd (not-suc-le-zero l)
  get_d_tabulate d a (suc n) zero l = rw add-zero
  get_d_tabulate d a (suc n) (suc i) l =
      let e : a + 1 + i ≡ a + suc i = omega arith in
      get_d_tabulate d (a + 1) n i (le_of_suc-le-suc l) ∙ ap g e

  -- the last element by itself
  pub tabulate_last : (a n : ℕ) → tabulate g a (suc n) ≡ tabulate g a n ++ g (a + n) ∷ []
  unfolding tabulate
  tabulate_last a zero = rw add-zero
  tabulate_last a (suc n) =
      let e : a + 1 + n ≡ a + suc n = omega arith in
      ap (λ l. g a ∷ l) (tabulate_last (a + 1) n ∙ rw e)

  pub tabulate-same : (h : ℕ → A) (a n : ℕ) → ((i : ℕ) → i < n → g (a + i) ≡ h (a + i))
      → tabulate g a n ≡ tabulate h a n
  unfolding tabulate
  tabulate-same h a zero e = refl
  tabulate-same h a (suc n) e =
      let here : g a ≡ h a = rw (add-zero a) at (e 0 (omega arith)) in
      let rest = tabulate-same h (a + 1) n (λ i l. let q : a + 1 + i ≡ a + (i + 1) = omega arith in
      rw q (e (i + 1) (omega arith))) in
      rw (here, rest)

  pub tabulate_const : (c : A) (a n : ℕ) → ((i : ℕ) → a ≤ i → i < a + n → g i ≡ c) → tabulate g a n ≡ replicate n c
  unfolding tabulate
  tabulate_const c a zero e = refl
  tabulate_const c a (suc n) e =
      rw (e a (omega arith) (omega arith), tabulate_const c (a + 1) n (λ i l m. e i (omega arith) (omega arith)))

  pub tabulate-take : (a n m : ℕ) → m ≤ n → take m (tabulate g a n) ≡ tabulate g a m
  unfolding tabulate
  tabulate-take a n zero h = refl
  tabulate-take a zero (suc m) h = absurd (omega arith)
  tabulate-take a (suc n) (suc m) h = ap (λ l. g a ∷ l) (tabulate-take (a + 1) n m (omega arith))

  -- what holds of all that g gives
  pub tabulate-all {ℓ} : (P : A → Type ℓ) (d : A) (a n : ℕ) → P d → ((i : ℕ) → P (g i)) → (i : ℕ)
      → P (get_or (tabulate g a n) i d)
  unfolding tabulate
  tabulate-all P d a zero z h i = z
  tabulate-all P d a (suc n) z h zero = h a
  tabulate-all P d a (suc n) z h (suc i) = tabulate-all P d (a + 1) n z h i

-- elements of a list one by one are a part of it
pub tabulate-part : {A : Type 0} (l : List A) (d : A) (a n : ℕ) → a + n ≤ length l →
    tabulate (λ i. get_or l (a + i) d) 0 n ≡ take n (drop a l)
tabulate-part l d a n h =
    let size : length (take n (drop a l)) ≡ n = length-take-le n (drop a l) (omega (arith, length-drop a l)) in
    ext_get_or d (tabulate (λ i. get_or l (a + i) d) 0 n) (take n (drop a l))
    (length-tabulate (λ i. get_or l (a + i) d) 0 n
    ∙ sym size)
    (λ i k. let m : i < n = omega (arith, length-tabulate (λ i. get_or l (a + i) d) 0 n) in
    get_d_tabulate (λ i. get_or l (a + i) d) d 0 n i m ∙ ap (λ j. get_or l (a + j) d) (zero-add i)
    ∙ sym (get_or-take n (drop a l) i d m ∙ get_or-drop a l i d))
