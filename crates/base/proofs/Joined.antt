-- Laws of lists that are given part by part. Assumes nothing.
--
--   length-joined, length-joined_next   how long, with parts of one width; with one part more
--   get_d_joined                        an element by its part
--   joined-all, joined_same             what holds of all elements; the same parts
--   joined_parts                        a list cut into parts
--   joined_end                          the end of a loop that writes part after part
use Prim.Native.Nat.{ℕ, zero, suc, ◌+◌, ◌*◌, ◌-◌, ◌<◌, ◌≤◌}
use mathlib.Core.List.{List, [], ◌∷◌, ◌++◌}
use mathlib.Core.Path.{◌≡◌, refl, sym, ap, ◌∙◌}
use native.Mathlib.Nat.{add-zero, zero-add, not-suc-le-zero, le_of_suc-le-suc}
use native.Mathlib.Omega.{arith}
use lib.ListN.{length, get_or, take, drop, length-append, get_or-append}
use lib.Seq.{get_or-append-add, drop-drop, take-add}
use Rattle.base.specs.Over.{over}
use Rattle.base.specs.Tabulate.{joined}
use Rattle.base.proofs.Over.{over_nil}

module _ {A : Type 0} (g : ℕ → List A) where
  -- parts of one width
  pub length-joined : (w a n : ℕ) → ((i : ℕ) → i < n → length (g (a + i)) ≡ w) → length (joined g a n) ≡ w * n
  unfolding joined
  length-joined w a zero h = omega arith
  length-joined w a (suc n) h =
      let here : length (g a) ≡ w = ap (λ i. length (g i)) (sym (add-zero a)) ∙ h 0 (omega arith) in
      let rest = length-joined w (a + 1) n (λ i l. let e : a + 1 + i ≡ a + (i + 1) = omega arith in
      ap (λ j. length (g j)) e ∙ h (i + 1) (omega arith)) in
      omega (arith, length-append (g a) (joined g (a + 1) n))

  -- what stands at place j of part k
  pub get_d_joined : (d : A) (a n k j : ℕ) → k < n → j < length (g (a + k)) →
      get_or (joined g a n) (length (joined g a k) + j) d ≡ get_or (g (a + k)) j d
  unfolding joined
  get_d_joined d a zero k j l h = absurd (not-suc-le-zero l)
  get_d_joined d a (suc n) zero j l h =
      let e = add-zero a in
      let q : j < length (g a) = rw e at h in
      ap (λ i. get_or (g a ++ joined g (a + 1) n) i d) (zero-add j) ∙ get_or-append (g a) (joined g (a + 1) n) d j q
      ∙ ap (λ i. get_or (g i) j d) (sym e)
  get_d_joined d a (suc n) (suc k) j l h =
      let e : a + suc k ≡ a + 1 + k = omega arith in
      let q : length (g a ++ joined g (a + 1) k) + j ≡ length (g a) + (length (joined g (a + 1) k) + j) =
      omega (arith, length-append (g a) (joined g (a + 1) k)) in
      ap (λ i. get_or (g a ++ joined g (a + 1) n) i d) q
      ∙ get_or-append-add (g a) (joined g (a + 1) n) (length (joined g (a + 1) k) + j) d
      ∙ get_d_joined d (a + 1) n k j (le_of_suc-le-suc l) (rw e at h)
      ∙ ap (λ i. get_or (g i) j d) (sym e)

  -- one part more
  pub length-joined_next : (a n : ℕ) → length (joined g a (suc n)) ≡ length (joined g a n) + length (g (a + n))
  unfolding joined
  length-joined_next a zero = length-append (g a) [] ∙ omega (arith, ap (λ i. length (g i)) (add-zero a))
  length-joined_next a (suc n) =
      let e : a + 1 + n ≡ a + suc n = omega arith in
      omega (
        arith,
        length-append (g a) (g (a + 1) ++ joined g (a + 1 + 1) n),
        length-append (g a) (joined g (a + 1) n),
        length-joined_next (a + 1) n,
        ap (λ i. length (g i)) e,
      )

  -- what holds of all elements of the parts
  pub joined-all {ℓ} : (P : A → Type ℓ) (d : A) (a n : ℕ) → P d → ((t j : ℕ) → P (get_or (g t) j d)) → (i : ℕ) →
      P (get_or (joined g a n) i d)
  unfolding joined
  joined-all P d a zero z h i = z
  joined-all P d a (suc n) z h i = append-all (g a) (joined g (a + 1) n) (h a) (joined-all P d (a + 1) n z h) i
    where
      append-all : (x y : List A) → ((j : ℕ) → P (get_or x j d)) → ((j : ℕ) → P (get_or y j d)) → (j : ℕ)
          → P (get_or (x ++ y) j d)
      append-all [] y p q j = q j
      append-all (v ∷ x) y p q zero = p 0
      append-all (v ∷ x) y p q (suc j) = append-all x y (λ k. p (suc k)) q j

-- the same parts
pub joined_same : {A : Type 0} (g h : ℕ → List A) (a n : ℕ) → ((i : ℕ) → i < n → g (a + i) ≡ h (a + i)) →
    joined g a n ≡ joined h a n
unfolding joined
joined_same g h a zero e = refl
joined_same g h a (suc n) e =
    let here : g a ≡ h a = rw (add-zero a) at (e 0 (omega arith)) in
    let rest = joined_same g h (a + 1) n (λ i l. let q : a + 1 + i ≡ a + (i + 1) = omega arith in
    rw q (e (i + 1) (omega arith))) in
    rw (here, rest)

-- the parts of a list, where part t has size t elements, from start t on
module _ {A : Type 0} (l : List A) (start size : ℕ → ℕ) (next : (t : ℕ) → start (t + 1) ≡ start t + size t) where
  start_grows : (t n : ℕ) → start t ≤ start (t + n)
  start_grows t zero = rw (add-zero t) (omega arith)
  start_grows t (suc n) =
      let e : t + n + 1 ≡ t + suc n = omega arith in
      let q : start (t + suc n) ≡ start (t + n) + size (t + n) = ap start (sym e) ∙ next (t + n) in
      omega (arith, start_grows t n)

  pub joined_parts : (a n : ℕ) → joined (λ t. take (size t) (drop (start t) l)) a n ≡ take (start (a + n) - start a)
      (drop (start a) l)
  unfolding joined
  joined_parts a zero =
      let e : start (a + 0) - start a ≡ 0 = omega (arith, ap start (add-zero a)) in
      rw e
  joined_parts a (suc n) =
      let q : a + suc n ≡ a + 1 + n = omega arith in
      let g = start_grows (a + 1) n in
      let k : start (a + suc n) - start a ≡ size a + (start (a + 1 + n) - start (a + 1)) =
      omega (arith, ap start q, next a) in
      rw (k, joined_parts (a + 1) n, next a)
      (ap (λ x. take (size a) (drop (start a) l) ++ take (start (a + 1 + n) - (start a + size a)) x)
      (sym (drop-drop (size a) (start a) l))
      ∙ sym (take-add (size a) (start (a + 1 + n) - (start a + size a)) (drop (start a) l)))

-- the end of a loop that writes one part after the other
module _ (g : ℕ → List ℕ) (l : List ℕ) (at : ℕ) where
  pub joined_end : (a n : ℕ) → n ≤ 0 → l ≡ over l at (joined g a n)
  unfolding joined
  joined_end a n h = let e : n ≡ 0 = omega arith in rw e (sym (over_nil l at))
