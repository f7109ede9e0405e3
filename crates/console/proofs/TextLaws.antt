-- Laws of words and numbers as bytes. Assumes nothing.
--
--   length_digits, decimal-width                how many digits
--   then                                        one text after the other
--   part_none, part_more                        a loop that writes parts
--   below_power                                 a number is below the power of 10 after its own
--   decimal_printed                             what the library prints
--   digits_32, digits_64, labelled_32, labelled_64   how long a number and a labelled one are at most
--   room_32, room_64                            those, as sets
use Prim.Native.Nat.{ℕ, zero, suc, ◌+◌, ◌/◌, ◌%◌, ◌^◌, ◌<◌, ◌≤◌}
use mathlib.Core.List.{List, [], ◌∷◌, ◌++◌, append_assoc}
use mathlib.Core.Path.{◌≡◌, refl, sym, ap, ◌∙◌}
use native.Mathlib.Nat.{add-zero, zero-add, add_assoc, pow-suc}
use native.Mathlib.Numerals.{add-one}
use native.Mathlib.Omega.{arith}
use lib.Dec.{ltb}
use borrow.Author.Tests.{lt-ltb, le-ltb}
use lib.ListN.{length, length-append}
use Rattle.std.proofs.lemmas.List.{append-nil}
use Rattle.std.specs.Fmt.{decimal as printed}
use Rattle.std.proofs.lemmas.Fmt.{decimal_from_appends, length-decimal-le_succ}
use Rattle.base.specs.Over.{over}
use Rattle.base.specs.Tabulate.{joined}
use Rattle.base.proofs.Over.{over_nil, over_next}
use Rattle.base.proofs.Tests.{cond_ind}
use Rattle.console.specs.Text.{width_up_to, width, digits, decimal, labelled, Wrote}

-- ---- digits
pub length_digits : (w n : ℕ) → length (digits w n) ≡ w
unfolding digits
length_digits zero n = refl
length_digits (suc w) n = length-append (digits w (n / 10)) _ ∙ ap (λ k. k + 1) (length_digits w (n / 10)) ∙ add-one w

-- ---- one text after the other
module _ {l m p a b : List ℕ} {i j k : ℕ} where
  pub then : Wrote l i a m j → Wrote m j b p k → Wrote l i (a ++ b) p k
  then w v = record {
    content = v.content ∙ ap (λ s. over s j b) w.content ∙ over_next l i j a b w.end;
    end = v.end ∙ ap (λ n. n + length b) w.end ∙ add_assoc i (length a) (length b)
        ∙ ap (λ n. i + n) (sym (length-append a b));
  }

-- ---- a loop that writes the parts of g one after the other
module _ (g : ℕ → List ℕ) where
  joined_last : (a n : ℕ) → joined g a (suc n) ≡ joined g a n ++ g (a + n)
  unfolding joined
  joined_last a zero = append-nil (g a) ∙ ap g (sym (add-zero a))
  joined_last a (suc n) =
      let e : a + 1 + n ≡ a + suc n = omega arith in
      ap (λ l. g a ++ l) (joined_last (a + 1) n) ∙ sym (append_assoc (g a) (joined g (a + 1) n) (g (a + 1 + n)))
      ∙ ap (λ i. g a ++ joined g (a + 1) n ++ g i) e

  pub part_none : (l : List ℕ) (at : ℕ) → Wrote l at (joined g 0 0) l at
  unfolding joined
  part_none l at = record { content = sym (over_nil l at); end = omega arith }

  pub part_more : {l m p : List ℕ} {at next after : ℕ} (j : ℕ) → Wrote l at (joined g 0 j) m next
      → Wrote m next (g j) p after → Wrote l at (joined g 0 (j + 1)) p after
  part_more j w v =
      let last = rw (zero-add j) at (joined_last 0 j) in
      rw (add-one j, last) (then w v)

-- ---- the number of digits
-- a number below 10^(w + 1) has at most w + 1 digits
width_few : (w more n : ℕ) → n < 10 ^ suc w → width_up_to more n ≤ suc w
unfolding width_up_to
width_few w zero n l = omega arith
width_few zero (suc more) n l = rw (lt-ltb n 10 l) (omega arith)
width_few (suc w) (suc more) n l =
    cond_ind (ltb n 10) 1 (suc (width_up_to more (n / 10))) (λ k. k ≤ suc (suc w)) (λ _. omega arith)
    (λ _. omega (arith, width_few w more (n / 10) (omega (arith, l, pow-suc 10 (suc w)))))

pub decimal-width : (n : ℕ) → length (decimal n) ≡ width n
unfolding decimal
decimal-width n = length_digits (width n) n

decimal_short : (w n : ℕ) → n < 10 ^ suc w → length (decimal n) ≤ suc w
unfolding width
decimal_short w n l = omega (arith, decimal-width n, width_few w n n l)

pub below_power : (n : ℕ) → n < 10 ^ suc n
below_power zero = omega arith
below_power (suc n) = omega (arith, below_power n, pow-suc 10 (suc n))

-- ---- what the library prints
-- n with at most `most` digits, the first of which may be none
abbrev up_to : ℕ → ℕ → List ℕ
up_to zero n = []
up_to (suc more) n = digits (width_up_to more n) n

up_to_one : (more n : ℕ) → n < 10 → up_to (suc more) n ≡ (48 + n) ∷ []
unfolding width_up_to digits
up_to_one zero n h = let e : n % 10 ≡ n = omega arith in rw e
up_to_one (suc more) n h = let e : n % 10 ≡ n = omega arith in rw (lt-ltb n 10 h, e)

up_to_more : (most n : ℕ) → 10 ≤ n → up_to (suc most) n ≡ up_to most (n / 10) ++ (48 + n % 10) ∷ []
unfolding width_up_to digits
up_to_more zero n h = refl
up_to_more (suc more) n h = rw (le-ltb n 10 h)

pub decimal_printed : (n : ℕ) → n < 2 ^ 64 → printed n ≡ decimal n
unfolding decimal width
decimal_printed n h =
    sym (decimal_from_appends up_to (record { one = up_to_one; more = up_to_more }) (suc n) n h
    (omega (arith, length-decimal-le_succ n h)))

-- ---- a word and a number: their length, for a number of 32 or of 64 bits
pub digits_32 : (n : ℕ) → n < 2 ^ 32 → length (decimal n) ≤ 10
digits_32 n l = decimal_short 9 n (omega arith)

pub digits_64 : (n : ℕ) → n < 2 ^ 64 → length (decimal n) ≤ 20
digits_64 n l = decimal_short 19 n (omega arith)

module _ (word : List ℕ) (n : ℕ) where
  length-labelled : length (labelled word n) ≡ length word + length (decimal n)
  unfolding labelled
  length-labelled = length-append word (decimal n)

  pub labelled_32 : n < 2 ^ 32 → length (labelled word n) ≤ length word + 10
  labelled_32 l = omega (arith, length-labelled, digits_32 n l)

  pub labelled_64 : n < 2 ^ 64 → length (labelled word n) ≤ length word + 20
  labelled_64 l = omega (arith, length-labelled, digits_64 n l)

pub ruleset room_32 = (digits_32, labelled_32)

pub ruleset room_64 = (digits_64, labelled_64)
