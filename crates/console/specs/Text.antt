-- Words and numbers as bytes, and what a call that writes text leaves.
--
--   text_bytes                            a text
--   width_up_to, width, digits, decimal   a number: how many digits, the last ones, all
--   value_from                            a number read from its digits
--   labelled                              a word and a number
--   Wrote                                 a call that wrote a text
use Prim.Native.Char.{code}
use Rattle.std.specs.Prelude.{ℕ, zero, suc, ◌+◌, ◌*◌, ◌-◌, ◌/◌, ◌%◌, cond, List, [], ◌∷◌, ◌++◌, ◌≡◌, ltb, length}
use Prim.Native.String.{String, [] as nil, ◌∷◌ as ◌∙∷◌}
use Rattle.base.specs.Over.{over}

-- a text as bytes: the numbers of its characters
abbrev pub text_bytes : String → List ℕ
text_bytes nil = []
text_bytes (c ∙∷ s) = code c ∷ text_bytes s

-- how many digits n has in decimal, at most `more` + 1: one below 10, else one more than n / 10
unfoldable pub width_up_to : ℕ → ℕ → ℕ
width_up_to zero n = 1
width_up_to (suc more) n = cond (ltb n 10) 1 (suc (width_up_to more (n / 10)))

-- n has no more than n + 1
unfoldable pub width : ℕ → ℕ
width n = width_up_to n n

-- the last w digits of n, as characters; 48 is '0'
unfoldable pub digits : ℕ → ℕ → List ℕ
digits zero n = []
digits (suc w) n = digits w (n / 10) ++ (48 + n % 10) ∷ []

-- "in decimal"
unfoldable pub decimal : ℕ → List ℕ
decimal n = digits (width n) n

-- the number that characters stand for, read from the left after the number a
unfoldable pub value_from : ℕ → List ℕ → ℕ
value_from a [] = a
value_from a (c ∷ cs) = value_from (10 * a + (c - 48)) cs

-- a word and a number
unfoldable pub labelled : List ℕ → ℕ → List ℕ
labelled word n = word ++ decimal n

-- a call that wrote a text at an index: the slice before and after it, and the index that it gave
pub record Wrote (before : List ℕ) (at : ℕ) (text after : List ℕ) (next : ℕ) : Type 0 where
  pub content : after ≡ over before at text
  pub end : next ≡ at + length text
