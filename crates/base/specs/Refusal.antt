-- Document 01, "Numbers given to bad input": the table's numbers under its words, those of document 02 after them, and
-- what a call comes to.
--
--   #length .. #reach            the numbers 1 to 15 of the table in its order, then 16 of 02.1, 17 of 02.2, 18 of 02.4
--   Outcome, accepted, refused   what a call comes to
--   require                      one row of the table
--   and_then                     one call after another
--   in_turn                      one test of several numbers in turn
use Rattle.std.specs.Prelude.{ℕ, zero, suc, ◌+◌, Bool, true, false}

abbrev pub #length : ℕ
#length = 1

abbrev pub #sync : ℕ
#sync = 2

abbrev pub #check : ℕ
#check = 3

abbrev pub #kind : ℕ
#kind = 4

abbrev pub #position : ℕ
#position = 5

abbrev pub #tiles : ℕ
#tiles = 6

abbrev pub #entries : ℕ
#entries = 7

abbrev pub #padding : ℕ
#padding = 8

abbrev pub #box : ℕ
#box = 9

abbrev pub #stray : ℕ
#stray = 10

abbrev pub #k : ℕ
#k = 11

abbrev pub #stops : ℕ
#stops = 12

abbrev pub #spot : ℕ
#spot = 13

abbrev pub #short : ℕ
#short = 14

abbrev pub #supply : ℕ
#supply = 15

-- 02.1
abbrev pub #muted : ℕ
#muted = 16

-- 02.2
abbrev pub #axes : ℕ
#axes = 17

-- 02.4
abbrev pub #reach : ℕ
#reach = 18

-- What a call comes to: its values, or a refusal with its number and the block position.
pub data Outcome (A : Type 0) : Type 0 where
  accepted : A → Outcome A
  refused : ℕ → ℕ → Outcome A

-- a row of the table: where the test fails, refused by its number at a block; else what comes next
abbrev pub require : {A : Type 0} → Bool → ℕ → ℕ → Outcome A → Outcome A
require true number block next = next
require false number block next = refused number block

-- the first refusal decides
abbrev pub and_then : {A B : Type 0} → Outcome A → (A → Outcome B) → Outcome B
and_then (accepted a) next = next a
and_then (refused number block) next = refused number block

-- n tests in turn, of p and the numbers after it: the first refusal decides
unfoldable pub in_turn : {A : Type 0} → (ℕ → Outcome A) → ℕ → ℕ → Outcome Unit
in_turn test p zero = accepted tt
in_turn test p (suc n) = and_then (test p) (λ _. in_turn test (p + 1) n)
