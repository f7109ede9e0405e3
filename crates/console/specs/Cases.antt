-- Document 01, "Twelve cases", as one table. In cases 1 to 6 "O is x 0..10, E x 20..30, y 0..0, unless said". Case 12
-- is "the town above", from the lists that the writer takes to the bytes of its file, to the end of the call and to the
-- printed bytes.
--
--   box, from0                     boxes by their ends
--   town_file, origin, request     the file of case 12, its stop, and what the program is given
--   holding, lent_for              slices at the end and at the start of the call
--   Case, table, Says, AllSay      the cases, and what they say
use Rattle.std.specs.Prelude.{ℕ, ◌+◌, List, [], ◌∷◌, ◌++◌, ◌≡◌, ℤ, pos, neg_ℤ, length, replicate}
use Prim.Native.String.{String}
use Rattle.base.specs.Refusal.{accepted}
use Rattle.blocks.specs.Checksum.{sums}
use Rattle.blocks.specs.declared.checksum.Sums.{Sums}
use Rattle.codec.specs.Bytes.{bytes32, bytes_signed}
use Rattle.encode.specs.Encode.{file_bytes}
use Rattle.encode.specs.Supply.{Supply, supply}
use Rattle.geometry.specs.Distance.{min_dist, max_dist}
use Rattle.geometry.specs.Margin.{margin}
use Rattle.join.specs.declared.call.Joined.{Joined}
use Rattle.join.specs.Join.{join_end}
use Rattle.list.specs.Slices.{Slices, lent, dists, sites, cues}
use Rattle.search.specs.declared.Place.{Place}
use Rattle.writer.specs.Write.{write_call, write_exit}
use Rattle.console.specs.Output.{output}
use Rattle.console.specs.Text.{text_bytes}

abbrev pub box : ℤ → ℤ → ℤ → ℤ → List (List ℤ)
box lx hx ly hy = (lx ∷ hx ∷ []) ∷ (ly ∷ hy ∷ []) ∷ []

abbrev pub from0 : ℕ → ℕ → ℕ → ℕ → List (List ℤ)
from0 lx hx ly hy = box (pos lx) (pos hx) (pos ly) (pos hy)

-- "tiles with y 0..0: tile 0 x 0..10, site (10,0) cue 7; tile 1 x -10..-4, site (-10,0) cue 8; tile 2 x 10..12, site
-- (11,0) cue 9"; the boxes as the writer takes them: low x, low y, high x, high y
abbrev pub town_lists : Supply
town_lists =
    supply
    (pos 0 ∷ pos 0 ∷ pos 10 ∷ pos 0
    ∷ neg_ℤ (pos 10) ∷ pos 0 ∷ neg_ℤ (pos 4) ∷ pos 0
    ∷ pos 10 ∷ pos 0 ∷ pos 12 ∷ pos 0
    ∷ [])
    (1 ∷ 1 ∷ 1 ∷ [])
    ((pos 10 ∷ neg_ℤ (pos 10) ∷ pos 11 ∷ []) ∷ (pos 0 ∷ pos 0 ∷ pos 0 ∷ []) ∷ [])
    (7 ∷ 8 ∷ 9 ∷ [])

abbrev pub town_file : List ℕ
town_file = file_bytes town_lists

-- "stop (0,0)", by columns, and the program's input: k, one stop, the file
abbrev pub origin : List (List ℤ)
origin = (pos 0 ∷ []) ∷ (pos 0 ∷ []) ∷ []

abbrev pub request : ℕ → List ℕ
request k = bytes32 k ++ bytes32 1 ++ bytes_signed (pos 0) ++ bytes_signed (pos 0) ++ town_file

-- what is lent holds 9, and is one element longer than needed
abbrev pub lent_for : ℕ → Slices
lent_for k = lent (replicate (k + 1) 9) (replicate (k + 1) 9) (replicate (k + 1) 9) (replicate 4 9)

-- what is left: these places and marks, and the last element as it was
abbrev pub holding : List Place → List ℕ → Slices
holding l m = lent (dists l ++ 9 ∷ []) (sites l ++ 9 ∷ []) (cues l ++ 9 ∷ []) (m ++ 9 ∷ [])

pub data Case : Type 0 where
  margin_of : List (List ℤ) → List (List ℤ) → List (List ℤ) → ℤ → Case
  near_far_of : List ℤ → List (List ℤ) → ℕ → ℕ → Case
  check_of : List ℕ → Sums → Case
  town_written : ℕ → Case
  town_asked : ℕ → Joined → List Place → List ℕ → String → Case

abbrev pub table : List Case
table =
    margin_of (from0 0 10 0 0) (from0 20 30 0 0) (from0 60 70 0 0) (neg_ℤ (pos 2100))
    ∷ margin_of (from0 0 10 0 0) (from0 20 30 0 0) (from0 30 70 0 0) (pos 0)
    ∷ margin_of (from0 0 10 0 0) (from0 20 30 0 0) (from0 31 70 0 0) (neg_ℤ (pos 41))
    ∷ margin_of (from0 0 10 0 4) (from0 20 30 0 4) (from0 31 70 0 4) (neg_ℤ (pos 25))
    ∷ margin_of (from0 0 10 0 7) (from0 20 30 0 7) (from0 31 70 0 7) (pos 8)
    ∷ margin_of (from0 0 10 0 0) (from0 0 0 0 0) (from0 15 15 0 0) (pos 75)
    ∷ near_far_of (pos 5 ∷ pos 5 ∷ []) (from0 10 20 0 4) 26 250
    ∷ near_far_of (pos 0 ∷ pos 0 ∷ []) (box (neg_ℤ (pos 3)) (pos 4) (neg_ℤ (pos 2)) (pos 2)) 0 20
    ∷ check_of (replicate 509 0) (record { a = 0; c = 0 })
    ∷ check_of (1 ∷ replicate 508 0) (record { a = 1; c = 254 })
    ∷ check_of (replicate 508 0 ++ (1 ∷ [])) (record { a = 1; c = 1 })
    -- a block for the directory, one for each tile
    ∷ town_written 2048
    ∷ town_asked 2 (record { used = 2; tiles = 3; opened = 2; pruned = 0 })
    (record { dist = 100; site = 0; cue = 7 } ∷ record { dist = 100; site = 40; cue = 8 } ∷ [])
    (2 ∷ 2 ∷ 0 ∷ [])
    "tiles 3 opened 2 struck 0\nstop 0: 100 0 7; 100 40 8\n"
    -- "with k = 3 they are 2, 2, 2"
    ∷ town_asked 3 (record { used = 3; tiles = 3; opened = 3; pruned = 0 })
    (record { dist = 100; site = 0; cue = 7 } ∷ record { dist = 100; site = 40; cue = 8 }
    ∷ record { dist = 121; site = 80; cue = 9 } ∷ [])
    (2 ∷ 2 ∷ 2 ∷ [])
    "tiles 3 opened 3 struck 0\nstop 0: 100 0 7; 100 40 8; 121 80 9\n"
    ∷ []

-- what a case says; of bytes 1 to 509 whatever the others are; of the town's file that it has so many bytes, and that
-- the writer makes it of the lists in a slice as long
abbrev pub Says : Case → Type 0
Says (margin_of o e b m) = margin o e b ≡ m
Says (near_far_of p b near far) = (min_dist b p ≡ near) × (max_dist b p ≡ far)
Says (check_of bytes s) = (sync a c : ℕ) → sums (sync ∷ (bytes ++ (a ∷ c ∷ []))) ≡ s
Says (town_written n) =
    (write_call town_lists n ≡ accepted n) × (write_exit town_lists (replicate n 0) ≡ town_file) × (length town_file ≡ n)
Says (town_asked k r l m printed) =
    (join_end town_file origin k (lent_for k) ≡ record { outcome = accepted r; slices = holding l m })
    × (output (request k) ≡ text_bytes printed)

abbrev pub AllSay : List Case → Type 0
AllSay [] = Unit
AllSay (c ∷ l) = Says c × AllSay l
