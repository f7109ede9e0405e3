-- What each public call comes to, for all inputs (document 01: "Box arithmetic tests boxes (9), then the point (13)", at
-- block 0), and the points of an answer of margin.
--
--   distance_tests             the tests of near and far
--   min_dist_call              near
--   max_dist_call              far
--   reached_of, reached_in     margin and points of an answer: of all its axes, of the first of three
--   reached_outcome            the answer as an outcome
--   margin_call                the margin with its points
use Rattle.std.specs.Prelude.{ℕ, ◌&&◌, List, Result, ℤ, take}
use Rattle.base.specs.Answer.{outcome_of}
use Rattle.base.specs.Refusal.{Outcome, accepted, require, and_then, #box, #spot}
use Rattle.base.specs.declared.refusal.Refusal.{Refusal}
use Rattle.geometry.specs.Box.{valid_box, valid_point}
use Rattle.geometry.specs.Distance.{min_dist, max_dist}
use Rattle.geometry.specs.Margin.{Reached, reached}
use Rattle.geometry.specs.declared.margin.MarginPoints.{MarginPoints}

-- near and far
abbrev pub distance_tests : List (List ℤ) → List ℤ → Outcome Unit
distance_tests b p = require (valid_box b) #box 0 (require (valid_point p) #spot 0 (accepted tt))

unfoldable pub min_dist_call : List (List ℤ) → List ℤ → Outcome ℕ
min_dist_call b p = and_then (distance_tests b p) (λ _. accepted (min_dist b p))

unfoldable pub max_dist_call : List (List ℤ) → List ℤ → Outcome ℕ
max_dist_call b p = and_then (distance_tests b p) (λ _. accepted (max_dist b p))

-- the margin; points of as many axes as the answer has
unfoldable pub reached_of : {n : ℕ} → MarginPoints n → Reached
reached_of m = record { margin = m.margin; o = m.o; e = m.e; b = m.b }

-- the first n of three
unfoldable pub reached_in : ℕ → MarginPoints 3 → Reached
reached_in n m = record { margin = m.margin; o = take n m.o; e = take n m.e; b = take n m.b }

abbrev pub reached_outcome : {n : ℕ} → Result (MarginPoints n) Refusal → Outcome Reached
reached_outcome r = and_then (outcome_of r) (λ m. accepted (reached_of m))

unfoldable pub margin_call : List (List ℤ) → List (List ℤ) → List (List ℤ) → Outcome Reached
margin_call o e b = require ((valid_box o && valid_box e) && valid_box b) #box 0 (accepted (reached o e b))
