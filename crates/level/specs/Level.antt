-- Document 02, request 4: how loud a place is, for a reach r in whole centimetres, from its squared distance d.
--
--   max_reach, valid_reach        the reaches
--   last_heard, is_silent         the largest d that is not silent
--   float, quotient               whole numbers as 64-bit floats, and the quotient of two of them
--   level_of                      the level of a place that is not silent
--   Loudness, silent, level       what the mixer is told: silence, or a level
--   loudness                      of a place
--   level_outcome, level_call     the answer as an outcome; what the call comes to, for all inputs
use Rattle.std.specs.Prelude.{ℕ, ◌+◌, ◌*◌, Bool, cond, ◌&&◌, leb, ltb, pos, Float}
use Rattle.std.specs.Float.{binary64}
use Rattle.std.specs.Float.Ieee.{div, of_int}
use Rattle.base.specs.Answer.{number_of}
use Rattle.base.specs.Refusal.{Outcome, accepted, refused, require, #reach}
use Rattle.level.specs.declared.call.LevelAnswer.{LevelAnswer}
use Rattle.level.specs.declared.call.LevelAnswer.TheVariants as answer

-- "a reach r in whole centimetres, 1 to 1,000,000"
abbrev pub max_reach : ℕ
max_reach = 1_000_000

unfoldable pub valid_reach : ℕ → Bool
valid_reach r = leb 1 r && leb r max_reach

-- "silent if D is above 100 × r × r"
abbrev pub last_heard : ℕ → ℕ
last_heard r = 100 * (r * r)

abbrev pub is_silent : ℕ → ℕ → Bool
is_silent r d = ltb (last_heard r) d

-- a whole number as a 64-bit float: the nearest one, and the number itself up to 2 ^ 53
abbrev pub float : ℕ → Float
float n = of_int binary64 (pos n)

unfoldable pub quotient : ℕ → ℕ → Float
quotient a b = div binary64 (float a) (float b)

-- "the 64-bit float quotient of r × r by r × r + D"
abbrev pub level_of : ℕ → ℕ → Float
level_of r d = quotient (r * r) (r * r + d)

-- "the answer is silent .., else the level"
pub data Loudness : Type 0 where
  silent : Loudness
  level : Float → Loudness

abbrev pub loudness : ℕ → ℕ → Loudness
loudness r d = cond (is_silent r d) silent (level (level_of r d))

abbrev pub level_outcome : LevelAnswer → Outcome Loudness
level_outcome answer.Silent = accepted silent
level_outcome (answer.Level x) = accepted (level x)
level_outcome (answer.Refused r) = refused (number_of r.reason) r.block

-- "18 when r is outside its limits, before anything else is looked at"
unfoldable pub level_call : ℕ → ℕ → Outcome Loudness
level_call r d = require (valid_reach r) #reach 0 (accepted (loudness r d))
