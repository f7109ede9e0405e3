-- Some answers, with levels by their 64-bit patterns. The first is that of document 02. The patterns are those that C
-- gives.
--
--   Case, row                        a reach, a squared distance, and the answer due
--   bits, silence, out_of_limits     answers: a level by its bits, silence, 18
--   levels, ends, refusals           the cases
--   AllSay                           what a row of cases says
use Rattle.std.specs.Prelude.{ℕ, List, [], ◌∷◌, map, ◌≡◌}
use Rattle.std.specs.Float.{binary64}
use Rattle.std.specs.Float.Ieee.{of_bits}
use Rattle.base.specs.Refusal.{Outcome, accepted, refused}
use Rattle.level.specs.Level.{Loudness, silent, level, level_call}

pub record Case : Type 0 where
  pub reach : ℕ
  pub dist : ℕ
  pub due : Outcome Loudness

abbrev pub row : ℕ → ℕ → Outcome Loudness → Case
row r d a = record { reach = r; dist = d; due = a }

abbrev pub bits : ℕ → Outcome Loudness
bits pattern = accepted (level (of_bits binary64 pattern))

abbrev pub silence : Outcome Loudness
silence = accepted silent

abbrev pub out_of_limits : Outcome Loudness
out_of_limits = refused 18 0

abbrev pub levels : List Case
levels =
    row 1_000 1_000_000 (bits 0x3fe0_0000_0000_0000)
    ∷ row 1_000 0 (bits 0x3ff0_0000_0000_0000)
    ∷ row 1 2 (bits 0x3fd5_5555_5555_5555)
    ∷ row 3 1 (bits 0x3fec_cccc_cccc_cccd)
    -- 1 - D / (r × r + D) is another float here
    ∷ row 247_515 907_540_756_988 (bits 0x3fb0_3042_3bb3_b8cb)
    ∷ row 756_251 33_695_719_494_313 (bits 0x3f91_1718_e667_50eb)
    -- a greater reach may give the same level
    ∷ row 999_999 1 (bits 0x3fef_ffff_ffff_dcd1)
    ∷ row 1_000_000 1 (bits 0x3fef_ffff_ffff_dcd1)
    ∷ []

-- the last that is not silent, and the first that is
abbrev pub ends : List Case
ends =
    row 1 100 (bits 0x3f84_46f8_6562_d9fb)
    ∷ row 1 101 silence
    ∷ row 1_000 100_000_000 (bits 0x3f84_46f8_6562_d9fb)
    ∷ row 1_000 100_000_001 silence
    ∷ row 1_000_000 99_999_999_999_999 (bits 0x3f84_46f8_6562_da33)
    ∷ row 1_000_000 100_000_000_000_000 (bits 0x3f84_46f8_6562_d9fb)
    ∷ row 1_000_000 100_000_000_000_001 silence
    ∷ row 1_000_000 18_446_744_073_709_551_615 silence
    ∷ []

abbrev pub refusals : List Case
refusals =
    row 0 0 out_of_limits
    ∷ row 0 18_446_744_073_709_551_615 out_of_limits
    ∷ row 1_000_001 0 out_of_limits
    ∷ row 1_000_001 18_446_744_073_709_551_615 out_of_limits
    ∷ row 4_294_967_295 1 out_of_limits
    ∷ []

-- the call gives what is due in every row
abbrev pub AllSay : List Case → Type 0
AllSay rows = map (λ c. level_call c.reach c.dist) rows ≡ map (λ c. c.due) rows
