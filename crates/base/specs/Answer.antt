-- How an answer of the code is read as an outcome.
--
--   number_of      the number of a reason
--   outcome_of     of a call that answers a value, or its refusal
--   tested_at      of tests that answer the reason of the first one failed, by the block at a position
--   refusal_text   a refusal as text
use Rattle.std.specs.Prelude.{ℕ, List, ◌++◌, Result, Ok, Err, codes, decimal}
use Rattle.base.specs.Refusal.{Outcome, accepted, refused, #length, #sync, #check, #kind, #position, #tiles, #entries}
use Rattle.base.specs.Refusal.{#padding, #box, #stray, #k, #stops, #spot, #short, #supply, #muted, #axes, #reach}
use Rattle.base.specs.declared.refusal.Reason.{Reason}
use Rattle.base.specs.declared.refusal.Reason.TheVariants as reason
use Rattle.base.specs.declared.refusal.Refusal.{Refusal}

abbrev pub number_of : Reason → ℕ
number_of reason.Length = #length
number_of reason.Sync = #sync
number_of reason.Check = #check
number_of reason.Kind = #kind
number_of reason.Position = #position
number_of reason.Tiles = #tiles
number_of reason.Entries = #entries
number_of reason.Padding = #padding
number_of reason.Box = #box
number_of reason.Stray = #stray
number_of reason.K = #k
number_of reason.Stops = #stops
number_of reason.Spot = #spot
number_of reason.Short = #short
number_of reason.Supply = #supply
number_of reason.Muted = #muted
number_of reason.Axes = #axes
number_of reason.Reach = #reach

abbrev pub outcome_of : {A : Type 0} → Result A Refusal → Outcome A
outcome_of (Ok a) = accepted a
outcome_of (Err r) = refused (number_of r.reason) r.block

abbrev pub tested_at : ℕ → Result Unit Reason → Outcome Unit
tested_at p (Ok _) = accepted tt
tested_at p (Err r) = refused (number_of r) p

-- "refused N block P", as a program prints it
unfoldable pub refusal_text : ℕ → ℕ → List ℕ
refusal_text number block = codes "refused " ++ decimal number ++ codes " block " ++ decimal block
