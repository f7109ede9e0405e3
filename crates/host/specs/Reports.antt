-- What C gets of an outcome: the number 0 and the call's values, or the refusal's number and block, and every value 0.
-- Of a level the block, which is always 0, is left out.
use Rattle.std.specs.Prelude.{ℕ, pos, false}
use Rattle.std.specs.Float.{fin}
use Rattle.base.specs.Refusal.{Outcome, accepted, refused}
use Rattle.blocks.specs.declared.header.Header.{Header}
use Rattle.join.specs.declared.call.Joined.{Joined}
use Rattle.level.specs.Level.{Loudness, silent, level}
use Rattle.prune.specs.declared.call.Pruned.{Pruned}
use Rattle.host.specs.declared.reports.JoinReport.{JoinReport}
use Rattle.host.specs.declared.reports.LevelReport.{LevelReport}
use Rattle.host.specs.declared.reports.PruneReport.{PruneReport}
use Rattle.host.specs.declared.reports.StreamReport.{StreamReport}
use Rattle.host.specs.declared.reports.ValidateReport.{ValidateReport}
use Rattle.host.specs.declared.reports.WriteReport.{WriteReport}

abbrev pub join_report : Outcome Joined → JoinReport
join_report (accepted r) =
    record { number = 0; block = 0; used = r.used; tiles = r.tiles; opened = r.opened; pruned = r.pruned }
join_report (refused number block) =
    record { number = number; block = block; used = 0; tiles = 0; opened = 0; pruned = 0 }

abbrev pub prune_report : Outcome Pruned → PruneReport
prune_report (accepted c) = record { number = 0; block = 0; tiles = c.tiles; pruned = c.pruned }
prune_report (refused number block) = record { number = number; block = block; tiles = 0; pruned = 0 }

-- 02.5, of the sequence: "the result carries T"
abbrev pub stream_report : Outcome ℕ → StreamReport
stream_report (accepted tiles) = record { number = 0; block = 0; tiles = tiles }
stream_report (refused number block) = record { number = number; block = block; tiles = 0 }

-- of a full check: T, and the number of axes
abbrev pub validate_report : Outcome Header → ValidateReport
validate_report (accepted h) = record { number = 0; block = 0; tiles = h.tiles; axes = h.axes }
validate_report (refused number block) = record { number = number; block = block; tiles = 0; axes = 0 }

-- of the writer: "the file's length in bytes"
abbrev pub write_report : Outcome ℕ → WriteReport
write_report (accepted length) = record { number = 0; block = 0; length = length }
write_report (refused number block) = record { number = number; block = block; length = 0 }

-- 02.4, of a level: 1 for silence, and 0.0 where there is no level
abbrev pub level_report : Outcome Loudness → LevelReport
level_report (accepted silent) = record { number = 0; silent = 1; level = fin false 0 (pos 0) }
level_report (accepted (level x)) = record { number = 0; silent = 0; level = x }
level_report (refused number block) = record { number = number; silent = 0; level = fin false 0 (pos 0) }
