-- What a caller is shown of a desk, and the number of a mode.
use Rattle.std.specs.Prelude.{ℕ, ◌==◌, ◌&&◌, not, Bool}
use Rattle.fsw_base.specs.EventDesk.{Desk}
use Rattle.fsw_base.specs.EventLog.{Line, Log, is_full}
use Rattle.evs_events.specs.declared.line.LogLine.{LogLine}
use Rattle.evs_events.specs.declared.counts.EventCounts.{EventCounts}
use Rattle.evs_events.specs.declared.log.LogMode.{LogMode}
use Rattle.evs_events.specs.declared.log.LogMode.TheVariants.{Overwrite, Discard}

-- the line that is shown
abbrev pub line_shown : LogLine → Line
line_shown line = record { app = line.app; id = line.id; kind = line.kind; text = line.text.now }

-- the counts of a desk
abbrev pub counts_of : Desk → EventCounts
counts_of desk = record {
  sent = desk.sent;
  filtered = desk.filtered;
  cut = desk.cut;
  refused = desk.refused;
  lost = desk.lost;
  mode = desk.log.mode;
}

-- the number of a mode
abbrev pub mode_number : LogMode → ℕ
mode_number Overwrite = 0
mode_number Discard = 1

-- whether the log drops the line of the next event that passes: it is full, and in mode 1
abbrev pub drops_next : Log → Bool
drops_next log = is_full log && not (log.mode == 0)
