-- The lines of a report on the event log.
use Rattle.std.specs.Prelude.{ℕ, List, [], ◌∷◌, ◌++◌, codes, decimal}
use Rattle.std.specs.List.{flat_map}
use Rattle.fsw_base.specs.EventLog.{Line, Log}
use Rattle.fsw_base.specs.Events.{kind_number}

-- a text with a blank before it; nothing if the text is empty
abbrev pub behind_blank : List ℕ → List ℕ
behind_blank [] = []
behind_blank (byte ∷ bytes) = codes " " ++ byte ∷ bytes

-- the line of an event: its application, 0 if a service told it, its id, the number of its kind,
-- and its text as the log keeps it
abbrev pub log_line_text : Line → List ℕ
log_line_text line =
    codes "a" ++ decimal line.app ++ codes " " ++ decimal line.id ++ codes " " ++
    decimal (kind_number line.kind) ++ behind_blank line.text
    ++ codes "\n"

-- the lines of the log, the oldest first
abbrev pub log_text : Log → List ℕ
log_text log = flat_map log_line_text log.lines
