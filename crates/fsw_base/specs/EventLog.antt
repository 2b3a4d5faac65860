-- The log of the events that passed (cFE Event Services, local event log).
use Rattle.std.specs.Prelude.{ℕ, ◌==◌, nat_lt, Bool, List, [], ◌∷◌, ◌++◌, length, take, drop, if◌then◌else◌}
use Rattle.fsw_base.specs.declared.events.EventKind.{EventKind}

pub record Line : Type 0 where
  -- the application's number, 0 for the services' own events
  pub app : ℕ
  -- the event id
  pub id : ℕ
  pub kind : EventKind
  pub text : List ℕ

pub record Log : Type 0 where
  -- the oldest first
  pub lines : List Line
  -- what a full log drops: its oldest line in mode 0, the new one in mode 1
  pub mode : ℕ

-- a log starts without lines, in mode 1
abbrev pub empty_log : Log
empty_log = record { lines = []; mode = 1 }

-- whether a text is longer than the 122 bytes that a line keeps
abbrev pub is_cut : List ℕ → Bool
is_cut text = nat_lt 122 (length text)

-- the line of an event, whose text is cut without a mark
abbrev pub event_line : ℕ → ℕ → EventKind → List ℕ → Line
event_line app id kind text = record { app = app; id = id; kind = kind; text = take 122 text }

-- whether the log has the 20 lines that fit
abbrev pub is_full : Log → Bool
is_full log = length log.lines == 20

-- the log with a line that goes last. A full log drops its oldest line in mode 0, and the new one
-- in mode 1
abbrev pub kept : Log → Line → Log
kept log line =
    if is_full log
    then (if log.mode == 0 then record log { lines = drop 1 log.lines ++ line ∷ [] } else log)
    else (record log { lines = log.lines ++ line ∷ [] })
