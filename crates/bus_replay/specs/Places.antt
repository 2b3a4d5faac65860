-- What comes next at an application's place among its lines.
use Rattle.std.specs.Prelude.{ℕ, Bool, true, false, not, List, [], drop, slice_get, is_some, Option, Some, None, if◌then◌else◌}
use Rattle.std.specs.Option.{option_map_or}
use Rattle.bus_words.specs.declared.calls.BusAnswer.{BusAnswer}
use Rattle.bus_words.specs.declared.calls.BusAnswer.TheVariants.{Pending}
use Rattle.bus_words.specs.declared.history.Call.{Call}
use Rattle.bus_words.specs.declared.history.Call.TheVariants as calls
use Rattle.bus_words.specs.Bus.{State, Standing, Active, Waiting, Ended}
use Rattle.script_lines.specs.declared.line.Line.{Line}
use Rattle.script_runs.specs.Trace.{Registers, call_of}
use Rattle.script_calls.specs.Made.{made_bytes}
use Rattle.script_calls.specs.Rows.{Row, written_in}
use Rattle.run_check.specs.Places.{Made, Place, behind, passed}

-- The place of an application's next line, its registers, its unsent buffers, and its receipts.
pub record Kept : Type 0 where
  pub place : ℕ
  pub registers : Registers
  pub rows : List Row
  pub receipts : List Made

-- if it is
abbrev pub place_of : Kept → Place
place_of k = record {
  place = k.place;
  registers = k.registers;
  written = written_in k.rows;
  receipts = k.receipts;
}

-- the call of the next line, or the end behind them all
abbrev pub line_call_at : List Line → Place → Option Call
line_call_at lines p =
    option_map_or (λ line. call_of p.registers p.written line) (slice_get lines p.place)
    (Some calls.End)

-- the call that comes next of one that stands so: a look while it waits, and none behind its end
abbrev pub call_at : Standing → List Line → Place → Option Call
call_at Active lines p = line_call_at lines p
call_at (Waiting pipe) lines p = Some (calls.Look pipe)
call_at Ended lines p = None

-- whether there is a next line, and the bus doesn't see it
abbrev pub is_before_unseen : List Line → Place → Bool
is_before_unseen lines p =
    option_map_or (λ line. not (is_some (call_of p.registers p.written line)))
    (slice_get lines p.place) false

-- the bytes that the call of the next line brings, and the line doesn't spell
abbrev pub content_at : List Line → Place → List ℕ
content_at lines p =
    option_map_or (λ line. made_bytes p.registers p.written line) (slice_get lines p.place) []

-- whether a call so answered leaves its application waiting
abbrev pub waits : Call → BusAnswer → Bool
waits (calls.Pend pipe) Pending = true
waits call answer = false

-- where an application is behind its next line, whose call was so answered: past the lines that the
-- bus doesn't see, unless it waits
abbrev pub settled_line : ℕ → State → List Line → Call → BusAnswer → Place → Place
settled_line app s lines call answer p =
    option_map_or
    (λ line.
    let now = behind app s line call answer p in
    if waits call answer then now else passed app s (drop now.place lines) now)
    (slice_get lines p.place) p
