-- Where an application is among its lines at the bus, and the receipts of its lines so far: past a
-- line that the bus doesn't see, and behind a call that was answered.
use Rattle.std.specs.Prelude.{ℕ, ◌+◌, ◌-◌, ◌≤◌, ◌==◌, List, [], ◌∷◌, ◌++◌, length, map, drop, slice_index, slice_get, unwrap_or, is_some, Option, Some, None, if◌then◌else◌}
use Rattle.std.specs.Option.{option_map_or}
use Rattle.fsw_base.specs.Limits.{Limits}
use Rattle.bus_words.specs.declared.calls.BusAnswer.{BusAnswer}
use Rattle.bus_words.specs.declared.calls.BusAnswer.TheVariants.{Pending}
use Rattle.bus_words.specs.declared.history.Call.{Call}
use Rattle.bus_words.specs.declared.history.Call.TheVariants as calls
use Rattle.bus_words.specs.declared.history.Entry.{Entry}
use Rattle.bus_words.specs.declared.receipts.Receipt.{Receipt}
use Rattle.bus_words.specs.declared.receipts.Receipt.TheVariants.{Nothing}
use Rattle.bus_words.specs.Acts.{Whole, act, opening_whole, whole_after}
use Rattle.bus_words.specs.Bus.{State, Standing, Ended, standing_of}
use Rattle.bus_words.specs.Receipts.{receipt_in}
use Rattle.app_script.specs.Script.{ScriptText, app_at}
use Rattle.script_lines.specs.declared.line.Line.{Line}
use Rattle.script_lines.specs.declared.line.Line.TheVariants.{ShowPipe}
use Rattle.script_runs.specs.Rotation.{Running}
use Rattle.script_runs.specs.TableTrace.{first_handles}
use Rattle.script_runs.specs.Told.{got_in}
use Rattle.script_runs.specs.Trace.{Registers, call_of, first_registers, own_entries, registers_after}
use Rattle.script_runs.specs.Written.{Written, first_written, written_after, written_by}
use Rattle.run_check.specs.Begun.{IsBegun}
use Rattle.run_check.specs.Progress.{IsAt}

-- A receipt, and the place of the line that made it.
pub record Made : Type 0 where
  pub place : ℕ
  pub receipt : Receipt

-- these receipts, which the line at a place made
abbrev pub made_at : ℕ → List Receipt → List Made
made_at place receipts = map (λ receipt. record { place = place; receipt = receipt }) receipts

-- The place of its next line, its registers, what it wrote, and the receipts so far.
pub record Place : Type 0 where
  pub place : ℕ
  pub registers : Registers
  pub written : Written
  pub receipts : List Made

-- before its first line
abbrev pub first_place : Place
first_place =
    record { place = 0; registers = first_registers; written = first_written; receipts = [] }

-- what a line shows of the bus
unfoldable pub shown_at_bus : ℕ → State → Registers → Line → List Receipt
shown_at_bus app s registers (ShowPipe pipe) =
    unwrap_or (receipt_in s app (slice_index registers.pipes pipe)) Nothing ∷ []
shown_at_bus app s registers line = []

-- past a line that the bus doesn't see
abbrev pub past : ℕ → State → Line → Place → Place
past app s line p = record p {
  place = p.place + 1;
  written = written_by p.written p.registers.buffers line;
  receipts = p.receipts ++ made_at p.place (shown_at_bus app s p.registers line);
}

-- past all lines that the bus doesn't see, as far as the first of these that it does
abbrev pub passed : ℕ → State → List Line → Place → Place
passed app s [] p = p
passed app s (line ∷ lines) p =
    if is_some (call_of p.registers p.written line) then p
    else passed app s lines (past app s line p)

-- behind the line whose call was so answered, with the bus as the call left it
abbrev pub behind : ℕ → State → Line → Call → BusAnswer → Place → Place
behind app s line call answer p = record p {
  place = p.place + 1;
  registers = registers_after p.registers line answer;
  written = written_after p.written call answer;
  receipts = p.receipts ++ made_at p.place (got_in app s call answer);
}

-- behind the look that settles the line before
abbrev pub looked : ℕ → State → Call → BusAnswer → Place → Place
looked app s call answer p =
    record p { receipts = p.receipts ++ made_at (p.place - 1) (got_in app s call answer) }

-- gone on past lines that the bus doesn't see, unless the application waits
abbrev pub gone_on : ℕ → State → List Line → Call → BusAnswer → Place → Place
gone_on app s lines (calls.Pend pipe) Pending p = p
gone_on app s lines call answer p = passed app s (drop p.place lines) p

-- of all its lines, if it is once its next call was so answered
abbrev pub settled : ℕ → State → List Line → Call → BusAnswer → Place → Place
settled app s lines calls.End answer p = p
settled app s lines (calls.Look pipe) answer p =
    passed app s (drop p.place lines) (looked app s (calls.Look pipe) answer p)
settled app s lines call answer p =
    option_map_or (λ line. gone_on app s lines call answer (behind app s line call answer p))
    (slice_get lines p.place) p

-- the lines of an application
abbrev pub lines_of : ScriptText → ℕ → List Line
lines_of script app = (app_at script app).lines

-- where an application is behind these entries of all applications, if it was there where the bus
-- was so
abbrev pub place_from : Limits → Whole → ℕ → List Line → Place → List Entry → Place
place_from limits w app lines p [] = p
place_from limits w app lines p (e ∷ es) =
    let after = (act limits w e.app e.call).1 in
    place_from limits after app lines
    (if e.app == app then settled app after.bus lines e.call e.answer p else p) es

-- if it is after a history of a script
abbrev pub place_after : ScriptText → ℕ → List Entry → Place
place_after script app history =
    let w = opening_whole script.limits (length script.apps) in
    let lines = lines_of script app in
    place_from script.limits w app lines (passed app w.bus lines first_place) history

-- the application that goes on from a place
abbrev pub running_from : ScriptText → ℕ → Place → Running
running_from script app p = record {
  app = app;
  lines = drop p.place (lines_of script app);
  registers = p.registers;
  handles = first_handles;
  written = p.written;
}

-- so, unless it has ended
abbrev pub left_from : ScriptText → ℕ → Standing → Place → Option Running
left_from script app Ended p = None
left_from script app standing p = Some (running_from script app p)

-- behind a history that is under way an application has to make what is owed from its place on
abbrev pub PlacesGoOn : Type 0
PlacesGoOn =
    (script : ScriptText) (history : List Entry) (app : ℕ) → IsBegun script history →
    1 ≤ app → app ≤ length script.apps →
    let s = (whole_after script.limits (length script.apps) history).bus in
    IsAt script app (own_entries app history) (standing_of s app)
    (left_from script app (standing_of s app) (place_after script app history))
