-- Where an application is among its lines at the tables, where no call waits, and the receipts of
-- its lines so far.
use Rattle.std.specs.Prelude.{ℕ, ◌+◌, ◌≤◌, ◌==◌, Bool, true, false, List, [], ◌∷◌, ◌++◌, length, drop, slice_index, slice_get, unwrap_or, is_some, Option, Some, None, if◌then◌else◌}
use Rattle.std.specs.Option.{option_map_or}
use Rattle.fsw_base.specs.Limits.{Limits}
use Rattle.bus_words.specs.declared.receipts.Receipt.{Receipt}
use Rattle.bus_words.specs.declared.receipts.Receipt.TheVariants.{Nothing}
use Rattle.tbl_words.specs.declared.calls.TblAnswer.{TblAnswer}
use Rattle.tbl_words.specs.declared.history.Call.{Call}
use Rattle.tbl_words.specs.declared.history.Entry.{Entry}
use Rattle.tbl_words.specs.Machine.{state_after, step}
use Rattle.tbl_words.specs.Tables.{State, has_ended, opening}
use Rattle.app_script.specs.Script.{ScriptText}
use Rattle.script_lines.specs.declared.line.Line.{Line}
use Rattle.script_lines.specs.declared.line.Line.TheVariants.{ShowTable}
use Rattle.script_runs.specs.Rotation.{Running}
use Rattle.script_runs.specs.TableTrace.{first_handles, handles_after, own_table_entries, table_call_of}
use Rattle.script_runs.specs.Told.{addressed_in, held_in}
use Rattle.script_runs.specs.Trace.{first_registers}
use Rattle.script_runs.specs.Written.{first_written}
use Rattle.run_check.specs.Begun.{AreBegunTables}
use Rattle.run_check.specs.Places.{Made, lines_of, made_at}
use Rattle.run_check.specs.TableProgress.{IsAtTables}

-- The place of its next line, its registers of handles, and the receipts so far.
pub record TablePlace : Type 0 where
  pub place : ℕ
  pub handles : List ℕ
  pub receipts : List Made

-- before its first line
abbrev pub first_table_place : TablePlace
first_table_place = record { place = 0; handles = first_handles; receipts = [] }

-- what a line shows of the tables
unfoldable pub shown_at_tables : ℕ → State → List ℕ → Line → List Receipt
shown_at_tables app t handles (ShowTable handle) =
    unwrap_or (held_in t app (slice_index handles handle)) Nothing ∷ []
shown_at_tables app t handles line = []

-- past a line that the tables don't see
abbrev pub past_at_tables : ℕ → State → Line → TablePlace → TablePlace
past_at_tables app t line p = record p {
  place = p.place + 1;
  receipts = p.receipts ++ made_at p.place (shown_at_tables app t p.handles line);
}

-- past all lines that the tables don't see, as far as the first of these that they do
abbrev pub passed_at_tables : ℕ → State → List Line → TablePlace → TablePlace
passed_at_tables app t [] p = p
passed_at_tables app t (line ∷ lines) p =
    if is_some (table_call_of p.handles line) then p
    else passed_at_tables app t lines (past_at_tables app t line p)

-- behind the line whose call was so answered, with the tables as the call left them
abbrev pub behind_at_tables : ℕ → State → Line → Call → TblAnswer → TablePlace → TablePlace
behind_at_tables app t line call answer p = record p {
  place = p.place + 1;
  handles = handles_after p.handles line answer;
  receipts = p.receipts ++ made_at p.place (addressed_in app t call answer);
}

-- of all its lines, if it is once its next call was so answered; at its end it has none left
abbrev pub settled_at_tables : ℕ → State → List Line → Call → TblAnswer → TablePlace → TablePlace
settled_at_tables app t lines call answer p =
    option_map_or
    (λ line.
    passed_at_tables app t (drop (p.place + 1) lines) (behind_at_tables app t line call answer p))
    (slice_get lines p.place) p

-- where an application is behind these entries of all applications, if it was there where the
-- tables were so
abbrev pub table_place_from : Limits → State → ℕ → List Line → TablePlace → List Entry → TablePlace
table_place_from limits t app lines p [] = p
table_place_from limits t app lines p (e ∷ es) =
    let after = (step limits t e.app e.call).1 in
    table_place_from limits after app lines
    (if e.app == app then settled_at_tables app after lines e.call e.answer p else p) es

-- if it is after a history of a script
abbrev pub table_place_after : ScriptText → ℕ → List Entry → TablePlace
table_place_after script app history =
    let t = opening script.limits (length script.apps) in
    let lines = lines_of script app in
    table_place_from script.limits t app lines
    (passed_at_tables app t lines first_table_place) history

-- the application that goes on from a place
abbrev pub running_at_tables : ScriptText → ℕ → TablePlace → Running
running_at_tables script app p = record {
  app = app;
  lines = drop p.place (lines_of script app);
  registers = first_registers;
  handles = p.handles;
  written = first_written;
}

-- so, unless it has ended
abbrev pub left_at_tables : ScriptText → ℕ → Bool → TablePlace → Option Running
left_at_tables script app true p = None
left_at_tables script app false p = Some (running_at_tables script app p)

-- behind a history that is under way an application has to make what is owed from its place on
abbrev pub TablePlacesGoOn : Type 0
TablePlacesGoOn =
    (script : ScriptText) (history : List Entry) (app : ℕ) → AreBegunTables script history →
    1 ≤ app → app ≤ length script.apps →
    let t = state_after script.limits (length script.apps) history in
    IsAtTables script app (own_table_entries app history)
    (left_at_tables script app (has_ended t app) (table_place_after script app history))
