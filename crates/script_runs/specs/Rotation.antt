-- Strict rotation: each application that has not ended takes a turn, in order of number, again and
-- again. A turn is its next line; or one look at the pipe, while it waits; or its end, once its
-- lines are through: at the tables first, then at the bus.
use Rattle.std.specs.Prelude.{ℕ, zero, suc, ◌+◌, ◌*◌, List, [], ◌∷◌, ◌++◌, length, sum_by, Option, Some, None}
use Rattle.fsw_base.specs.Limits.{Limits}
use Rattle.bus_words.specs.declared.calls.BusAnswer.{BusAnswer}
use Rattle.bus_words.specs.declared.calls.BusAnswer.TheVariants.{Pending}
use Rattle.bus_words.specs.declared.history.Call.{Call}
use Rattle.bus_words.specs.declared.history.Call.TheVariants.{Look, End}
use Rattle.bus_words.specs.declared.history.Entry.{Entry}
use Rattle.bus_words.specs.Bus.{State, Standing, Active, Waiting, Ended, opening, standing_of}
use Rattle.bus_words.specs.Machine.{step}
use Rattle.tbl_words.specs.declared.calls.TblAnswer.{TblAnswer}
use Rattle.tbl_words.specs.declared.history.Call.{Call as TableCall}
use Rattle.tbl_words.specs.declared.history.Call.TheVariants as table_calls
use Rattle.tbl_words.specs.declared.history.Entry.{Entry as TableEntry}
use Rattle.tbl_words.specs.Machine.{step as table_step}
use Rattle.tbl_words.specs.Tables.{State as Tables, opening as no_tables}
use Rattle.script_lines.specs.declared.line.Line.{Line}
use Rattle.app_script.specs.Script.{Application, ScriptText}
use Rattle.script_runs.specs.Histories.{Histories}
use Rattle.script_runs.specs.TableTrace.{first_handles, table_call_of, handles_after}
use Rattle.script_runs.specs.Trace.{Registers, first_registers, call_of, registers_after}
use Rattle.script_runs.specs.Written.{Written, first_written, written_after, written_by}

-- An application that has not ended: its number, the lines left, its registers, those of table
-- handles by themselves, and what it wrote into its unsent buffers.
pub record Running : Type 0 where
  pub app : ℕ
  pub lines : List Line
  pub registers : Registers
  pub handles : List ℕ
  pub written : Written

-- Both services so far: of the bus the history and the state after it, and of the tables the same.
pub record SoFar : Type 0 where
  pub history : List Entry
  pub state : State
  pub table_history : List TableEntry
  pub tables : Tables

-- The bus. --

-- its answer to a call
abbrev pub answer_to : Limits → SoFar → ℕ → Call → BusAnswer
answer_to limits sofar app call = (step limits sofar.history sofar.state app call).0

-- the services after a call of the bus, answered as the machine answers it
abbrev pub after_call : Limits → SoFar → ℕ → Call → SoFar
after_call limits sofar app call = record sofar {
  history =
      sofar.history ++
      record { app = app; call = call; answer = answer_to limits sofar app call } ∷ [];
  state = (step limits sofar.history sofar.state app call).1;
}

-- the services after a look so answered: as before if the application still waits
abbrev pub after_look : Limits → SoFar → ℕ → ℕ → BusAnswer → SoFar
after_look limits sofar app pipe Pending = sofar
after_look limits sofar app pipe answer = after_call limits sofar app (Look pipe)

-- The tables. --

-- their answer to a call
abbrev pub table_answer_to : Limits → SoFar → ℕ → TableCall → TblAnswer
table_answer_to limits sofar app call = (table_step limits sofar.tables app call).0

-- the services after a call of the tables, answered as their machine answers it
abbrev pub after_table_call : Limits → SoFar → ℕ → TableCall → SoFar
after_table_call limits sofar app call = record sofar {
  table_history =
      sofar.table_history ++
      record { app = app; call = call; answer = table_answer_to limits sofar app call } ∷ [];
  tables = (table_step limits sofar.tables app call).1;
}

-- Turns. --

-- the application behind its line, which the bus saw, or which wrote into its buffers
abbrev pub behind : Running → List Line → Registers → Written → Running
behind running lines registers written =
    record running { lines = lines; registers = registers; written = written }

-- the application behind its line, which the tables saw
abbrev pub behind_table : Running → List Line → List ℕ → Running
behind_table running lines handles = record running { lines = lines; handles = handles }

-- a turn that runs a line which the bus doesn't see: its call of the tables, if these see it
abbrev pub other_turn : Limits → SoFar → Running → Line → List Line → Option TableCall → SoFar ×
    List Running
other_turn limits sofar running line lines None = (
  sofar,
  behind running lines running.registers
      (written_by running.written running.registers.buffers line) ∷ [],
)
other_turn limits sofar running line lines (Some call) =
    let answer = table_answer_to limits sofar running.app call in (
      after_table_call limits sofar running.app call,
      behind_table running lines
          (handles_after running.handles line answer) ∷ [],
    )

-- a turn that runs a line: its call of the bus, if the bus sees it
abbrev pub line_turn : Limits → SoFar → Running → Line → List Line → Option Call → SoFar ×
    List Running
line_turn limits sofar running line lines None =
    other_turn limits sofar running line lines (table_call_of running.handles line)
line_turn limits sofar running line lines (Some call) =
    let answer = answer_to limits sofar running.app call in (
      after_call limits sofar running.app call,
      behind running lines (registers_after running.registers line answer)
          (written_after running.written call answer) ∷ [],
    )

-- the end, at both services
abbrev pub after_end : Limits → SoFar → ℕ → SoFar
after_end limits sofar app =
    after_call limits (after_table_call limits sofar app table_calls.End) app End

-- a turn that doesn't wait: the next line, or the end
abbrev pub active_turn : Limits → SoFar → Running → List Line → SoFar × List Running
active_turn limits sofar running [] = (after_end limits sofar running.app, [])
active_turn limits sofar running (line ∷ lines) =
    line_turn limits sofar running line lines (call_of running.registers running.written line)

-- One turn of an application in this standing; and the application, if it goes on.
abbrev pub turn_in : Limits → SoFar → Running → Standing → SoFar × List Running
turn_in limits sofar running (Waiting pipe) = (
  after_look limits sofar running.app pipe (answer_to limits sofar running.app (Look pipe)),
  running ∷ [],
)
turn_in limits sofar running Active = active_turn limits sofar running running.lines
turn_in limits sofar running Ended = (sofar, [])

abbrev pub turn : Limits → SoFar → Running → SoFar × List Running
turn limits sofar running = turn_in limits sofar running (standing_of sofar.state running.app)

-- Rotations. --

-- one rotation: a turn of each application, in order
abbrev pub rotated : Limits → SoFar → List Running → SoFar × List Running
rotated limits sofar [] = (sofar, [])
rotated limits sofar (running ∷ others) =
    let first = turn limits sofar running in
    let rest = rotated limits first.0 others in
    (rest.0, first.1 ++ rest.1)

-- so many rotations
abbrev pub rotations : ℕ → Limits → SoFar × List Running → SoFar × List Running
rotations zero limits now = now
rotations (suc n) limits now = rotations n limits (rotated limits now.0 now.1)

-- the applications before the first rotation, from this number on
abbrev pub starting : ℕ → List Application → List Running
starting app [] = []
starting app (a ∷ others) =
    record {
      app = app;
      lines = a.lines;
      registers = first_registers;
      handles = first_handles;
      written = first_written;
    }
    ∷ starting (app + 1) others

-- both services before the first call of so many applications
abbrev pub opened : Limits → ℕ → SoFar
opened limits apps =
    record {
      history = [];
      state = opening limits apps;
      table_history = [];
      tables = no_tables limits apps;
    }

-- enough rotations for each application to make its calls and end: one for each line, one more for
-- one that waits, and one for its end
abbrev pub enough : ScriptText → ℕ
enough script = sum_by (λ a. 2 * length a.lines + 1) script.apps

-- both services and the applications before the first rotation
abbrev pub before_all : ScriptText → SoFar × List Running
before_all script = (opened script.limits (length script.apps), starting 1 script.apps)

-- the histories that rotation makes of a script
abbrev pub rotation : ScriptText → Histories
rotation script =
    let last = (rotations (enough script) script.limits (before_all script)).0 in
    record { bus = last.history; tables = last.table_history }
