-- The same of the tables, if no call waits: what an application has still to make behind its
-- entries so far, and which call comes next.
use Rattle.std.specs.Prelude.{◌≡◌, ℕ, ◌≤◌, List, [], ◌∷◌, ◌++◌, length, Option, Some, None, IsTrue}
use Rattle.tbl_words.specs.declared.history.Call.{Call}
use Rattle.tbl_words.specs.declared.history.Call.TheVariants as calls
use Rattle.tbl_words.specs.declared.history.Entry.{Entry}
use Rattle.tbl_words.specs.Machine.{may_call, state_after, step}
use Rattle.script_lines.specs.declared.line.Line.{Line}
use Rattle.app_script.specs.Script.{ScriptText, app_at}
use Rattle.script_runs.specs.Owing.{TableOwes}
use Rattle.script_runs.specs.Rotation.{Running, behind_table}
use Rattle.script_runs.specs.TableTrace.{first_handles, handles_after, own_table_entries, table_call_of}
use Rattle.script_runs.specs.Trace.{Registers}
use Rattle.script_runs.specs.Written.{Written}
use Rattle.run_check.specs.Begun.{AreAllTablesOf, AreBegunTables}

-- behind its own entries an application has to make exactly what is owed by the one that goes on,
-- if one does
pub record IsAtTables (script : ScriptText) (app : ℕ) (own : List Entry)
    (left : Option Running) : Type 0 where
  pub owes : (es : List Entry) → AreAllTablesOf script app (own ++ es) → TableOwes left es
  pub enough : (es : List Entry) → TableOwes left es → AreAllTablesOf script app (own ++ es)

-- the call of the first of these lines; the end behind them all
abbrev pub first_table_call : Running → List Line → Option Call
first_table_call running [] = Some calls.End
first_table_call running (line ∷ lines) = table_call_of running.handles line

-- the call that comes next
abbrev pub next_table_call : Option Running → Option Call
next_table_call (Some running) = first_table_call running running.lines
next_table_call None = None

-- the tables can have the entry next
pub record IsTableAnswered (script : ScriptText) (history : List Entry) (e : Entry) : Type 0 where
  pub may : IsTrue (may_call (state_after script.limits (length script.apps) history) e.app)
  pub answer : e.answer ≡
      (step script.limits (state_after script.limits (length script.apps) history) e.app e.call).0

-- an application's next entry has the call that comes next, and the tables can have it
abbrev pub NextTableCallsAreKnown : Type 0
NextTableCallsAreKnown =
    (script : ScriptText) (history : List Entry) (e : Entry) (left : Option Running) (call : Call) →
    IsAtTables script e.app (own_table_entries e.app history) left →
    next_table_call left ≡ Some call →
    AreBegunTables script (history ++ e ∷ []) → (e.call ≡ call) × IsTableAnswered script history e

-- and each entry with that call which the tables can have may come next
abbrev pub NextTableCallsMayCome : Type 0
NextTableCallsMayCome =
    (script : ScriptText) (history : List Entry) (e : Entry) (left : Option Running) →
    AreBegunTables script history → 1 ≤ e.app → e.app ≤ length script.apps →
    IsAtTables script e.app (own_table_entries e.app history) left →
    next_table_call left ≡ Some e.call →
    IsTableAnswered script history e → AreBegunTables script (history ++ e ∷ [])

-- how an application goes on: before its first line, past a line that the tables don't see, behind
-- a line's entry, and behind its end; and its entries are all there are if it has ended, and
-- there alone
pub record TableProgressGoesOn (script : ScriptText) (app : ℕ) : Type 0 where
  pub first :
      (registers : Registers) (written : Written) →
      IsAtTables script app []
      (Some (record {
        app = app;
        lines = (app_at script app).lines;
        registers = registers;
        handles = first_handles;
        written = written;
      }))
  pub unseen :
      (own : List Entry) (r : Running) (line : Line) (lines : List Line) → r.lines ≡ line ∷ lines →
      table_call_of r.handles line ≡ None →
      IsAtTables script app own (Some r) →
      IsAtTables script app own (Some (behind_table r lines r.handles))
  pub line :
      (own : List Entry) (r : Running) (line : Line) (lines : List Line) (e : Entry) →
      r.lines ≡ line ∷ lines → table_call_of r.handles line ≡ Some e.call →
      IsAtTables script app own (Some r) →
      IsAtTables script app (own ++ e ∷ [])
      (Some (behind_table r lines (handles_after r.handles line e.answer)))
  pub end :
      (own : List Entry) (r : Running) (e : Entry) → r.lines ≡ [] → e.call ≡ calls.End →
      IsAtTables script app own (Some r) → IsAtTables script app (own ++ e ∷ []) None
  pub whole : (own : List Entry) → IsAtTables script app own None → AreAllTablesOf script app own
  pub missing : (own : List Entry) (r : Running) → IsAtTables script app own (Some r) →
      ¬ AreAllTablesOf script app own

abbrev pub ApplicationsGoOnAtTables : Type 0
ApplicationsGoOnAtTables = (script : ScriptText) (app : ℕ) → TableProgressGoesOn script app
