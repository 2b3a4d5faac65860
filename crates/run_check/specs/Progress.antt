-- How far an application of a script is: what it has still to make behind its entries so far, and
-- which call comes next.
use Rattle.std.specs.Prelude.{◌≡◌, ℕ, ◌≤◌, List, [], ◌∷◌, ◌++◌, length, Option, Some, None, IsTrue}
use Rattle.bus_words.specs.declared.calls.BusAnswer.{BusAnswer}
use Rattle.bus_words.specs.declared.calls.BusAnswer.TheVariants.{Pending}
use Rattle.bus_words.specs.declared.history.Call.{Call}
use Rattle.bus_words.specs.declared.history.Call.TheVariants as calls
use Rattle.bus_words.specs.declared.history.Entry.{Entry}
use Rattle.bus_words.specs.Bus.{Standing, Active, Waiting, Ended, standing_of}
use Rattle.bus_words.specs.Machine.{brings, makes_entry, may_call, state_after, step}
use Rattle.script_lines.specs.declared.line.Line.{Line}
use Rattle.app_script.specs.Script.{ScriptText, app_at}
use Rattle.script_runs.specs.Owing.{Owes}
use Rattle.script_runs.specs.Rotation.{Running, behind}
use Rattle.script_runs.specs.Trace.{call_of, first_registers, own_entries, registers_after}
use Rattle.script_runs.specs.Written.{first_written, written_after, written_by}
use Rattle.run_check.specs.Begun.{AreAllOf, IsBegun}

-- Behind its own entries an application that stands so has to make exactly what is owed by the one
-- that goes on, if one does.
pub record IsAt (script : ScriptText) (app : ℕ) (own : List Entry) (standing : Standing)
    (left : Option Running) : Type 0 where
  pub owes : (es : List Entry) → AreAllOf script app (own ++ es) → Owes standing left es
  pub enough : (es : List Entry) → Owes standing left es → AreAllOf script app (own ++ es)

-- the call of the first of these lines; the end behind them all
abbrev pub first_call : Running → List Line → Option Call
first_call running [] = Some calls.End
first_call running (line ∷ lines) = call_of running.registers running.written line

-- the call that comes next: a look while the application waits
abbrev pub next_call : Standing → Option Running → Option Call
next_call Active (Some running) = first_call running running.lines
next_call (Waiting pipe) (Some running) = Some (calls.Look pipe)
next_call Ended (Some running) = None
next_call standing None = None

-- how it stands once the call of a line was so answered
abbrev pub standing_then : Call → BusAnswer → Standing
standing_then (calls.Pend pipe) Pending = Waiting pipe
standing_then call answer = Active

-- the one that goes on behind a line whose call was so answered
abbrev pub behind_line : Running → Line → List Line → Call → BusAnswer → Running
behind_line running line lines call answer =
    behind running lines (registers_after running.registers line answer)
    (written_after running.written call answer)

-- the bus can have the entry next
pub record IsAnswered (script : ScriptText) (history : List Entry) (e : Entry) : Type 0 where
  pub may : IsTrue
      (may_call (standing_of (state_after script.limits (length script.apps) history) e.app) e.call)
  pub answer : e.answer ≡
      (step script.limits history (state_after script.limits (length script.apps) history) e.app
      e.call).0
  pub entered : IsTrue (makes_entry e.call e.answer)
  pub brought : IsTrue
      (brings (state_after script.limits (length script.apps) history).unsent e.app e.call)

-- An application's next entry has the call that comes next, and the bus can have it; and the
-- application is then behind that entry.
abbrev pub NextCallsAreKnown : Type 0
NextCallsAreKnown =
    (script : ScriptText) (history : List Entry) (e : Entry) (standing : Standing)
    (left : Option Running) (call : Call) →
    IsAt script e.app (own_entries e.app history) standing left →
    next_call standing left ≡ Some call →
    IsBegun script (history ++ e ∷ []) → (e.call ≡ call) × IsAnswered script history e

-- And each entry with that call which the bus can have may come next.
abbrev pub NextCallsMayCome : Type 0
NextCallsMayCome =
    (script : ScriptText) (history : List Entry) (e : Entry) (standing : Standing)
    (left : Option Running) →
    IsBegun script history → 1 ≤ e.app → e.app ≤ length script.apps →
    IsAt script e.app (own_entries e.app history) standing left →
    next_call standing left ≡ Some e.call →
    IsAnswered script history e → IsBegun script (history ++ e ∷ [])

-- How an application goes on: before its first line, past a line that the bus doesn't see, behind a
-- line's entry, behind the look that settles it, and behind its end; and its entries are all there
-- are if it has ended, and there alone.
pub record ProgressGoesOn (script : ScriptText) (app : ℕ) : Type 0 where
  pub first :
      (handles : List ℕ) →
      IsAt script app [] Active
      (Some (record {
        app = app;
        lines = (app_at script app).lines;
        registers = first_registers;
        handles = handles;
        written = first_written;
      }))
  pub silent :
      (own : List Entry) (r : Running) (line : Line) (lines : List Line) → r.lines ≡ line ∷ lines →
      call_of r.registers r.written line ≡ None →
      IsAt script app own Active (Some r) →
      IsAt script app own Active
      (Some (behind r lines r.registers (written_by r.written r.registers.buffers line)))
  pub line :
      (own : List Entry) (r : Running) (line : Line) (lines : List Line) (e : Entry) →
      r.lines ≡ line ∷ lines → call_of r.registers r.written line ≡ Some e.call →
      IsAt script app own Active (Some r) →
      IsAt script app (own ++ e ∷ []) (standing_then e.call e.answer)
      (Some (behind_line r line lines e.call e.answer))
  pub look :
      (own : List Entry) (r : Running) (pipe : ℕ) (e : Entry) → e.call ≡ calls.Look pipe →
      IsAt script app own (Waiting pipe) (Some r) → IsAt script app (own ++ e ∷ []) Active (Some r)
  pub end :
      (own : List Entry) (r : Running) (e : Entry) → r.lines ≡ [] → e.call ≡ calls.End →
      IsAt script app own Active (Some r) → IsAt script app (own ++ e ∷ []) Ended None
  pub whole : (own : List Entry) → IsAt script app own Ended None → AreAllOf script app own
  pub missing : (own : List Entry) (standing : Standing) (r : Running) →
      IsAt script app own standing (Some r) → ¬ AreAllOf script app own

abbrev pub ApplicationsGoOn : Type 0
ApplicationsGoOn = (script : ScriptText) (app : ℕ) → ProgressGoesOn script app
