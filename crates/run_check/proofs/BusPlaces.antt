-- Where an application is at the bus: past the lines that it doesn't see.
use Rattle.std.proofs.Common.{◌≡◌, ℕ, ◌+◌, Bool, true, false, cond, true≢false, List, [], ◌∷◌, drop, Option, Some, None, refl, sym, ◌∙◌, subst}
use Rattle.std.specs.Prelude.{slice_get, is_some}
use Rattle.bus_words.specs.declared.history.Call.{Call}
use Rattle.bus_words.specs.declared.history.Entry.{Entry}
use Rattle.bus_words.specs.Bus.{State, Active}
use Rattle.script_lines.specs.declared.line.Line.{Line}
use Rattle.app_script.specs.Script.{ScriptText}
use Rattle.script_runs.specs.Rotation.{Running, behind}
use Rattle.script_runs.specs.Trace.{call_of}
use Rattle.script_runs.specs.Written.{written_by}
use Rattle.run_check.specs.Places.{Place, lines_of, passed, past, running_from}
use Rattle.run_check.specs.Progress.{IsAt}
use Rattle.run_check.proofs.Progress.{applications_go_on}
use Rattle.run_check.proofs.TablePlaces.{line_there, no_line_there}

-- the line at a place is one that the bus sees, or there is none
abbrev pub Ready : List Line → Place → Type 0
Ready lines p = (line : Line) → slice_get lines p.place ≡ Some line → is_some (call_of p.registers p.written line) ≡ true

none_of : (o : Option Call) → is_some o ≡ false → o ≡ None
none_of None is = refl
none_of (Some call) is = absurd (true≢false is)

-- past the lines that the bus doesn't see it is ready
pub passed_ready : (app : ℕ) (s : State) (lines left : List Line) (p : Place) → drop p.place lines ≡ left → Ready lines (passed app s left p)
passed_ready app s lines [] p is = λ line there. absurd (cc (sym (no_line_there lines p.place is) ∙ there))
passed_ready app s lines (x ∷ left) p is = by (is_some (call_of p.registers p.written x)) refl (passed_ready app s lines left (past app s x p) found.1)
  where
    found : (slice_get lines p.place ≡ Some x) × (drop (p.place + 1) lines ≡ left)
    found = line_there lines p.place x left is

    by : (b : Bool) → is_some (call_of p.registers p.written x) ≡ b → Ready lines (passed app s left (past app s x p)) →
        Ready lines (cond {A = Place} b p (passed app s left (past app s x p)))
    by true seen behind = λ line there.
        let same : x ≡ line = cc (found.0, there) in
        subst (λ (l : Line). is_some (call_of p.registers p.written l) ≡ true) same seen
    by false unseen behind = behind

-- and it has to make what it had to make before
pub passed_at : (script : ScriptText) (app : ℕ) (s : State) (own : List Entry) (left : List Line) (p : Place) → drop p.place (lines_of script app) ≡ left →
    IsAt script app own Active (Some (running_from script app p)) → IsAt script app own Active (Some (running_from script app (passed app s left p)))
passed_at script app s own [] p is at = at
passed_at script app s own (x ∷ left) p is at =
    by (is_some (call_of p.registers p.written x)) refl (λ unseen. passed_at script app s own left (past app s x p) found.1 (past_one unseen))
  where
    r : Running
    r = running_from script app p

    found : (slice_get (lines_of script app) p.place ≡ Some x) × (drop (p.place + 1) (lines_of script app) ≡ left)
    found = line_there (lines_of script app) p.place x left is

    past_one : is_some (call_of p.registers p.written x) ≡ false → IsAt script app own Active (Some (running_from script app (past app s x p)))
    past_one unseen =
        subst (λ (l : List Line). IsAt script app own Active (Some (behind r l r.registers (written_by r.written r.registers.buffers x)))) (sym found.1)
        ((applications_go_on script app).silent own r x left is (none_of (call_of p.registers p.written x) unseen) at)

    Behind : Type 0
    Behind = IsAt script app own Active (Some (running_from script app (passed app s left (past app s x p))))

    by : (b : Bool) → is_some (call_of p.registers p.written x) ≡ b → (is_some (call_of p.registers p.written x) ≡ false → Behind) →
        IsAt script app own Active (Some (running_from script app (cond {A = Place} b p (passed app s left (past app s x p)))))
    by true seen behind = at
    by false unseen behind = behind unseen
