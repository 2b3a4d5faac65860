-- Where all applications are behind one more entry.
use Rattle.std.proofs.Common.{◌≡◌, ℕ, ◌==◌, Bool, true, false, cond, eq-eqb, List, [], ◌∷◌, ◌++◌, length, Option, Some, None, if◌then◌else◌, refl, ap, sym, ◌∙◌, subst}
use Rattle.std.specs.Prelude.{slice_get}
use Rattle.fsw_base.specs.Limits.{Limits}
use Rattle.tbl_words.specs.declared.history.Entry.{Entry}
use Rattle.tbl_words.specs.Machine.{state_after, state_from, step}
use Rattle.tbl_words.specs.Tables.{State, opening}
use Rattle.tbl_words.proofs.Replay.{state_from-push}
use Rattle.script_lines.specs.declared.line.Line.{Line}
use Rattle.app_script.specs.Script.{ScriptText}
use Rattle.run_check.specs.Places.{lines_of}
use Rattle.run_check.specs.TablePlaces.{TablePlace, first_table_place, passed_at_tables, settled_at_tables, table_place_after, table_place_from}
use Rattle.run_check.proofs.TablePlaces.{Ready, passed_ready, settled_none, settled_ready}

-- One application. --

-- where it is behind the one entry, if it was there
abbrev pub place_then : ℕ → State → List Line → Entry → TablePlace → TablePlace
place_then app t lines e p = if e.app == app then settled_at_tables app t lines e.call e.answer p else p

from_push : (limits : Limits) (t : State) (app : ℕ) (lines : List Line) (p : TablePlace) (es : List Entry) (e : Entry) →
    table_place_from limits t app lines p (es ++ e ∷ []) ≡ place_then app ((step limits (state_from limits t es) e.app e.call).1) lines e (table_place_from limits t app lines p es)
from_push limits t app lines p [] e = refl
from_push limits t app lines p (x ∷ es) e =
    let after = (step limits t x.app x.call).1 in
    from_push limits after app lines (if x.app == app then settled_at_tables app after lines x.call x.answer p else p) es e

-- the state behind one entry more
pub state_then : (script : ScriptText) (history : List Entry) (e : Entry) →
    state_after script.limits (length script.apps) (history ++ e ∷ []) ≡ (step script.limits (state_after script.limits (length script.apps) history) e.app e.call).1
state_then script history e = state_from-push script.limits (opening script.limits (length script.apps)) history e

pub place_push : (script : ScriptText) (app : ℕ) (history : List Entry) (e : Entry) →
    table_place_after script app (history ++ e ∷ [])
    ≡ place_then app ((step script.limits (state_after script.limits (length script.apps) history) e.app e.call).1) (lines_of script app) e (table_place_after script app history)
place_push script app history e =
    let t = opening script.limits (length script.apps) in
    from_push script.limits t app (lines_of script app) (passed_at_tables app t (lines_of script app) first_table_place) history e

pub same_number : (n : ℕ) → (n == n) ≡ true
same_number n = eq-eqb n n refl

-- the one whose entry it is
pub place_own : (script : ScriptText) (history : List Entry) (e : Entry) →
    table_place_after script e.app (history ++ e ∷ [])
    ≡ settled_at_tables e.app ((step script.limits (state_after script.limits (length script.apps) history) e.app e.call).1) (lines_of script e.app) e.call e.answer (table_place_after script e.app history)
place_own script history e =
    let t = (step script.limits (state_after script.limits (length script.apps) history) e.app e.call).1 in
    let p = table_place_after script e.app history in
    place_push script e.app history e ∙ ap (λ (b : Bool). cond {A = TablePlace} b (settled_at_tables e.app t (lines_of script e.app) e.call e.answer p) p) (same_number e.app)

-- another
pub place_other : (script : ScriptText) (app : ℕ) (history : List Entry) (e : Entry) → (e.app == app) ≡ false →
    table_place_after script app (history ++ e ∷ []) ≡ table_place_after script app history
place_other script app history e apart =
    let t = (step script.limits (state_after script.limits (length script.apps) history) e.app e.call).1 in
    let p = table_place_after script app history in
    place_push script app history e ∙ ap (λ (b : Bool). cond {A = TablePlace} b (settled_at_tables app t (lines_of script app) e.call e.answer p) p) apart

-- wherever an application is, the tables see its next line
settled_sees : (script : ScriptText) (app : ℕ) (t : State) (e : Entry) (p : TablePlace) → Ready (lines_of script app) p → Ready (lines_of script app) (settled_at_tables app t (lines_of script app) e.call e.answer p)
settled_sees script app t e p ready = by (slice_get (lines_of script app) p.place) refl
  where
    by : (o : Option Line) → slice_get (lines_of script app) p.place ≡ o → Ready (lines_of script app) (settled_at_tables app t (lines_of script app) e.call e.answer p)
    by None is = let P : TablePlace → Type 0 = Ready (lines_of script app) in subst P (sym (settled_none script app t p e is)) ready
    by (Some line) is = settled_ready script app t p e line is

sees_from : (script : ScriptText) (limits : Limits) (t : State) (app : ℕ) (p : TablePlace) (es : List Entry) → Ready (lines_of script app) p → Ready (lines_of script app) (table_place_from limits t app (lines_of script app) p es)
sees_from script limits t app p [] ready = ready
sees_from script limits t app p (e ∷ es) ready = sees_from script limits after app (place_then app after (lines_of script app) e p) es (by (e.app == app))
  where
    after : State
    after = (step limits t e.app e.call).1

    by : (b : Bool) → Ready (lines_of script app) (cond {A = TablePlace} b (settled_at_tables app after (lines_of script app) e.call e.answer p) p)
    by true = settled_sees script app after e p ready
    by false = ready

pub place_sees : (script : ScriptText) (app : ℕ) (history : List Entry) → Ready (lines_of script app) (table_place_after script app history)
place_sees script app history =
    let t = opening script.limits (length script.apps) in
    sees_from script script.limits t app (passed_at_tables app t (lines_of script app) first_table_place) history
    (passed_ready app t (lines_of script app) (lines_of script app) first_table_place refl)
