-- Where all applications are behind one more entry.
use Rattle.std.proofs.Common.{◌≡◌, ℕ, ◌==◌, Bool, true, false, cond, eq-eqb, List, [], ◌∷◌, ◌++◌, length, if◌then◌else◌, refl, ap, ◌∙◌}
use Rattle.fsw_base.specs.Limits.{Limits}
use Rattle.bus_words.specs.declared.history.Entry.{Entry}
use Rattle.bus_words.specs.Acts.{Whole, act, opening_whole, whole_after, whole_from}
use Rattle.bus_words.specs.Bus.{State}
use Rattle.script_lines.specs.declared.line.Line.{Line}
use Rattle.app_script.specs.Script.{ScriptText}
use Rattle.run_check.specs.Places.{Place, first_place, lines_of, passed, place_after, place_from, settled}
use Rattle.run_check.proofs.BusReceipts.{whole_push}

-- where it is behind the one entry, if it was there
abbrev pub place_then : ℕ → State → List Line → Entry → Place → Place
place_then app s lines e p = if e.app == app then settled app s lines e.call e.answer p else p

from_push : (limits : Limits) (w : Whole) (app : ℕ) (lines : List Line) (p : Place) (es : List Entry) (e : Entry) →
    place_from limits w app lines p (es ++ e ∷ []) ≡ place_then app ((act limits (whole_from limits w es) e.app e.call).1.bus) lines e (place_from limits w app lines p es)
from_push limits w app lines p [] e = refl
from_push limits w app lines p (x ∷ es) e =
    let after = (act limits w x.app x.call).1 in
    from_push limits after app lines (if x.app == app then settled app after.bus lines x.call x.answer p else p) es e

-- all of the state behind one entry more
pub whole_then : (script : ScriptText) (history : List Entry) (e : Entry) →
    whole_after script.limits (length script.apps) (history ++ e ∷ []) ≡ (act script.limits (whole_after script.limits (length script.apps) history) e.app e.call).1
whole_then script history e = whole_push script.limits (opening_whole script.limits (length script.apps)) history e

place_push : (script : ScriptText) (app : ℕ) (history : List Entry) (e : Entry) →
    place_after script app (history ++ e ∷ [])
    ≡ place_then app ((act script.limits (whole_after script.limits (length script.apps) history) e.app e.call).1.bus) (lines_of script app) e (place_after script app history)
place_push script app history e =
    let w = opening_whole script.limits (length script.apps) in
    from_push script.limits w app (lines_of script app) (passed app w.bus (lines_of script app) first_place) history e

pub same_number : (n : ℕ) → (n == n) ≡ true
same_number n = eq-eqb n n refl

-- the one whose entry it is
pub place_own : (script : ScriptText) (history : List Entry) (e : Entry) →
    place_after script e.app (history ++ e ∷ [])
    ≡ settled e.app ((act script.limits (whole_after script.limits (length script.apps) history) e.app e.call).1.bus) (lines_of script e.app) e.call e.answer (place_after script e.app history)
place_own script history e =
    let s = (act script.limits (whole_after script.limits (length script.apps) history) e.app e.call).1.bus in
    let p = place_after script e.app history in
    place_push script e.app history e ∙ ap (λ (b : Bool). cond {A = Place} b (settled e.app s (lines_of script e.app) e.call e.answer p) p) (same_number e.app)

-- another
pub place_other : (script : ScriptText) (app : ℕ) (history : List Entry) (e : Entry) → (e.app == app) ≡ false →
    place_after script app (history ++ e ∷ []) ≡ place_after script app history
place_other script app history e apart =
    let s = (act script.limits (whole_after script.limits (length script.apps) history) e.app e.call).1.bus in
    let p = place_after script app history in
    place_push script app history e ∙ ap (λ (b : Bool). cond {A = Place} b (settled app s (lines_of script app) e.call e.answer p) p) apart
