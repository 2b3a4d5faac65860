-- What comes next at an application's place.
use Rattle.std.proofs.Common.{◌≡◌, ℕ, ◌+◌, ◌<◌, Bool, true, false, not, true≢false, List, [], ◌∷◌, length, drop, Option, Some, None, refl, ap, sym, ◌∙◌}
use Rattle.std.proofs.lemmas.Option.{slice_get_within}
use Rattle.std.specs.Prelude.{slice_get, is_some}
use Rattle.std.specs.Option.{option_map_or}
use Rattle.tbl_words.specs.declared.history.Call.{Call}
use Rattle.tbl_words.specs.declared.history.Call.TheVariants.{End}
use Rattle.tbl_words.specs.Tables.{State}
use Rattle.script_lines.specs.declared.line.Line.{Line}
use Rattle.script_runs.specs.Rotation.{Running}
use Rattle.script_runs.specs.TableTrace.{table_call_of}
use Rattle.app_script.specs.Script.{ScriptText}
use Rattle.run_check.specs.Places.{lines_of}
use Rattle.run_check.specs.TablePlaces.{TablePlace, passed_at_tables, past_at_tables, running_at_tables}
use Rattle.run_check.specs.TableProgress.{first_table_call, next_table_call}
use Rattle.run_check.proofs.TablePlaces.{Ready, line_there, no_line_there, pass_on, pass_stops}
use Rattle.table_replay.specs.Places.{call_at, is_before_unseen}

-- the call that comes next, as what an application has still to make says it
pub next_is : (script : ScriptText) (app : ℕ) (p : TablePlace) → next_table_call (Some (running_at_tables script app p)) ≡ call_at (lines_of script app) p
next_is script app p = by (drop p.place lines) refl
  where
    lines : List Line
    lines = lines_of script app

    r : Running
    r = running_at_tables script app p

    at : Option Line → Option Call
    at o = option_map_or (λ line. table_call_of p.handles line) o (Some End)

    by : (left : List Line) → drop p.place lines ≡ left → first_table_call r (drop p.place lines) ≡ at (slice_get lines p.place)
    by [] is = ap (λ l. first_table_call r l) is ∙ sym (ap at (no_line_there lines p.place is))
    by (x ∷ left) is = ap (λ l. first_table_call r l) is ∙ sym (ap at (line_there lines p.place x left is).0)

-- if the tables see the next line, there is a call
pub call_there : (lines : List Line) (p : TablePlace) → Ready lines p → is_some (call_at lines p) ≡ true
call_there lines p ready = by (slice_get lines p.place) refl
  where
    by : (o : Option Line) → slice_get lines p.place ≡ o → is_some (option_map_or (λ line. table_call_of p.handles line) (slice_get lines p.place) (Some End)) ≡ true
    by None is = ap (λ (o : Option Line). is_some (option_map_or (λ line. table_call_of p.handles line) o (Some End))) is
    by (Some line) is = ap (λ (o : Option Line). is_some (option_map_or (λ line. table_call_of p.handles line) o (Some End))) is ∙ ready line is

-- Past the lines that the tables don't see. --

-- if it is before one, that is the first that it goes past
pub unseen_first : (app : ℕ) (t : State) (lines : List Line) (line : Line) (p : TablePlace) → is_before_unseen lines p ≡ true → slice_get lines p.place ≡ Some line →
    passed_at_tables app t (drop (p.place + 1) lines) (past_at_tables app t line p) ≡ passed_at_tables app t (drop p.place lines) p
unseen_first app t lines line p before there =
    sym (pass_on app t lines line p there (is_not (is_some (table_call_of p.handles line)) (sym (ap unseen there) ∙ before)))
  where
    unseen : Option Line → Bool
    unseen o = option_map_or (λ line. not (is_some (table_call_of p.handles line))) o false

    is_not : (b : Bool) → not b ≡ true → b ≡ false
    is_not true is = sym is
    is_not false is = refl

-- and elsewhere it stays
pub unseen_last : (app : ℕ) (t : State) (lines : List Line) (p : TablePlace) → is_before_unseen lines p ≡ false → p ≡ passed_at_tables app t (drop p.place lines) p
unseen_last app t lines p before = by (drop p.place lines) refl
  where
    unseen : Option Line → Bool
    unseen o = option_map_or (λ line. not (is_some (table_call_of p.handles line))) o false

    is : (b : Bool) → not b ≡ false → b ≡ true
    is true isnt = refl
    is false isnt = sym isnt

    by : (left : List Line) → drop p.place lines ≡ left → p ≡ passed_at_tables app t (drop p.place lines) p
    by [] none = ap (λ l. passed_at_tables app t l p) (sym none)
    by (x ∷ left) some =
        let found = line_there lines p.place x left some in
        sym (pass_stops app t lines x p found.0 (is (is_some (table_call_of p.handles x)) (sym (ap unseen found.0) ∙ before)))

-- the line that it is before is there
pub unseen_within : (lines : List Line) (p : TablePlace) → is_before_unseen lines p ≡ true → p.place < length lines
unseen_within lines p before = by (slice_get lines p.place) refl
  where
    unseen : Option Line → Bool
    unseen o = option_map_or (λ line. not (is_some (table_call_of p.handles line))) o false

    by : (o : Option Line) → slice_get lines p.place ≡ o → p.place < length lines
    by None is = absurd (true≢false (sym before ∙ ap unseen is))
    by (Some line) is = slice_get_within lines p.place line is
