-- What comes next at an application's place.
use Rattle.std.proofs.Common.{◌≡◌, ◌≢◌, ℕ, ◌+◌, ◌<◌, Bool, true, false, not, cond, true≢false, List, [], ◌∷◌, length, drop, Option, Some, None, if◌then◌else◌, refl, ap, sym, ◌∙◌}
use Rattle.std.proofs.lemmas.Option.{slice_get_within}
use Rattle.std.specs.Prelude.{slice_get, is_some}
use Rattle.std.specs.Option.{option_map_or}
use Rattle.bus_words.specs.declared.calls.BusAnswer.{BusAnswer}
use Rattle.bus_words.specs.declared.calls.BusAnswer.TheVariants.{Pending}
use Rattle.bus_words.specs.declared.history.Call.{Call}
use Rattle.bus_words.specs.declared.history.Call.TheVariants as calls
use Rattle.bus_words.specs.Bus.{State, Standing, Active, Waiting, Ended}
use Rattle.script_lines.specs.declared.line.Line.{Line}
use Rattle.script_runs.specs.Rotation.{Running}
use Rattle.script_runs.specs.Trace.{call_of}
use Rattle.app_script.specs.Script.{ScriptText}
use Rattle.run_check.specs.Places.{Place, behind, gone_on, left_from, lines_of, passed, past, running_from, settled}
use Rattle.run_check.specs.Progress.{first_call, next_call}
use Rattle.run_check.proofs.BusGoesOn.{IsReady, from_line}
use Rattle.run_check.proofs.BusGoesOn as going
use Rattle.run_check.proofs.TablePlaces.{line_here, line_there, no_line_there}
use Rattle.bus_replay.specs.Places.{call_at, is_before_unseen, settled_line, waits}

-- The call that comes next. --

-- as what an application has still to make says it
pub next_is : (script : ScriptText) (app : ℕ) (standing : Standing) (p : Place) → next_call standing (left_from script app standing p) ≡ call_at standing (lines_of script app) p
next_is script app Active p = by (drop p.place lines) refl
  where
    lines : List Line
    lines = lines_of script app

    r : Running
    r = running_from script app p

    at : Option Line → Option Call
    at o = option_map_or (λ line. call_of p.registers p.written line) o (Some calls.End)

    by : (left : List Line) → drop p.place lines ≡ left → first_call r (drop p.place lines) ≡ at (slice_get lines p.place)
    by [] is = ap (λ l. first_call r l) is ∙ sym (ap at (no_line_there lines p.place is))
    by (x ∷ left) is = ap (λ l. first_call r l) is ∙ sym (ap at (line_there lines p.place x left is).0)
next_is script app (Waiting pipe) p = refl
next_is script app Ended p = refl

-- there is one unless it has ended
pub call_there : (standing : Standing) (lines : List Line) (p : Place) → IsReady standing lines p → standing ≢ Ended → is_some (call_at standing lines p) ≡ true
call_there Active lines p ready going = by (slice_get lines p.place) refl
  where
    some : Option Line → Type 0
    some o = is_some (option_map_or (λ line. call_of p.registers p.written line) o (Some calls.End)) ≡ true

    by : (o : Option Line) → slice_get lines p.place ≡ o → some (slice_get lines p.place)
    by None is = ap (λ (o : Option Line). is_some (option_map_or (λ line. call_of p.registers p.written line) o (Some calls.End))) is
    by (Some line) is = ap (λ (o : Option Line). is_some (option_map_or (λ line. call_of p.registers p.written line) o (Some calls.End))) is ∙ ready line is
call_there (Waiting pipe) lines p ready going = refl
call_there Ended lines p ready going = absurd (going refl)

-- Behind it. --

-- past the lines that the bus doesn't see, unless it waits
goes_on : (app : ℕ) (s : State) (lines : List Line) (call : Call) (answer : BusAnswer) (p : Place) →
    (if waits call answer then p else passed app s (drop p.place lines) p) ≡ gone_on app s lines call answer p
goes_on app s lines (calls.Pend pipe) Pending p = refl
goes_on app s lines (calls.Pend pipe) answer p = refl
goes_on app s lines call answer p = refl

-- behind a line
pub behind_line : (app : ℕ) (s : State) (lines : List Line) (call : Call) (answer : BusAnswer) (p : Place) → from_line call ≡ true →
    settled_line app s lines call answer p ≡ settled app s lines call answer p
behind_line app s lines call answer p line = same (slice_get lines p.place) ∙ sym (going.settled_line app s lines call answer p line)
  where
    same : (o : Option Line) →
        option_map_or
        (λ x.
        let now = behind app s x call answer p in
        if waits call answer then now else passed app s (drop now.place lines) now)
        o p
        ≡ option_map_or (λ x. gone_on app s lines call answer (behind app s x call answer p)) o p
    same None = refl
    same (Some x) = goes_on app s lines call answer (behind app s x call answer p)

-- Past the lines that the bus doesn't see. --

-- past one line more that the bus doesn't see
pass_on : (app : ℕ) (s : State) (lines : List Line) (line : Line) (p : Place) → slice_get lines p.place ≡ Some line → is_some (call_of p.registers p.written line) ≡ false →
    passed app s (drop p.place lines) p ≡ passed app s (drop (p.place + 1) lines) (past app s line p)
pass_on app s lines line p there unseen =
    ap (λ l. passed app s l p) (line_here lines p.place line there)
    ∙ ap (λ (b : Bool). cond {A = Place} b p (passed app s (drop (p.place + 1) lines) (past app s line p))) unseen

-- as far as one that it sees
pass_stops : (app : ℕ) (s : State) (lines : List Line) (line : Line) (p : Place) → slice_get lines p.place ≡ Some line → is_some (call_of p.registers p.written line) ≡ true →
    passed app s (drop p.place lines) p ≡ p
pass_stops app s lines line p there seen =
    ap (λ l. passed app s l p) (line_here lines p.place line there)
    ∙ ap (λ (b : Bool). cond {A = Place} b p (passed app s (drop (p.place + 1) lines) (past app s line p))) seen

-- if it is before one, that is the first that it goes past
pub unseen_first : (app : ℕ) (s : State) (lines : List Line) (line : Line) (p : Place) → is_before_unseen lines p ≡ true → slice_get lines p.place ≡ Some line →
    passed app s (drop (p.place + 1) lines) (past app s line p) ≡ passed app s (drop p.place lines) p
unseen_first app s lines line p before there =
    sym (pass_on app s lines line p there (is_not (is_some (call_of p.registers p.written line)) (sym (ap unseen there) ∙ before)))
  where
    unseen : Option Line → Bool
    unseen o = option_map_or (λ line. not (is_some (call_of p.registers p.written line))) o false

    is_not : (b : Bool) → not b ≡ true → b ≡ false
    is_not true is = sym is
    is_not false is = refl

-- and elsewhere it stays
pub unseen_last : (app : ℕ) (s : State) (lines : List Line) (p : Place) → is_before_unseen lines p ≡ false → p ≡ passed app s (drop p.place lines) p
unseen_last app s lines p before = by (drop p.place lines) refl
  where
    unseen : Option Line → Bool
    unseen o = option_map_or (λ line. not (is_some (call_of p.registers p.written line))) o false

    is : (b : Bool) → not b ≡ false → b ≡ true
    is true isnt = refl
    is false isnt = sym isnt

    by : (left : List Line) → drop p.place lines ≡ left → p ≡ passed app s (drop p.place lines) p
    by [] none = ap (λ l. passed app s l p) (sym none)
    by (x ∷ left) some =
        let found = line_there lines p.place x left some in
        sym (pass_stops app s lines x p found.0 (is (is_some (call_of p.registers p.written x)) (sym (ap unseen found.0) ∙ before)))

-- the line that it is before is there
pub unseen_within : (lines : List Line) (p : Place) → is_before_unseen lines p ≡ true → p.place < length lines
unseen_within lines p before = by (slice_get lines p.place) refl
  where
    unseen : Option Line → Bool
    unseen o = option_map_or (λ line. not (is_some (call_of p.registers p.written line))) o false

    by : (o : Option Line) → slice_get lines p.place ≡ o → p.place < length lines
    by None is = absurd (true≢false (sym before ∙ ap unseen is))
    by (Some line) is = slice_get_within lines p.place line is
