-- Where an application is at the bus behind a history that is under way.
use Rattle.std.proofs.Common.{◌≡◌, ℕ, ◌≤◌, ◌==◌, if◌then◌else◌, Bool, true, false, cond, true≢false, eqb-true, List, [], ◌∷◌, ◌++◌, length, drop, Option, Some, None, refl, ap, sym, ◌∙◌, subst, append_assoc, append-nil}
use Rattle.std.specs.Prelude.{slice_get, is_some}
use Rattle.std.specs.Option.{option_map_or}
use Rattle.bus_words.specs.declared.calls.BusAnswer.{BusAnswer}
use Rattle.bus_words.specs.declared.calls.BusAnswer.TheVariants.{Pending}
use Rattle.bus_words.specs.declared.history.Call.{Call}
use Rattle.bus_words.specs.declared.history.Call.TheVariants as calls
use Rattle.bus_words.specs.declared.history.Entry.{Entry}
use Rattle.bus_words.specs.Acts.{Whole, act, opening_whole, whole_after}
use Rattle.bus_words.specs.Bus.{Standing, Active, Waiting, Ended, State, standing_of}
use Rattle.bus_words.specs.Runs.{standing_behind, standing_by}
use Rattle.bus_words.proofs.Acts.{whole_after-legal}
use Rattle.bus_words.proofs.OwnStandings.{stands_by_last}
use Rattle.script_lines.specs.declared.line.Line.{Line}
use Rattle.script_lines.specs.declared.line.Line.TheVariants as lines
use Rattle.app_script.specs.Script.{ScriptText}
use Rattle.script_runs.specs.LineCalls.{line_call_of}
use Rattle.script_runs.specs.Rotation.{Running}
use Rattle.script_runs.specs.TableTrace.{first_handles}
use Rattle.script_runs.specs.Trace.{Registers, call_of, own_entries}
use Rattle.script_runs.specs.Written.{Written}
use Rattle.run_check.specs.Begun.{AreAllOf, IsBegun}
use Rattle.run_check.specs.Places.{Place, PlacesGoOn, behind, first_place, gone_on, left_from, lines_of, looked, passed, place_after, place_from, running_from, settled}
use Rattle.run_check.specs.Progress.{IsAt, next_call, standing_then}
use Rattle.run_check.proofs.Beginnings.{begun_front}
use Rattle.run_check.proofs.BusPlaces.{Ready, passed_at, passed_ready}
use Rattle.run_check.proofs.Entries.{app_range, own_at}
use Rattle.run_check.proofs.Progress.{applications_go_on, next_calls_are_known, own_other}
use Rattle.run_check.proofs.TablePlaces.{line_there}

-- The calls of lines. --

-- whether a line makes a call: each but the look and the end
abbrev pub from_line : Call → Bool
from_line (calls.Look pipe) = false
from_line calls.End = false
from_line call = true

makes_line : (registers : Registers) (written : Written) (line : Line) → option_map_or from_line (call_of registers written line) true ≡ true
unfolding call_of line_call_of
makes_line registers written (lines.Create pipe depth name) = refl
makes_line registers written (lines.Delete pipe) = refl
makes_line registers written (lines.SetOpts pipe bits) = refl
makes_line registers written (lines.GetOpts pipe) = refl
makes_line registers written (lines.Find pipe name) = refl
makes_line registers written (lines.PipeName pipe) = refl
makes_line registers written (lines.Subscribe id pipe limit scope) = refl
makes_line registers written (lines.Unsubscribe id pipe) = refl
makes_line registers written (lines.Send id size fill inc) = refl
makes_line registers written (lines.SendRaw bytes inc) = refl
makes_line registers written (lines.Receive pipe) = refl
makes_line registers written (lines.Pend pipe) = refl
makes_line registers written (lines.Allocate buf size) = refl
makes_line registers written (lines.TransmitBuffer buf inc) = refl
makes_line registers written (lines.Release buf) = refl
makes_line registers written (lines.PoolCreate pool bytes) = refl
makes_line registers written (lines.PoolGet grant pool size) = refl
makes_line registers written (lines.PoolPut pool grant) = refl
makes_line registers written (lines.PoolFigures pool) = refl
makes_line registers written (lines.Register filters) = refl
makes_line registers written (lines.SendEvent id kind text) = refl
makes_line registers written (lines.ResetFilter id) = refl
makes_line registers written (lines.LogMode mode) = refl
makes_line registers written lines.ClearLog = refl
makes_line registers written lines.Housekeeping = refl
makes_line registers written lines.Figures = refl
makes_line registers written (lines.TableRegister handle name size option rules) = refl
makes_line registers written (lines.TableShare handle name) = refl
makes_line registers written (lines.TableUnregister handle) = refl
makes_line registers written (lines.Stage handle offset content) = refl
makes_line registers written (lines.Validate handle) = refl
makes_line registers written (lines.Update handle) = refl
makes_line registers written (lines.Abort handle) = refl
makes_line registers written (lines.Load handle offset content) = refl
makes_line registers written (lines.GetAddress handle) = refl
makes_line registers written (lines.ReleaseAddress handle) = refl
makes_line registers written (lines.Status handle) = refl
makes_line registers written (lines.Form buf id fill) = refl
makes_line registers written (lines.Put buf offset bytes) = refl
makes_line registers written (lines.ShowPipe pipe) = refl
makes_line registers written (lines.ShowTable handle) = refl

pub line_makes : (registers : Registers) (written : Written) (line : Line) (call : Call) → call_of registers written line ≡ Some call → from_line call ≡ true
line_makes registers written line call is = sym (ap (λ (o : Option Call). option_map_or from_line o true) is) ∙ makes_line registers written line

-- such a call is answered for its line
pub settled_line : (app : ℕ) (s : State) (lines : List Line) (call : Call) (answer : BusAnswer) (p : Place) → from_line call ≡ true →
    settled app s lines call answer p ≡ option_map_or (λ line. gone_on app s lines call answer (behind app s line call answer p)) (slice_get lines p.place) p
settled_line app s lines (calls.Look pipe) answer p is = absurd (true≢false (sym is))
settled_line app s lines calls.End answer p is = absurd (true≢false (sym is))
settled_line app s lines call answer p is = refl

-- and leaves the application standing by its answer
stands_then : (call : Call) (answer : BusAnswer) → from_line call ≡ true → standing_then call answer ≡ standing_by call answer
stands_then (calls.Pend pipe) Pending is = refl
stands_then (calls.Pend pipe) answer is = refl
stands_then calls.End answer is = absurd (true≢false (sym is))
stands_then call answer is = refl

some_call : (o : Option Call) → is_some o ≡ true → (call : Call) × (o ≡ Some call)
some_call None is = absurd (true≢false (sym is))
some_call (Some call) is = (call, refl)

-- From entry to entry. --

-- as the last of these entries leaves it
behind_last : (es : List Entry) (e : Entry) → standing_behind (es ++ e ∷ []) ≡ standing_by e.call e.answer
behind_last [] e = refl
behind_last (x ∷ []) e = refl
behind_last (x ∷ y ∷ es) e = behind_last (y ∷ es) e

-- an active application is at a line that the bus sees, or behind them all
abbrev pub IsReady : Standing → List Line → Place → Type 0
IsReady Active lines p = Ready lines p
IsReady standing lines p = Unit {0}

module _ (script : ScriptText) where
  -- behind these entries of its own it stands so, and goes on from this place
  abbrev Stands : ℕ → List Entry → Standing → Place → Type 0
  Stands app own standing p = IsAt script app own standing (left_from script app standing p) × IsReady standing (lines_of script app) p

  -- past the lines that the bus doesn't see
  gone : (app : ℕ) (s : State) (own : List Entry) (p : Place) → IsAt script app own Active (Some (running_from script app p)) →
      Stands app own Active (passed app s (drop p.place (lines_of script app)) p)
  gone app s own p at =
      (passed_at script app s own (drop p.place (lines_of script app)) p refl at, passed_ready app s (lines_of script app) (drop p.place (lines_of script app)) p refl)

  gone_at : (app : ℕ) (s : State) (own : List Entry) (call : Call) (answer : BusAnswer) (p : Place) →
      IsAt script app own (standing_then call answer) (Some (running_from script app p)) → Stands app own (standing_then call answer) (gone_on app s (lines_of script app) call answer p)
  gone_at app s own (calls.Pend pipe) Pending p at = (at, tt)
  gone_at app s own (calls.Pend pipe) answer p at = gone app s own p at
  gone_at app s own call answer p at = gone app s own p at

  -- an entry of its own, behind which it has these
  own_step : (before : List Entry) (e : Entry) (s : State) (own : List Entry) (standing : Standing) (p : Place) → own ≡ own_entries e.app before → IsBegun script (before ++ e ∷ []) →
      Stands e.app own standing p → Stands e.app (own ++ e ∷ []) (standing_by e.call e.answer) (settled e.app s (lines_of script e.app) e.call e.answer p)
  own_step before e s own standing p its begun stands = by_standing standing stands
    where
      r : Running
      r = running_from script e.app p

      all : List Line
      all = lines_of script e.app

      known : (now : Standing) (call : Call) → IsAt script e.app own now (Some r) → next_call now (Some r) ≡ Some call → e.call ≡ call
      known now call at comes =
          (next_calls_are_known script before e now (Some r) call (subst (λ (l : List Entry). IsAt script e.app l now (Some r)) its at) comes begun).0

      Leaves : Call → Type 0
      Leaves call = Stands e.app (own ++ e ∷ []) (standing_by call e.answer) (settled e.app s all call e.answer p)

      at_line : (x : Line) (left : List Line) → drop p.place all ≡ x ∷ left → IsAt script e.app own Active (Some r) → Ready all p → Leaves e.call
      at_line x left is at ready =
          let found = line_there all p.place x left is in
          let makes = some_call (call_of p.registers p.written x) (ready x found.0) in
          let called : e.call ≡ makes.0 = known Active makes.0 at (ap (λ (l : List Line). next_call Active (Some (record r { lines = l }))) is ∙ makes.1) in
          let made : call_of p.registers p.written x ≡ Some e.call = makes.1 ∙ ap Some (sym called) in
          let mine = line_makes p.registers p.written x e.call made in
          let q = behind e.app s x e.call e.answer p in
          let there : IsAt script e.app (own ++ e ∷ []) (standing_then e.call e.answer) (Some (running_from script e.app q)) =
          subst (λ (l : List Line). IsAt script e.app (own ++ e ∷ []) (standing_then e.call e.answer) (Some (record (running_from script e.app q) { lines = l }))) (sym found.1)
          ((applications_go_on script e.app).line own r x left e is made at) in
          let settles : settled e.app s all e.call e.answer p ≡ gone_on e.app s all e.call e.answer q =
          settled_line e.app s all e.call e.answer p mine
          ∙ ap (λ (o : Option Line). option_map_or (λ line. gone_on e.app s all e.call e.answer (behind e.app s line e.call e.answer p)) o p) found.0 in
          subst (λ (now : Standing). Stands e.app (own ++ e ∷ []) now (settled e.app s all e.call e.answer p)) (stands_then e.call e.answer mine)
          (subst (λ (place : Place). Stands e.app (own ++ e ∷ []) (standing_then e.call e.answer) place) (sym settles)
          (gone_at e.app s (own ++ e ∷ []) e.call e.answer q there))

      by_lines : (left : List Line) → drop p.place all ≡ left → IsAt script e.app own Active (Some r) → Ready all p → Leaves e.call
      by_lines [] is at ready =
          let end : e.call ≡ calls.End = known Active calls.End at (ap (λ (l : List Line). next_call Active (Some (record r { lines = l }))) is) in
          subst Leaves (sym end) ((applications_go_on script e.app).end own r e is end at, tt)
      by_lines (x ∷ left) is at ready = at_line x left is at ready

      by_standing : (now : Standing) → Stands e.app own now p → Leaves e.call
      by_standing Active st = by_lines (drop p.place all) refl st.0 st.1
      by_standing (Waiting pipe) st =
          let look : e.call ≡ calls.Look pipe = known (Waiting pipe) (calls.Look pipe) st.0 refl in
          subst Leaves (sym look) (gone e.app s (own ++ e ∷ []) (looked e.app s (calls.Look pipe) e.answer p) ((applications_go_on script e.app).look own r pipe e look st.0))
      by_standing Ended st = absurd (over (st.0.owes (e ∷ rest.0) whole))
        where
          rest : (rest : List Entry) × AreAllOf script e.app (own_entries e.app (before ++ e ∷ []) ++ rest)
          rest = let range = app_range script before e [] begun in begun.each e.app range.0 range.1

          whole : AreAllOf script e.app (own ++ e ∷ rest.0)
          whole =
              let P : List Entry → Type 0 = AreAllOf script e.app in
              subst P
              (ap (λ l. l ++ rest.0) (own_at e.app before e [] refl) ∙ append_assoc (own_entries e.app before) (e ∷ []) rest.0 ∙ ap (λ l. l ++ e ∷ rest.0) (sym its)) rest.1

          over : e ∷ rest.0 ≡ [] → ⊥
          over is = cc is

  -- behind this history an application stands as its own entries leave it
  abbrev StandsBehind : ℕ → List Entry → Place → Type 0
  StandsBehind app history p = Stands app (own_entries app history) (standing_behind (own_entries app history)) p

  -- an entry of either
  any_step : (app : ℕ) (before : List Entry) (e : Entry) (s : State) (p : Place) → IsBegun script (before ++ e ∷ []) → StandsBehind app before p →
      StandsBehind app (before ++ e ∷ []) (if e.app == app then settled app s (lines_of script app) e.call e.answer p else p)
  any_step app before e s p begun stands = by (e.app == app) refl
    where
      by : (b : Bool) → (e.app == app) ≡ b → StandsBehind app (before ++ e ∷ []) (cond {A = Place} b (settled app s (lines_of script app) e.call e.answer p) p)
      by false apart = subst (λ (l : List Entry). Stands app l (standing_behind l) p) (sym (own_other app before e apart)) stands
      by true mine =
          subst (λ (a : ℕ). StandsBehind a (before ++ e ∷ []) (settled a s (lines_of script a) e.call e.answer p)) (eqb-true e.app app mine)
          (its (subst (λ (a : ℕ). StandsBehind a before p) (sym (eqb-true e.app app mine)) stands))
        where
          own : List Entry
          own = own_entries e.app before

          now : Place
          now = settled e.app s (lines_of script e.app) e.call e.answer p

          its : StandsBehind e.app before p → StandsBehind e.app (before ++ e ∷ []) now
          its there =
              subst (λ (l : List Entry). Stands e.app l (standing_behind l) now) (sym (own_at e.app before e [] refl))
              (subst (λ (st : Standing). Stands e.app (own ++ e ∷ []) st now) (sym (behind_last own e))
              (own_step before e s own (standing_behind own) p refl begun there))

  go : (app : ℕ) (before es : List Entry) (w : Whole) (p : Place) → IsBegun script (before ++ es) → StandsBehind app before p →
      StandsBehind app (before ++ es) (place_from script.limits w app (lines_of script app) p es)
  go app before [] w p begun stands = subst (λ (l : List Entry). StandsBehind app l p) (sym (append-nil before)) stands
  go app before (e ∷ es) w p begun stands =
      let joined = append_assoc before (e ∷ []) es in
      let longer : IsBegun script ((before ++ e ∷ []) ++ es) = subst (IsBegun script) (sym joined) begun in
      let after = (act script.limits w e.app e.call).1 in
      let now = if e.app == app then settled app after.bus (lines_of script app) e.call e.answer p else p in
      subst (λ (l : List Entry). StandsBehind app l (place_from script.limits after app (lines_of script app) now es)) joined
      (go app (before ++ e ∷ []) es after now longer (any_step app before e after.bus p (begun_front script (before ++ e ∷ []) es longer) stands))

-- and if it is active, the bus sees its next line
pub places_stand : (script : ScriptText) (history : List Entry) (app : ℕ) → IsBegun script history → 1 ≤ app → app ≤ length script.apps →
    let standing = standing_of ((whole_after script.limits (length script.apps) history).bus) app in
    IsAt script app (own_entries app history) standing (left_from script app standing (place_after script app history)) × IsReady standing (lines_of script app) (place_after script app history)
places_stand script history app begun one few =
    subst (λ (st : Standing). IsAt script app (own_entries app history) st (left_from script app st (place_after script app history)) × IsReady st (lines_of script app) (place_after script app history)) (sym standing)
    (go script app [] history w (passed app w.bus (lines_of script app) first_place) begun
    (gone script app w.bus [] first_place ((applications_go_on script app).first first_handles)))
  where
    w : Whole
    w = opening_whole script.limits (length script.apps)

    standing : standing_of ((whole_after script.limits (length script.apps) history).bus) app ≡ standing_behind (own_entries app history)
    standing =
        ap (λ (now : Whole). standing_of now.bus app) (whole_after-legal script.limits (length script.apps) history begun.legal)
        ∙ stands_by_last script.limits (length script.apps) app history begun.legal one few

pub places_go_on : PlacesGoOn
places_go_on script history app begun one few = (places_stand script history app begun one few).0
