-- Where an application is at the tables behind a history that is under way.
use Rattle.std.proofs.Common.{◌≡◌, ℕ, ◌-◌, ◌<◌, ◌≤◌, ◌==◌, if◌then◌else◌, zero, suc, replicate, arith, Bool, true, false, cond, true≢false, eqb-true, eq-eqb, ne_eqb, List, [], ◌∷◌, ◌++◌, length, drop, Option, Some, None, refl, ap, sym, ◌∙◌, subst, append_assoc, append-nil}
use Rattle.std.specs.Prelude.{slice_index_or, is_some}
use Rattle.std.specs.Option.{option_map_or}
use Rattle.fsw_base.specs.Limits.{Limits}
use Rattle.tbl_words.specs.declared.history.Call.{Call}
use Rattle.tbl_words.specs.declared.history.Call.TheVariants as calls
use Rattle.tbl_words.specs.declared.history.Entry.{Entry}
use Rattle.tbl_words.specs.Machine.{state_after, step}
use Rattle.tbl_words.specs.Tables.{State as Tables, has_ended, opening as no_tables}
use Rattle.tbl_words.proofs.Ends.{ended_by, is_closed, ended-step, closed-other, closed-own, goes}
use Rattle.tbl_words.proofs.Replay.{state_from-push}
use Rattle.script_lines.specs.declared.line.Line.{Line}
use Rattle.script_lines.specs.declared.line.Line.TheVariants as lines
use Rattle.app_script.specs.Script.{ScriptText}
use Rattle.script_runs.specs.LineCalls.{line_call_of}
use Rattle.script_runs.specs.Trace.{first_registers}
use Rattle.script_runs.specs.Written.{first_written}
use Rattle.script_runs.specs.TableTrace.{own_table_entries, table_call_of}
use Rattle.run_check.specs.Begun.{AreBegunTables}
use Rattle.run_check.specs.Places.{lines_of}
use Rattle.run_check.specs.TablePlaces.{TablePlace, TablePlacesGoOn, first_table_place, left_at_tables, passed_at_tables, running_at_tables, settled_at_tables, table_place_from}
use Rattle.run_check.specs.TableProgress.{IsAtTables, next_table_call}
use Rattle.run_check.proofs.Beginnings.{begun_tables_front}
use Rattle.run_check.proofs.TableEntries.{own_at, table_app_range}
use Rattle.run_check.proofs.TableProgress.{applications_go_on_at_tables, legal_last, next_table_calls_are_known, own_other}
use Rattle.run_check.proofs.TablePlaces.{Ready, line_there, no_line_there, passed_ready, passed_at, ended_at, settled_at, settled_ready, settled_none}

-- whether a line makes a call: each but the end
abbrev from_line : Call → Bool
from_line calls.End = false
from_line call = true

makes_line : (handles : List ℕ) (line : Line) → option_map_or from_line (table_call_of handles line) true ≡ true
unfolding table_call_of line_call_of
makes_line handles (lines.Create pipe depth name) = refl
makes_line handles (lines.Delete pipe) = refl
makes_line handles (lines.SetOpts pipe bits) = refl
makes_line handles (lines.GetOpts pipe) = refl
makes_line handles (lines.Find pipe name) = refl
makes_line handles (lines.PipeName pipe) = refl
makes_line handles (lines.Subscribe id pipe limit scope) = refl
makes_line handles (lines.Unsubscribe id pipe) = refl
makes_line handles (lines.Send id size fill inc) = refl
makes_line handles (lines.SendRaw bytes inc) = refl
makes_line handles (lines.Receive pipe) = refl
makes_line handles (lines.Pend pipe) = refl
makes_line handles (lines.Allocate buf size) = refl
makes_line handles (lines.TransmitBuffer buf inc) = refl
makes_line handles (lines.Release buf) = refl
makes_line handles (lines.PoolCreate pool bytes) = refl
makes_line handles (lines.PoolGet grant pool size) = refl
makes_line handles (lines.PoolPut pool grant) = refl
makes_line handles (lines.PoolFigures pool) = refl
makes_line handles (lines.Register filters) = refl
makes_line handles (lines.SendEvent id kind text) = refl
makes_line handles (lines.ResetFilter id) = refl
makes_line handles (lines.LogMode mode) = refl
makes_line handles lines.ClearLog = refl
makes_line handles lines.Housekeeping = refl
makes_line handles lines.Figures = refl
makes_line handles (lines.TableRegister handle name size option rules) = refl
makes_line handles (lines.TableShare handle name) = refl
makes_line handles (lines.TableUnregister handle) = refl
makes_line handles (lines.Stage handle offset content) = refl
makes_line handles (lines.Validate handle) = refl
makes_line handles (lines.Update handle) = refl
makes_line handles (lines.Abort handle) = refl
makes_line handles (lines.Load handle offset content) = refl
makes_line handles (lines.GetAddress handle) = refl
makes_line handles (lines.ReleaseAddress handle) = refl
makes_line handles (lines.Status handle) = refl
makes_line handles (lines.Form buf id fill) = refl
makes_line handles (lines.Put buf offset bytes) = refl
makes_line handles (lines.ShowPipe pipe) = refl
makes_line handles (lines.ShowTable handle) = refl

-- no line makes the end
not_end : (handles : List ℕ) (line : Line) → table_call_of handles line ≡ Some calls.End → ⊥
not_end handles line is = true≢false (sym (makes_line handles line) ∙ ap (λ (o : Option Call). option_map_or from_line o true) is)

-- a call that isn't the end leaves who has ended
stays : (ended : List Bool) (who : ℕ) (call : Call) → (call ≡ calls.End → ⊥) → ended_by who call ended ≡ ended
stays ended who (calls.Register name size option rules) different = refl
stays ended who (calls.Share name) different = refl
stays ended who (calls.Unregister handle) different = refl
stays ended who (calls.Stage handle offset bytes) different = refl
stays ended who (calls.Validate handle) different = refl
stays ended who (calls.Update handle) different = refl
stays ended who (calls.Abort handle) different = refl
stays ended who (calls.Load handle offset bytes) different = refl
stays ended who (calls.GetAddress handle) different = refl
stays ended who (calls.ReleaseAddress handle) different = refl
stays ended who (calls.Status handle) different = refl
stays ended who calls.End different = absurd (different refl)

-- and no call ends another application
other_stays : (ended : List Bool) (who app : ℕ) (call : Call) → 1 ≤ who → 1 ≤ app → (app == who) ≡ false → is_closed (ended_by who call ended) app ≡ is_closed ended app
other_stays ended who app (calls.Register name size option rules) first one apart = refl
other_stays ended who app (calls.Share name) first one apart = refl
other_stays ended who app (calls.Unregister handle) first one apart = refl
other_stays ended who app (calls.Stage handle offset bytes) first one apart = refl
other_stays ended who app (calls.Validate handle) first one apart = refl
other_stays ended who app (calls.Update handle) first one apart = refl
other_stays ended who app (calls.Abort handle) first one apart = refl
other_stays ended who app (calls.Load handle offset bytes) first one apart = refl
other_stays ended who app (calls.GetAddress handle) first one apart = refl
other_stays ended who app (calls.ReleaseAddress handle) first one apart = refl
other_stays ended who app (calls.Status handle) first one apart = refl
other_stays ended who app calls.End first one apart = closed-other ended who app first one apart

same_number : (n : ℕ) → (n == n) ≡ true
same_number n = eq-eqb n n refl

none_or_some : (o : Option Call) → is_some o ≡ true → (call : Call) × (o ≡ Some call)
none_or_some None is = absurd (true≢false (sym is))
none_or_some (Some call) is = (call, refl)

module _ (script : ScriptText) where
  -- the tables behind a history
  abbrev after : List Entry → Tables
  after history = state_after script.limits (length script.apps) history

  abbrev next : Tables → Entry → Tables
  next t e = (step script.limits t e.app e.call).1

  -- an entry of its own
  own_step : (before : List Entry) (p : TablePlace) (e : Entry) → AreBegunTables script (before ++ e ∷ []) → Ready (lines_of script e.app) p →
      IsAtTables script e.app (own_table_entries e.app before) (left_at_tables script e.app (has_ended (after before) e.app) p) →
      let now = settled_at_tables e.app (next (after before) e) (lines_of script e.app) e.call e.answer p in
      IsAtTables script e.app (own_table_entries e.app (before ++ e ∷ [])) (left_at_tables script e.app (has_ended (next (after before) e) e.app) now) × Ready (lines_of script e.app) now
  own_step before p e begun ready at = by (drop p.place (lines_of script e.app)) refl
    where
      t : Tables
      t = next (after before) e

      going : has_ended (after before) e.app ≡ false
      going = goes (after before) e.app (legal_last script.limits (no_tables script.limits (length script.apps)) before e begun.legal).0

      active : IsAtTables script e.app (own_table_entries e.app before) (Some (running_at_tables script e.app p))
      active = subst (λ (b : Bool). IsAtTables script e.app (own_table_entries e.app before) (left_at_tables script e.app b p)) going at

      own : own_table_entries e.app (before ++ e ∷ []) ≡ own_table_entries e.app before ++ e ∷ []
      own = own_at e.app before e [] refl

      known : (call : Call) → next_table_call (Some (running_at_tables script e.app p)) ≡ Some call → e.call ≡ call
      known call comes = (next_table_calls_are_known script before e (Some (running_at_tables script e.app p)) call active comes begun).0

      by : (left : List Line) → drop p.place (lines_of script e.app) ≡ left →
          let now = settled_at_tables e.app t (lines_of script e.app) e.call e.answer p in
          IsAtTables script e.app (own_table_entries e.app (before ++ e ∷ [])) (left_at_tables script e.app (has_ended t e.app) now) × Ready (lines_of script e.app) now
      by [] is =
          let end : e.call ≡ calls.End = known calls.End (ap (λ (l : List Line). next_table_call (Some (record (running_at_tables script e.app p) { lines = l }))) is) in
          let none = no_line_there (lines_of script e.app) p.place is in
          let over : has_ended t e.app ≡ true =
          ap (λ ended. is_closed ended e.app) (ended-step script.limits (after before) e.app e.call ∙ ap (λ c. ended_by e.app c (after before).ended) end) ∙ closed-own (after before).ended e.app in (
            subst (λ (b : Bool). IsAtTables script e.app (own_table_entries e.app (before ++ e ∷ [])) (left_at_tables script e.app b (settled_at_tables e.app t (lines_of script e.app) e.call e.answer p))) (sym over)
                (subst (λ (l : List Entry). IsAtTables script e.app l None) (sym own) (ended_at script e.app (own_table_entries e.app before) p e is end active)),
            subst (λ (q : TablePlace). Ready (lines_of script e.app) q) (sym (settled_none script e.app t p e none)) (λ line there. absurd (cc (sym none ∙ there))),
          )
      by (x ∷ left) is =
          let found = line_there (lines_of script e.app) p.place x left is in
          let makes = none_or_some (table_call_of p.handles x) (ready x found.0) in
          let called : e.call ≡ makes.0 = known makes.0 (ap (λ (l : List Line). next_table_call (Some (record (running_at_tables script e.app p) { lines = l }))) is ∙ makes.1) in
          let made : table_call_of p.handles x ≡ Some e.call = makes.1 ∙ ap Some (sym called) in
          let on : has_ended t e.app ≡ false =
          ap (λ ended. is_closed ended e.app) (ended-step script.limits (after before) e.app e.call ∙ stays (after before).ended e.app e.call (λ end. not_end p.handles x (made ∙ ap Some end))) ∙ going in (
            subst (λ (b : Bool). IsAtTables script e.app (own_table_entries e.app (before ++ e ∷ [])) (left_at_tables script e.app b (settled_at_tables e.app t (lines_of script e.app) e.call e.answer p))) (sym on)
                (subst (λ (l : List Entry). IsAtTables script e.app l (Some (running_at_tables script e.app (settled_at_tables e.app t (lines_of script e.app) e.call e.answer p)))) (sym own)
                (settled_at script e.app t (own_table_entries e.app before) p e x left is made active)),
            settled_ready script e.app t p e x found.0,
          )

  -- an entry of another application
  other_step : (app : ℕ) (before : List Entry) (p : TablePlace) (e : Entry) → 1 ≤ app → AreBegunTables script (before ++ e ∷ []) → (e.app == app) ≡ false →
      IsAtTables script app (own_table_entries app before) (left_at_tables script app (has_ended (after before) app) p) →
      IsAtTables script app (own_table_entries app (before ++ e ∷ [])) (left_at_tables script app (has_ended (next (after before) e) app) p)
  other_step app before p e one begun apart at =
      subst (λ (b : Bool). IsAtTables script app (own_table_entries app (before ++ e ∷ [])) (left_at_tables script app b p)) (sym same)
      (subst (λ (l : List Entry). IsAtTables script app l (left_at_tables script app (has_ended (after before) app) p)) (sym (own_other app before e apart)) at)
    where
      turned : (app == e.app) ≡ false
      turned = by (app == e.app) refl
        where
          by : (b : Bool) → (app == e.app) ≡ b → (app == e.app) ≡ false
          by false is = is
          by true is = absurd (true≢false (sym (same_number e.app) ∙ ap (λ n. e.app == n) (sym (eqb-true app e.app is)) ∙ apart))

      same : has_ended (next (after before) e) app ≡ has_ended (after before) app
      same =
          ap (λ ended. is_closed ended app) (ended-step script.limits (after before) e.app e.call)
          ∙ other_stays (after before).ended e.app app e.call (table_app_range script before e [] begun).0 one turned

  -- an entry of either
  any_step : (app : ℕ) (before : List Entry) (p : TablePlace) (e : Entry) → 1 ≤ app → AreBegunTables script (before ++ e ∷ []) → Ready (lines_of script app) p →
      IsAtTables script app (own_table_entries app before) (left_at_tables script app (has_ended (after before) app) p) →
      let now = if e.app == app then settled_at_tables app (next (after before) e) (lines_of script app) e.call e.answer p else p in
      IsAtTables script app (own_table_entries app (before ++ e ∷ [])) (left_at_tables script app (has_ended (next (after before) e) app) now) × Ready (lines_of script app) now
  any_step app before p e one begun ready at = by (e.app == app) refl
    where
      Stands : ℕ → TablePlace → Type 0
      Stands a now =
          IsAtTables script a (own_table_entries a (before ++ e ∷ [])) (left_at_tables script a (has_ended (next (after before) e) a) now) × Ready (lines_of script a) now

      Before : ℕ → Type 0
      Before a = Ready (lines_of script a) p × IsAtTables script a (own_table_entries a before) (left_at_tables script a (has_ended (after before) a) p)

      by : (b : Bool) → (e.app == app) ≡ b → Stands app (cond {A = TablePlace} b (settled_at_tables app (next (after before) e) (lines_of script app) e.call e.answer p) p)
      by false apart = (other_step app before p e one begun apart at, ready)
      by true mine =
          let same : e.app ≡ app = eqb-true e.app app mine in
          let there : Before e.app = subst Before (sym same) (ready, at) in
          subst (λ (a : ℕ). Stands a (settled_at_tables a (next (after before) e) (lines_of script a) e.call e.answer p)) same
          (own_step before p e begun there.0 there.1)

  go : (app : ℕ) (before es : List Entry) (p : TablePlace) (t : Tables) → t ≡ after before → 1 ≤ app → AreBegunTables script (before ++ es) → Ready (lines_of script app) p →
      IsAtTables script app (own_table_entries app before) (left_at_tables script app (has_ended (after before) app) p) →
      IsAtTables script app (own_table_entries app (before ++ es)) (left_at_tables script app (has_ended (after (before ++ es)) app) (table_place_from script.limits t app (lines_of script app) p es))
  go app before [] p t is one begun ready at =
      subst (λ (l : List Entry). IsAtTables script app (own_table_entries app l) (left_at_tables script app (has_ended (after l) app) p)) (sym (append-nil before)) at
  go app before (e ∷ es) p t is one begun ready at =
      let joined = append_assoc before (e ∷ []) es in
      let front = begun_tables_front script (before ++ e ∷ []) es (subst (AreBegunTables script) (sym joined) begun) in
      let stands = any_step app before p e one front ready at in
      let now = if e.app == app then settled_at_tables app (next (after before) e) (lines_of script app) e.call e.answer p else p in
      let pushed : after (before ++ e ∷ []) ≡ next (after before) e = state_from-push script.limits (no_tables script.limits (length script.apps)) before e in
      let rest =
      go app (before ++ e ∷ []) es now (next (after before) e) (sym pushed) one (subst (AreBegunTables script) (sym joined) begun) stands.1
      (subst (λ (s : Tables). IsAtTables script app (own_table_entries app (before ++ e ∷ [])) (left_at_tables script app (has_ended s app) now)) (sym pushed) stands.0) in
      subst (λ (s : Tables). IsAtTables script app (own_table_entries app (before ++ e ∷ es)) (left_at_tables script app (has_ended (after (before ++ e ∷ es)) app) (table_place_from script.limits s app (lines_of script app) p (e ∷ es)))) (sym is)
      (subst
      (λ (l : List Entry). IsAtTables script app (own_table_entries app l) (left_at_tables script app (has_ended (after l) app) (table_place_from script.limits (next (after before) e) app (lines_of script app) now es)))
      joined rest)

-- before its first entry no application has ended
opened : (limits : Limits) (apps app : ℕ) → 1 ≤ app → app ≤ apps → has_ended (no_tables limits apps) app ≡ false
opened limits apps app one few =
    ap (λ (b : Bool). cond {A = Bool} b true (slice_index_or (replicate apps false) (app - 1) true)) (ne_eqb app 0 (λ is. absurd (omega (arith, is, one)))) ∙ none apps (app - 1) (omega (arith, one, few))
  where
    none : (apps place : ℕ) → place < apps → slice_index_or (replicate apps false) place true ≡ false
    none zero place within = absurd (omega (arith, within))
    none (suc apps) zero within = refl
    none (suc apps) (suc place) within = none apps place (omega (arith, within))

pub table_places_go_on : TablePlacesGoOn
table_places_go_on script history app begun one few =
    go script app [] history first t refl one begun (passed_ready app t (lines_of script app) (lines_of script app) first_table_place refl)
    (subst (λ (b : Bool). IsAtTables script app [] (left_at_tables script app b first)) (sym (opened script.limits (length script.apps) app one few))
    (passed_at script app t [] (lines_of script app) first_table_place refl ((applications_go_on_at_tables script app).first first_registers first_written)))
  where
    t : Tables
    t = no_tables script.limits (length script.apps)

    first : TablePlace
    first = passed_at_tables app t (lines_of script app) first_table_place
