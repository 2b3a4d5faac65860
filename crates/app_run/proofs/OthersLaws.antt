-- Calls of other applications leave an application as it stands.
use Rattle.std.proofs.Common.{◌≡◌, ◌≢◌, ℕ, ◌≤◌, true, List, [], ◌∷◌, ◌++◌, Some, IfSome, IsTrue, refl, ap, sym, ◌∙◌, subst, append-nil, append_assoc, inl, inr, ne_eqb}
use Rattle.std.specs.List.{All}
use Rattle.std.proofs.lemmas.List.Elements.{All-head, All-tail}
use Rattle.bus_words.specs.declared.calls.BusAnswer.{BusAnswer}
use Rattle.bus_words.specs.declared.history.Call.{Call}
use Rattle.bus_words.specs.declared.history.Entry.{Entry}
use Rattle.bus_words.specs.Bus.{Item, State, standing_of, opening}
use Rattle.bus_words.specs.Entries.{call_bytes}
use Rattle.journal_store.specs.Budgets.{allowances, allowance_of, charged}
use Rattle.bus_words.specs.Log.{left_of}
use Rattle.bus_words.specs.Machine.{IsLegal, step, may_call}
use Rattle.bus_words.proofs.Journals.{left_from-push}
use Rattle.bus_words.proofs.Replay.{state_from-push}
use Rattle.lend_block.specs.declared.note.Note.{Note}
use Rattle.sb_calls.specs.Bags.{CalledByOthers}
use Rattle.sb_calls.specs.Core.{Core, IsLegalCore, apps_of, state_of}
use Rattle.script_runs.specs.Told.{own_hold, own_last}
use Rattle.script_runs.proofs.HeldReceipts.{own_hold-other}
use Rattle.script_runs.proofs.LastMessages.{own_last-other}
use Rattle.bus_words.proofs.LegalSteps.{caller-first, standing-step, legal-last, legal-front}
use Rattle.bus_words.proofs.OwnEntries.{charged_other}
use Rattle.fsw_base.specs.Limits.{Limits}
use Rattle.tbl_words.specs.declared.calls.TblAnswer.{TblAnswer}
use Rattle.tbl_words.specs.declared.history.Call.{Call as TableCall}
use Rattle.tbl_words.specs.declared.history.Call.TheVariants as table_calls
use Rattle.tbl_words.specs.declared.history.Entry.{Entry as TableEntry}
use Rattle.tbl_words.specs.Entries.{call_bytes as table_call_bytes}
use Rattle.tbl_words.specs.Log.{left_of as tables_left_of}
use Rattle.tbl_words.specs.Machine.{IsLegal as AreLegalTables, LegalFrom as TablesLegalFrom, may_call as may_call_tables, state_from as tables_from, step as table_step}
use Rattle.tbl_words.specs.Tables.{Hold, State as Tables, has_ended, opening as no_tables}
use Rattle.tbl_words.proofs.Ends.{is_closed, ended_by, ended-step, closed-other, has_number, goes}
use Rattle.tbl_words.proofs.Replay.{state_from-push as tables_from-push}
use Rattle.tbl_load.specs.Bags.{CalledByOthers as CalledByOthersAtTables}
use Rattle.tbl_load.specs.Core.{Core as TableCore, IsLegalCore as IsLegalTableCore, apps_of as table_apps_of, state_of as tables_of}
use Rattle.tbl_load.proofs.Journals.{left_from-push as tables_left_from-push}
use Rattle.app_calls.specs.Callers.{Caller, Meets, written_in}
use Rattle.app_calls.specs.TableCallers.{MeetsTables}
use Rattle.app_run.specs.Lines.{bytes_due}
use Rattle.app_run.specs.Received.{newest_number, newest_version}
use Rattle.app_run.specs.Runners.{Progress, Equipped}
use Rattle.app_run.specs.TableLines.{table_bytes_due}
use Rattle.app_run.specs.Turns.{StandsAtBus, StandsAtTables, TakesTurn, TakesTurnBy, entries_to_come, services_of, with_bags}
use Rattle.app_run.proofs.AskedLaws.{asked-more, given-step}

-- what a call of an application says of the bus before it
pub record Called (before after : Core) (who : ℕ) (call : Call) (answer : BusAnswer) : Type 0 where
  pub legal : IsLegal before.limits (apps_of before) before.log.entries
  pub may : IsTrue (may_call (standing_of (state_of before) who) call)
  pub entries : after.log.entries ≡ before.log.entries ++ record { app = who; call = call; answer = answer } ∷ []
  pub limits : after.limits ≡ before.limits
  pub left : left_of after.log ≡ charged (left_of before.log) who (call_bytes call)
  pub state : state_of after ≡ (step before.limits before.log.entries (state_of before) who call).1

pub stands-called : (one : Equipped) (before after : Core) (who : ℕ) (call : Call) (answer : BusAnswer) → Called before after who call answer →
    apps_of after ≡ apps_of before → (who ≡ one.progress.running.app → ⊥) → 1 ≤ one.progress.running.app → StandsAtBus one before → StandsAtBus one after
stands-called one before after who call answer c apps other some stands =
    let progress = one.progress in
    let app = progress.running.app in
    let first = caller-first (state_of before) who call c.may in
    let left : allowance_of (left_of after.log) app ≡ allowance_of (left_of before.log) app =
    ap (λ l. allowance_of l app) c.left
    ∙ charged_other (left_of before.log) who app (call_bytes call) first some (ne_eqb who app other) in
    record {
      known = subst (λ n. app ≤ n) (sym apps) stands.known;
      standing = ap (λ s. standing_of s app) c.state
          ∙ standing-step before.limits before.log.entries (state_of before) who app call c.may (ne_eqb app who (λ same. other (sym same)))
          ∙ stands.standing;
      entries = subst (λ a. entries_to_come progress ≤ a.entries) (sym left) stands.entries;
      asked = stands.asked;
      buffers = asked-more progress.running.registers.buffers stands.asked (written_in one.bag) (state_of before).numbers_given (state_of after).numbers_given stands.buffers
          (subst (λ (s : State). (state_of before).numbers_given ≤ s.numbers_given) (sym c.state) (given-step before.limits before.log.entries (state_of before) who call));
      bytes = subst (λ a. bytes_due stands.asked progress.running.lines ≤ a.bytes) (sym left) stands.bytes;
      room = stands.room;
      remember = λ pipe.
          subst (λ o. IfSome o (λ (item : Item). newest_number progress.receipts pipe ≡ Some item.number))
          (sym (ap (λ (s : State). own_last s.pipes app pipe) c.state
          ∙ own_last-other before.limits (apps_of before) app pipe before.log.entries who call c.legal c.may other))
          (stands.remember pipe);
      small = subst (λ (limits : Limits). limits.msgmax ≤ 65542) (sym c.limits) stands.small;
    }

-- the bus with these entries
abbrev pub with_entries : Core → List Entry → Core
with_entries core entries = record core { log = record { budgets = core.log.budgets; entries = entries } }

-- the first of the entries behind those seen
pub called-front : (core : Core) (e : Entry) (rest : List Entry) → IsLegalCore (with_entries core ((core.log.entries ++ e ∷ []) ++ rest)) →
    Called core (with_entries core (core.log.entries ++ e ∷ [])) e.app e.call e.answer
called-front core e rest legal =
    let apps = apps_of core in
    let history = core.log.entries in
    let parts = legal-last core.limits [] (opening core.limits apps) history e (legal-front core.limits [] (opening core.limits apps) (history ++ e ∷ []) rest legal) in
    record {
      legal = parts.0;
      may = parts.1;
      entries = refl;
      limits = refl;
      left = left_from-push (allowances core.log.budgets) history e;
      state = state_from-push core.limits [] (opening core.limits apps) history e;
    }

stands-behind : (one : Equipped) (core : Core) (between : List Entry) → 1 ≤ one.progress.running.app → All (λ (e : Entry). e.app ≢ one.progress.running.app) between →
    IsLegalCore (with_entries core (core.log.entries ++ between)) → StandsAtBus one core → StandsAtBus one (with_entries core (core.log.entries ++ between))
stands-behind one core [] some others legal stands =
    subst (λ es. StandsAtBus one (with_entries core es)) (sym (append-nil core.log.entries)) stands
stands-behind one core (e ∷ es) some others legal stands =
    let other : Entry → Type 0 = λ x. x.app ≢ one.progress.running.app in
    let next = with_entries core (core.log.entries ++ e ∷ []) in
    let whole = append_assoc core.log.entries (e ∷ []) es in
    let legal-next = subst (λ x. IsLegalCore (with_entries core x)) (sym whole) legal in
    subst (λ x. StandsAtBus one (with_entries core x)) whole
    (stands-behind one next es some (All-tail other e es others) legal-next
    (stands-called one core next e.app e.call e.answer (called-front core e es legal-next) refl (All-head other e es others) some stands))

-- what is noted says nothing of how an application stands
stands-noted : (one : Equipped) (core : Core) (notes : List Note) → StandsAtBus one core → StandsAtBus one (record core { notes = notes })
stands-noted one core notes stands = record {
  known = stands.known;
  standing = stands.standing;
  entries = stands.entries;
  asked = stands.asked;
  buffers = stands.buffers;
  bytes = stands.bytes;
  room = stands.room;
  remember = stands.remember;
  small = stands.small;
}

-- others' calls leave an application as it stands
pub stands-others : (one : Equipped) (old new : Core) → CalledByOthers old new one.progress.running.app → 1 ≤ one.progress.running.app → StandsAtBus one old → StandsAtBus one new
stands-others one old new others some stands =
    subst (λ core. StandsAtBus one core) (sym others.grown)
    (stands-noted one (with_entries old (old.log.entries ++ others.entries)) (old.notes ++ others.notes)
    (stands-behind one old others.entries some others.by_others (subst (λ core. IsLegalCore core) others.grown others.legal) stands))

-- the bus that the calls meet knows the application as the one last seen did
pub stands-met : (progress : Progress) (caller : Caller) (now : Core) → Meets caller now → caller.app ≡ progress.running.app → 1 ≤ progress.running.app →
    StandsAtBus (with_bags progress caller) caller.core → StandsAtBus (with_bags progress caller) now
stands-met progress caller now (inl same) own some stands = subst (λ core. StandsAtBus (with_bags progress caller) core) (sym same) stands
stands-met progress caller now (inr others) own some stands =
    stands-others (with_bags progress caller) caller.core now (subst (λ app. CalledByOthers caller.core now app) own others.1) some stands

-- and with the limits that it had
pub met-limits : (caller : Caller) (now : Core) → Meets caller now → now.limits ≡ caller.core.limits
met-limits caller now (inl same) = ap (λ (core : Core). core.limits) same
met-limits caller now (inr others) = ap (λ (core : Core). core.limits) (others.1).grown

-- The tables. --

-- what a call of an application says of the tables before it
pub record CalledAtTables (before after : TableCore) (who : ℕ) (call : TableCall) (answer : TblAnswer) : Type 0 where
  pub legal : AreLegalTables before.limits (table_apps_of before) before.log.entries
  pub may : IsTrue (may_call_tables (tables_of before) who)
  pub entries : after.log.entries ≡ before.log.entries ++ record { app = who; call = call; answer = answer } ∷ []
  pub limits : after.limits ≡ before.limits
  pub left : tables_left_of after.log ≡ charged (tables_left_of before.log) who (table_call_bytes call)
  pub state : tables_of after ≡ (table_step before.limits (tables_of before) who call).1

-- a call that may be made ends no other application
pub ended-other : (limits : Limits) (s : Tables) (who app : ℕ) (call : TableCall) → IsTrue (may_call_tables s who) → (who ≡ app → ⊥) → 1 ≤ app →
    has_ended (table_step limits s who call).1 app ≡ has_ended s app
ended-other limits s who app call may other some =
    ap (λ ended. is_closed ended app) (ended-step limits s who call) ∙ by_call call
  where
    by_call : (made : TableCall) → is_closed (ended_by who made s.ended) app ≡ is_closed s.ended app
    by_call table_calls.End = closed-other s.ended who app (has_number s.ended who (goes s who may)) some (ne_eqb app who (λ same. other (sym same)))
    by_call (table_calls.Register name size option rules) = refl
    by_call (table_calls.Share name) = refl
    by_call (table_calls.Unregister handle) = refl
    by_call (table_calls.Stage handle offset bytes) = refl
    by_call (table_calls.Validate handle) = refl
    by_call (table_calls.Update handle) = refl
    by_call (table_calls.Abort handle) = refl
    by_call (table_calls.Load handle offset bytes) = refl
    by_call (table_calls.GetAddress handle) = refl
    by_call (table_calls.ReleaseAddress handle) = refl
    by_call (table_calls.Status handle) = refl

pub stands-called_at_tables : (one : Equipped) (before after : TableCore) (who : ℕ) (call : TableCall) (answer : TblAnswer) → CalledAtTables before after who call answer →
    table_apps_of after ≡ table_apps_of before → (who ≡ one.progress.running.app → ⊥) → 1 ≤ one.progress.running.app → StandsAtTables one before → StandsAtTables one after
stands-called_at_tables one before after who call answer c apps other some stands =
    let progress = one.progress in
    let app = progress.running.app in
    let first = has_number (tables_of before).ended who (goes (tables_of before) who c.may) in
    let left : allowance_of (tables_left_of after.log) app ≡ allowance_of (tables_left_of before.log) app =
    ap (λ l. allowance_of l app) c.left
    ∙ charged_other (tables_left_of before.log) who app (table_call_bytes call) first some (ne_eqb who app other) in
    record {
      known = subst (λ n. app ≤ n) (sym apps) stands.known;
      ended = ap (λ s. has_ended s app) c.state ∙ ended-other before.limits (tables_of before) who app call c.may other some ∙ stands.ended;
      entries = subst (λ a. entries_to_come progress ≤ a.entries) (sym left) stands.entries;
      bytes = subst (λ a. table_bytes_due progress.running.lines ≤ a.bytes) (sym left) stands.bytes;
      remember = λ handle.
          subst (λ o. IfSome o (λ (hold : Hold). newest_version progress.receipts handle ≡ Some hold.version))
          (sym (ap (λ (s : Tables). own_hold s app handle) c.state
          ∙ own_hold-other before.limits (table_apps_of before) app handle before.log.entries who call other))
          (stands.remember handle);
      small = subst (λ (limits : Limits). limits.tablemax ≤ 65536) (sym c.limits) stands.small;
    }

-- the tables with these entries
abbrev pub with_table_entries : TableCore → List TableEntry → TableCore
with_table_entries core entries = record core { log = record { budgets = core.log.budgets; entries = entries } }

-- a legal history's last entry, and what is before it
legal-last_at_tables : (limits : Limits) (s : Tables) (es : List TableEntry) (e : TableEntry) → TablesLegalFrom limits s (es ++ e ∷ []) →
    TablesLegalFrom limits s es × IsTrue (may_call_tables (tables_from limits s es) e.app)
legal-last_at_tables limits s [] e legal = (tt, legal.0)
legal-last_at_tables limits s (x ∷ es) e legal =
    let rest = legal-last_at_tables limits ((table_step limits s x.app x.call).1) es e legal.2 in
    ((legal.0, legal.1, rest.0), rest.1)

legal-front_at_tables : (limits : Limits) (s : Tables) (es more : List TableEntry) → TablesLegalFrom limits s (es ++ more) → TablesLegalFrom limits s es
legal-front_at_tables limits s [] more legal = tt
legal-front_at_tables limits s (x ∷ es) more legal = (legal.0, legal.1, legal-front_at_tables limits ((table_step limits s x.app x.call).1) es more legal.2)

-- the first of the entries behind those seen
pub called-front_at_tables : (core : TableCore) (e : TableEntry) (rest : List TableEntry) → IsLegalTableCore (with_table_entries core ((core.log.entries ++ e ∷ []) ++ rest)) →
    CalledAtTables core (with_table_entries core (core.log.entries ++ e ∷ [])) e.app e.call e.answer
called-front_at_tables core e rest legal =
    let opened = no_tables core.limits (table_apps_of core) in
    let history = core.log.entries in
    let parts = legal-last_at_tables core.limits opened history e (legal-front_at_tables core.limits opened (history ++ e ∷ []) rest legal) in
    record {
      legal = parts.0;
      may = parts.1;
      entries = refl;
      limits = refl;
      left = tables_left_from-push (allowances core.log.budgets) history e;
      state = tables_from-push core.limits opened history e;
    }

stands-behind_at_tables : (one : Equipped) (core : TableCore) (between : List TableEntry) → 1 ≤ one.progress.running.app → All (λ (e : TableEntry). e.app ≢ one.progress.running.app) between →
    IsLegalTableCore (with_table_entries core (core.log.entries ++ between)) → StandsAtTables one core → StandsAtTables one (with_table_entries core (core.log.entries ++ between))
stands-behind_at_tables one core [] some others legal stands =
    subst (λ es. StandsAtTables one (with_table_entries core es)) (sym (append-nil core.log.entries)) stands
stands-behind_at_tables one core (e ∷ es) some others legal stands =
    let other : TableEntry → Type 0 = λ x. x.app ≢ one.progress.running.app in
    let next = with_table_entries core (core.log.entries ++ e ∷ []) in
    let whole = append_assoc core.log.entries (e ∷ []) es in
    let legal-next = subst (λ x. IsLegalTableCore (with_table_entries core x)) (sym whole) legal in
    subst (λ x. StandsAtTables one (with_table_entries core x)) whole
    (stands-behind_at_tables one next es some (All-tail other e es others) legal-next
    (stands-called_at_tables one core next e.app e.call e.answer (called-front_at_tables core e es legal-next) refl (All-head other e es others) some stands))

-- what is noted says nothing of how an application stands
stands-noted_at_tables : (one : Equipped) (core : TableCore) (notes : List Note) → StandsAtTables one core → StandsAtTables one (record core { notes = notes })
stands-noted_at_tables one core notes stands = record {
  known = stands.known;
  ended = stands.ended;
  entries = stands.entries;
  bytes = stands.bytes;
  remember = stands.remember;
  small = stands.small;
}

-- others' calls leave an application as it stands
pub stands-others_at_tables : (one : Equipped) (old new : TableCore) → CalledByOthersAtTables old new one.progress.running.app → 1 ≤ one.progress.running.app →
    StandsAtTables one old → StandsAtTables one new
stands-others_at_tables one old new others some stands =
    subst (λ core. StandsAtTables one core) (sym others.grown)
    (stands-noted_at_tables one (with_table_entries old (old.log.entries ++ others.entries)) (old.notes ++ others.notes)
    (stands-behind_at_tables one old others.entries some others.by_others (subst (λ core. IsLegalTableCore core) others.grown others.legal) stands))

-- the tables that the calls meet know the application as those last seen did
pub stands-met_at_tables : (progress : Progress) (caller : Caller) (now : TableCore) → MeetsTables caller now → caller.app ≡ progress.running.app → 1 ≤ progress.running.app →
    StandsAtTables (with_bags progress caller) caller.tables → StandsAtTables (with_bags progress caller) now
stands-met_at_tables progress caller now (inl same) own some stands = subst (λ core. StandsAtTables (with_bags progress caller) core) (sym same) stands
stands-met_at_tables progress caller now (inr others) own some stands =
    stands-others_at_tables (with_bags progress caller) caller.tables now (subst (λ app. CalledByOthersAtTables caller.tables now app) own others.1) some stands

pub met-table_limits : (caller : Caller) (now : TableCore) → MeetsTables caller now → now.limits ≡ caller.tables.limits
met-table_limits caller now (inl same) = ap (λ (core : TableCore). core.limits) same
met-table_limits caller now (inr others) = ap (λ (core : TableCore). core.limits) (others.1).grown

-- Calls that are alone. --

-- they meet the services last seen
pub met-alone : (caller : Caller) (now : Core) → caller.alone ≡ true → Meets caller now → now ≡ caller.core
met-alone caller now alone (inl same) = same
met-alone caller now alone (inr others) = absurd (cc (alone, others.0))

pub met-alone_at_tables : (caller : Caller) (now : TableCore) → caller.alone ≡ true → MeetsTables caller now → now ≡ caller.tables
met-alone_at_tables caller now alone (inl same) = same
met-alone_at_tables caller now alone (inr others) = absurd (cc (alone, others.0))

pub turn-alone : (old new : Progress) (before after : Caller) → before.alone ≡ true → TakesTurnBy old new before after →
    TakesTurn (with_bags old before) (with_bags new after) (services_of before) (services_of after)
turn-alone old new before after alone turn =
    subst (λ core. TakesTurn (with_bags old before) (with_bags new after) (record { bus = core; tables = before.tables }) (services_of after)) (met-alone before turn.now.bus alone turn.meets)
    (subst (λ core. TakesTurn (with_bags old before) (with_bags new after) (record { bus = turn.now.bus; tables = core }) (services_of after))
    (met-alone_at_tables before turn.now.tables alone turn.meets_tables) turn.turn)
