-- One application's turn among all of a rotation.
use Rattle.std.proofs.Common.{◌≡◌, ℕ, zero, suc, ◌+◌, ◌<◌, ◌≤◌, Bool, true, false, cond, ne_eqb, List, [], ◌∷◌, ◌++◌, length, take, drop, slice_set, get_or, refl, ap, sym, ◌∙◌, subst, append_assoc, append-nil, inl, inr, arith}
use Rattle.std.specs.List.{All}
use Rattle.std.proofs.lemmas.List.{length-set, drop_more, drop-set-lt, take_more_set, take_all, drop_all}
use Rattle.std.proofs.lemmas.List.Elements.{All-nil, All-cons, All-head, All-tail, All-get_or}
use Rattle.fsw_base.specs.Limits.{Limits}
use Rattle.lend_block.specs.Loan.{LentBytes}
use Rattle.buf_desc.specs.Held.{Holding}
use Rattle.bus_words.specs.declared.calls.BusAnswer.{BusAnswer}
use Rattle.bus_words.specs.declared.history.Call.{Call}
use Rattle.bus_words.specs.declared.history.Entry.{Entry}
use Rattle.bus_words.specs.Bus.{State, standing_of, opening}
use Rattle.bus_words.specs.Machine.{IsLegal, step}
use Rattle.bus_words.proofs.LegalSteps.{standing-step, legal-last}
use Rattle.sb_calls.specs.Core.{Core, Does, IsLegalCore, apps_of, state_of}
use Rattle.tbl_words.specs.declared.calls.TblAnswer.{TblAnswer}
use Rattle.tbl_words.specs.declared.history.Call.{Call as TableCall}
use Rattle.tbl_words.specs.declared.history.Entry.{Entry as TableEntry}
use Rattle.tbl_words.specs.Machine.{step as table_step}
use Rattle.tbl_words.specs.Tables.{State as Tables}
use Rattle.table_blocks.specs.Held.{HeldViews}
use Rattle.tbl_load.specs.Core.{Core as TableCore, Does as TablesDo, IsLegalCore as IsLegalTableCore, apps_of as table_apps_of, state_of as tables_of}
use Rattle.tbl_load.specs.Notes.{note_due}
use Rattle.tbl_load.proofs.OthersBags.{legal-last as table_legal-last}
use Rattle.app_script.specs.Script.{ScriptText}
use Rattle.script_runs.specs.Histories.{Histories}
use Rattle.script_runs.specs.Rotation.{Running, SoFar, turn, rotated}
use Rattle.script_runs.specs.Told.{Seen, TableSeen, Telling, receipts_told, seen_from, table_seen_from}
use Rattle.script_runs.proofs.LastMessages.{receipt-other}
use Rattle.app_run.specs.Rounds.{all_going, equipped, histories_with, AreNumbered, AreSame, AllStand, AllTold, AreTurned, HasTold, Rotates, MovesOn, StepsIf, to_come, told_on}
use Rattle.app_run.specs.Runners.{Progress, Equipped, Services, running_of, going}
use Rattle.app_run.specs.Turns.{so_far, Stands, StandsAtBus, StandsAtTables, TakesTurn, Moved, TablesMoved, HasCome, AtBeginning, ByTurn, OtherTurn, OthersAtBus, OthersAtTables, IsUnderWay, tells}
use Rattle.script_runs.proofs.HeldReceipts.{held-other}
use Rattle.app_run.proofs.OthersLaws.{Called, CalledAtTables, stands-called, stands-called_at_tables}
use Rattle.app_run.proofs.TableTurns.{left-table_does, table_apps-does}
use Rattle.app_run.proofs.ToldLaws.{TellsOn, GoesOn, tells-turn, seen-other, table_seen-other, told_on-same, told_on-same_tables}
use Rattle.app_run.proofs.TurnLaws.{apps-does, both, left-does}

abbrev pub the_equipped : Progress → Holding LentBytes → HeldViews → Equipped
the_equipped progress bag held = record { progress = progress; bag = bag; held = held }

abbrev pub the_histories : List Entry → List TableEntry → Histories
the_histories entries table_entries = record { bus = entries; tables = table_entries }

-- Another application's call. --

pub called : (before after : Core) (who : ℕ) (call : Call) (answer : BusAnswer) → Does before after who call answer → Called before after who call answer
called before after who call answer does =
    let e : Entry = record { app = who; call = call; answer = answer } in
    let legal-now : IsLegal before.limits (apps_of before) (before.log.entries ++ e ∷ []) = subst (λ (core : Core). IsLegalCore core) does.entry does.legal in
    let parts = legal-last before.limits [] (opening before.limits (apps_of before)) before.log.entries e legal-now in
    record {
      legal = parts.0;
      may = parts.1;
      entries = ap (λ (core : Core). core.log.entries) does.entry;
      limits = ap (λ (core : Core). core.limits) does.entry;
      left = left-does before after who call answer does;
      state = does.state;
    }

pub called_at_tables : (before after : TableCore) (who : ℕ) (call : TableCall) (answer : TblAnswer) → TablesDo before after who call answer → CalledAtTables before after who call answer
called_at_tables before after who call answer does =
    let e : TableEntry = record { app = who; call = call; answer = answer } in
    let parts = table_legal-last before e (note_due answer does.loan) (subst (λ (core : TableCore). IsLegalTableCore core) does.entry does.legal) in
    record {
      legal = parts.0;
      may = parts.1;
      entries = ap (λ (core : TableCore). core.log.entries) does.entry;
      limits = ap (λ (core : TableCore). core.limits) does.entry;
      left = left-table_does before after who call answer does;
      state = does.state;
    }

-- where an application is in what it tells
abbrev the_telling : Running → State → Tables → List Seen → List TableSeen → Telling
the_telling running s t seen table_seen = record {
  registers = running.registers;
  handles = running.handles;
  written = running.written;
  state = s;
  tables = t;
  seen = seen;
  table_seen = table_seen;
}

-- what is to come of an application, once another one's entry of the bus came
comes-other : (before after : Core) (tables : TableCore) (who : ℕ) (call : Call) (answer : BusAnswer) (running : Running) → Called before after who call answer →
    (who ≡ running.app → ⊥) → (entries : Histories) →
    to_come before.limits (so_far (both before tables)) running (the_histories (record { app = who; call = call; answer = answer } ∷ entries.bus) entries.tables)
    ≡ to_come after.limits (so_far (both after tables)) running entries
comes-other before after tables who call answer running c other entries =
    let app = running.app in
    let limits = before.limits in
    let e : Entry = record { app = who; call = call; answer = answer } in
    let history = before.log.entries in
    let s = state_of before in
    let t = (step limits history s who call).1 in
    let their = tables_of tables in
    let seen_there = table_seen_from limits their app entries.tables in
    let same : standing_of t app ≡ standing_of s app = standing-step limits history s who app call c.may (ne_eqb app who (λ is. other (sym is))) in
    ap (λ seen. told_on (standing_of s app) app running.lines (the_telling running s their seen seen_there)) (seen-other limits history s app e entries.bus other)
    ∙ sym (told_on-same (standing_of s app) app running.lines (the_telling running s their (seen_from limits (history ++ e ∷ []) t app entries.bus) seen_there) t
    (λ pipe. receipt-other limits (apps_of before) app pipe history who call c.legal c.may other))
    ∙ ap (λ st. told_on st app running.lines (the_telling running t their (seen_from limits (history ++ e ∷ []) t app entries.bus) seen_there)) (sym same)
    ∙ ap (λ u. told_on (standing_of u app) app running.lines (the_telling running u their (seen_from limits (history ++ e ∷ []) u app entries.bus) seen_there)) (sym c.state)
    ∙ ap (λ h. told_on (standing_of (state_of after) app) app running.lines (the_telling running (state_of after) their (seen_from limits h (state_of after) app entries.bus) seen_there)) (sym c.entries)
    ∙ ap (λ l. told_on (standing_of (state_of after) app) app running.lines
    (the_telling running (state_of after) their (seen_from l after.log.entries (state_of after) app entries.bus) (table_seen_from l their app entries.tables))) (sym c.limits)

-- and of the tables
comes-other_tables : (bus : Core) (before after : TableCore) (who : ℕ) (call : TableCall) (answer : TblAnswer) (running : Running) → CalledAtTables before after who call answer →
    before.limits ≡ bus.limits → (who ≡ running.app → ⊥) → (entries : Histories) →
    to_come bus.limits (so_far (both bus before)) running (the_histories entries.bus (record { app = who; call = call; answer = answer } ∷ entries.tables))
    ≡ to_come bus.limits (so_far (both bus after)) running entries
comes-other_tables bus before after who call answer running c same other entries =
    let app = running.app in
    let limits = bus.limits in
    let e : TableEntry = record { app = who; call = call; answer = answer } in
    let s = state_of bus in
    let t = tables_of before in
    let now = (table_step before.limits t who call).1 in
    let seen = seen_from limits bus.log.entries s app entries.bus in
    ap (λ l. told_on (standing_of s app) app running.lines (the_telling running s t seen (table_seen_from l t app (e ∷ entries.tables)))) (sym same)
    ∙ ap (λ there. told_on (standing_of s app) app running.lines (the_telling running s t seen there)) (table_seen-other before.limits t app e entries.tables other)
    ∙ sym (told_on-same_tables (standing_of s app) app running.lines (the_telling running s t seen (table_seen_from before.limits now app entries.tables)) now
    (λ handle. held-other before.limits (table_apps_of before) app handle before.log.entries who call c.legal other))
    ∙ ap (λ u. told_on (standing_of s app) app running.lines (the_telling running s u seen (table_seen_from before.limits u app entries.tables))) (sym c.state)
    ∙ ap (λ l. told_on (standing_of s app) app running.lines (the_telling running s (tables_of after) seen (table_seen_from l (tables_of after) app entries.tables))) same

pub told-called : (script : ScriptText) (one : Equipped) (before after : Core) (tables : TableCore) (who : ℕ) (call : Call) (answer : BusAnswer) → Called before after who call answer →
    (who ≡ one.progress.running.app → ⊥) → HasTold script (both before tables) one → HasTold script (both after tables) one
told-called script one before after tables who call answer c other told = λ entries.
    let e : Entry = record { app = who; call = call; answer = answer } in
    let app = one.progress.running.app in
    let theirs = tables.log.entries ++ entries.tables in
    ap (λ h. receipts_told script (the_histories (h ++ entries.bus) theirs) app) c.entries
    ∙ ap (λ h. receipts_told script (the_histories h theirs) app) (append_assoc before.log.entries (e ∷ []) entries.bus)
    ∙ told (the_histories (e ∷ entries.bus) entries.tables)
    ∙ ap (λ r. one.progress.receipts ++ r) (comes-other before after tables who call answer (running_of one) c other entries)

pub told-called_at_tables : (script : ScriptText) (one : Equipped) (bus : Core) (before after : TableCore) (who : ℕ) (call : TableCall) (answer : TblAnswer) → CalledAtTables before after who call answer →
    before.limits ≡ bus.limits → (who ≡ one.progress.running.app → ⊥) → HasTold script (both bus before) one → HasTold script (both bus after) one
told-called_at_tables script one bus before after who call answer c same other told = λ entries.
    let e : TableEntry = record { app = who; call = call; answer = answer } in
    let app = one.progress.running.app in
    let its = bus.log.entries ++ entries.bus in
    ap (λ h. receipts_told script (the_histories its (h ++ entries.tables)) app) c.entries
    ∙ ap (λ h. receipts_told script (the_histories its h) app) (append_assoc before.log.entries (e ∷ []) entries.tables)
    ∙ told (the_histories entries.bus (e ∷ entries.tables))
    ∙ ap (λ r. one.progress.receipts ++ r) (comes-other_tables bus before after who call answer (running_of one) c same other entries)

-- Turns of others. --

moved-limits : (before after : Core) (who : ℕ) → Moved before after who → after.limits ≡ before.limits
moved-limits before after who (inl same) = ap (λ (core : Core). core.limits) same
moved-limits before after who (inr step) = (called before after who step.0 step.1 step.2).limits

moved-apps : (before after : Core) (who : ℕ) → Moved before after who → apps_of after ≡ apps_of before
moved-apps before after who (inl same) = ap apps_of same
moved-apps before after who (inr step) = apps-does before after who step.0 step.1 step.2

moved-table_limits : (before after : TableCore) (who : ℕ) → TablesMoved before after who → after.limits ≡ before.limits
moved-table_limits before after who (inl same) = ap (λ (core : TableCore). core.limits) same
moved-table_limits before after who (inr step) = (called_at_tables before after who step.0 step.1 step.2).limits

moved-table_apps : (before after : TableCore) (who : ℕ) → TablesMoved before after who → table_apps_of after ≡ table_apps_of before
moved-table_apps before after who (inl same) = ap table_apps_of same
moved-table_apps before after who (inr step) = table_apps-does before after who step.0 step.1 step.2

moved-stands_at_bus : (one : Equipped) (before after : Core) (who : ℕ) → Moved before after who → (who ≡ one.progress.running.app → ⊥) → 1 ≤ one.progress.running.app →
    StandsAtBus one before → StandsAtBus one after
moved-stands_at_bus one before after who (inl same) other some stands = subst (λ core. StandsAtBus one core) (sym same) stands
moved-stands_at_bus one before after who (inr step) other some stands =
    stands-called one before after who step.0 step.1 (called before after who step.0 step.1 step.2) (apps-does before after who step.0 step.1 step.2) other some stands

moved-stands_at_tables : (one : Equipped) (before after : TableCore) (who : ℕ) → TablesMoved before after who → (who ≡ one.progress.running.app → ⊥) → 1 ≤ one.progress.running.app →
    StandsAtTables one before → StandsAtTables one after
moved-stands_at_tables one before after who (inl same) other some stands = subst (λ core. StandsAtTables one core) (sym same) stands
moved-stands_at_tables one before after who (inr step) other some stands =
    stands-called_at_tables one before after who step.0 step.1 (called_at_tables before after who step.0 step.1 step.2) (table_apps-does before after who step.0 step.1 step.2) other some stands

moved-told_at_bus : (script : ScriptText) (one : Equipped) (before after : Core) (tables : TableCore) (who : ℕ) → Moved before after who → (who ≡ one.progress.running.app → ⊥) →
    HasTold script (both before tables) one → HasTold script (both after tables) one
moved-told_at_bus script one before after tables who (inl same) other told = subst (λ core. HasTold script (both core tables) one) (sym same) told
moved-told_at_bus script one before after tables who (inr step) other told =
    told-called script one before after tables who step.0 step.1 (called before after who step.0 step.1 step.2) other told

moved-told_at_tables : (script : ScriptText) (one : Equipped) (bus : Core) (before after : TableCore) (who : ℕ) → TablesMoved before after who → before.limits ≡ bus.limits →
    (who ≡ one.progress.running.app → ⊥) → HasTold script (both bus before) one → HasTold script (both bus after) one
moved-told_at_tables script one bus before after who (inl same) alike other told = subst (λ core. HasTold script (both bus core) one) (sym same) told
moved-told_at_tables script one bus before after who (inr step) alike other told =
    told-called_at_tables script one bus before after who step.0 step.1 (called_at_tables before after who step.0 step.1 step.2) alike other told

-- an application made an entry of each service, or none
pub record MovesBoth (before after : Services) (who : ℕ) : Type 0 where
  pub moved : Moved before.bus after.bus who
  pub tables_moved : TablesMoved before.tables after.tables who

pub moved-same : (before after : Services) (who : ℕ) → MovesBoth before after who → AreSame before after
moved-same before after who moves = record {
  limits = moved-limits before.bus after.bus who moves.moved;
  table_limits = moved-table_limits before.tables after.tables who moves.tables_moved;
  apps = moved-apps before.bus after.bus who moves.moved;
  table_apps = moved-table_apps before.tables after.tables who moves.tables_moved;
}

pub moved-stands : (one : Equipped) (before after : Services) (who : ℕ) → MovesBoth before after who → (who ≡ one.progress.running.app → ⊥) → 1 ≤ one.progress.running.app →
    Stands one before → Stands one after
moved-stands one before after who moves other some stands = record {
  bus = moved-stands_at_bus one before.bus after.bus who moves.moved other some stands.bus;
  tables = moved-stands_at_tables one before.tables after.tables who moves.tables_moved other some stands.tables;
  limits = moved-table_limits before.tables after.tables who moves.tables_moved ∙ stands.limits ∙ sym (moved-limits before.bus after.bus who moves.moved);
}

-- the services are under one application's limits, however it came so far
come-limits : (script : ScriptText) (one : Equipped) (services : Services) → HasCome script one services → services.tables.limits ≡ services.bus.limits
come-limits script one services (AtBeginning _ _ opened) = ap (λ (tables : TableCore). tables.limits) opened.tables ∙ sym (ap (λ (bus : Core). bus.limits) opened.bus)
come-limits script one services (ByTurn old _ before _ come t) = t.stands.limits
come-limits script one services (OtherTurn _ before _ other come another moved tables_moved) =
    moved-table_limits before.tables services.tables other tables_moved ∙ come-limits script one before come ∙ sym (moved-limits before.bus services.bus other moved)
come-limits script one services (OthersAtBus _ before bus come others) = come-limits script one before come ∙ sym (ap (λ (core : Core). core.limits) others.grown)
come-limits script one services (OthersAtTables _ before tables come others) = ap (λ (core : TableCore). core.limits) others.grown ∙ come-limits script one before come

-- an application is on its way also behind another's turn
moved-way : (one : Equipped) (before after : Services) (who : ℕ) → MovesBoth before after who → (who ≡ one.progress.running.app → ⊥) → IsUnderWay one before → IsUnderWay one after
moved-way one before after who moves other way = (way.0, OtherTurn one before after who way.1 other moves.moved moves.tables_moved)

moved-told : (script : ScriptText) (one : Equipped) (before after : Services) (who : ℕ) → MovesBoth before after who → before.tables.limits ≡ before.bus.limits →
    (who ≡ one.progress.running.app → ⊥) → HasTold script before one → HasTold script after one
moved-told script one before after who moves alike other told =
    moved-told_at_tables script one after.bus before.tables after.tables who moves.tables_moved (alike ∙ sym (moved-limits before.bus after.bus who moves.moved)) other
    (moved-told_at_bus script one before.bus after.bus before.tables who moves.moved other told)

-- The application's own turn. --

goes-here : (ended : Bool) (new old : Running) → new.app ≡ old.app → GoesOn (cond {A = List Running} ended [] (new ∷ [])) old new
goes-here true new old same = same
goes-here false new old same = refl

pub told-own : (script : ScriptText) (old new : Equipped) (before after : Services) → TakesTurn old new before after → HasTold script before old → HasTold script after new
told-own script old new before after t told = λ entries.
    let limits = before.bus.limits in
    let app = old.progress.running.app in
    let now = (turn limits (so_far before) (running_of old)).0 in
    let tells_now = tells limits (so_far before) (running_of old) in
    let on : TellsOn limits (so_far before) (running_of old) now (running_of new) tells_now =
    tells-turn limits (so_far before) (running_of old) (running_of new)
    (subst (λ l. GoesOn l (running_of old) (running_of new)) t.goes_on (goes-here new.progress.ended (running_of new) (running_of old) t.same_app)) in
    let history : after.bus.log.entries ≡ before.bus.log.entries ++ on.added = ap (λ (b : SoFar). b.history) t.services ∙ on.history in
    let table_history : after.tables.log.entries ≡ before.tables.log.entries ++ on.added_at_tables = ap (λ (b : SoFar). b.table_history) t.services ∙ on.table_history in
    ap (λ a. receipts_told script (histories_with after entries) a) t.same_app
    ∙ ap (λ h. receipts_told script (the_histories h (after.tables.log.entries ++ entries.tables)) app)
    (ap (λ h. h ++ entries.bus) history ∙ append_assoc before.bus.log.entries on.added entries.bus)
    ∙ ap (λ h. receipts_told script (the_histories (before.bus.log.entries ++ (on.added ++ entries.bus)) h) app)
    (ap (λ h. h ++ entries.tables) table_history ∙ append_assoc before.tables.log.entries on.added_at_tables entries.tables)
    ∙ told (the_histories (on.added ++ entries.bus) (on.added_at_tables ++ entries.tables))
    ∙ ap (λ r. old.progress.receipts ++ r) (on.comes entries)
    ∙ sym (append_assoc old.progress.receipts tells_now (to_come limits now (running_of new) entries))
    ∙ ap (λ r. r ++ to_come limits now (running_of new) entries) (sym t.receipts)
    ∙ ap (λ b. new.progress.receipts ++ to_come limits b (running_of new) entries) (sym t.services)
    ∙ ap (λ l. new.progress.receipts ++ to_come l (so_far after) (running_of new) entries) (sym (moved-limits before.bus after.bus app t.moved))

-- what a step leaves, whether the application goes on or has ended
record Stepped (old new : Equipped) (before after : Services) : Type 0 where
  moves : MovesBoth before after old.progress.running.app
  same_app : new.progress.running.app ≡ old.progress.running.app
  way : IsUnderWay new after
  told : (script : ScriptText) → HasTold script before old → HasTold script after new

stepped : (ended : Bool) (old new : Equipped) (before after : Services) → IsUnderWay old before → StepsIf ended old new before after → Stepped old new before after
stepped true old new before after way step = record {
  moves = record { moved = inl (ap (λ (s : Services). s.bus) step.1); tables_moved = inl (ap (λ (s : Services). s.tables) step.1) };
  same_app = ap (λ (p : Equipped). p.progress.running.app) step.0;
  way = subst (λ p. IsUnderWay p after) (sym step.0) (subst (λ services. IsUnderWay old services) (sym step.1) way);
  told = λ script told. subst (λ p. HasTold script after p) (sym step.0) (subst (λ services. HasTold script services old) (sym step.1) told);
}
stepped false old new before after way step = record {
  moves = record { moved = step.moved; tables_moved = step.tables_moved };
  same_app = step.same_app;
  way = (way.0, ByTurn old new before after way.1 step);
  told = λ script told. told-own script old new before after step told;
}

-- Lists of applications. --

-- a fact that holds of each application but those with this number
each-above : (P Q : Equipped → Type 0) (n k : ℕ) (all : List Equipped) → AreNumbered n all → k < n → All P all →
    ((p : Equipped) → (k ≡ p.progress.running.app → ⊥) → 1 ≤ p.progress.running.app → P p → Q p) → All Q all
each-above P Q n k [] numbered below each on = All-nil Q
each-above P Q n k (p ∷ ps) numbered below each on =
    All-cons Q p ps (on p (λ is. omega (arith, is, numbered.0, below)) (omega (arith, numbered.0, below)) (All-head P p ps each))
    (each-above P Q (n + 1) k ps numbered.1 (omega (arith, below)) (All-tail P p ps each) on)

each-set : (P Q : Equipped → Type 0) (n k i : ℕ) (all : List Equipped) (new : Equipped) → k ≡ n + i → 1 ≤ n → AreNumbered n all → i < length all → All P all →
    ((p : Equipped) → (k ≡ p.progress.running.app → ⊥) → 1 ≤ p.progress.running.app → P p → Q p) → Q new → All Q (slice_set all i new)
each-set P Q n k i [] new at first numbered within each on q = absurd (omega (arith, within))
each-set P Q n k zero (p ∷ ps) new at first numbered within each on q =
    All-cons Q new ps q (each-above P Q (n + 1) k ps numbered.1 (omega (arith, at)) (All-tail P p ps each) on)
each-set P Q n k (suc i) (p ∷ ps) new at first numbered within each on q =
    All-cons Q p (slice_set ps i new) (on p (λ is. omega (arith, is, numbered.0, at)) (omega (arith, numbered.0, first)) (All-head P p ps each))
    (each-set P Q (n + 1) k i ps new (omega (arith, at)) (omega arith) numbered.1 (omega (arith, within)) (All-tail P p ps each) on q)

pub numbered-at : (n i : ℕ) (all : List Equipped) (d : Equipped) → AreNumbered n all → i < length all → (get_or all i d).progress.running.app ≡ n + i
numbered-at n i [] d numbered within = absurd (omega (arith, within))
numbered-at n zero (p ∷ ps) d numbered within = omega (arith, numbered.0)
numbered-at n (suc i) (p ∷ ps) d numbered within = omega (arith, numbered-at (n + 1) i ps d numbered.1 (omega (arith, within)))

numbered-set : (n i : ℕ) (all : List Equipped) (new : Equipped) → AreNumbered n all → new.progress.running.app ≡ n + i → AreNumbered n (slice_set all i new)
numbered-set n i [] new numbered at = numbered
numbered-set n zero (p ∷ ps) new numbered at = (omega (arith, at), numbered.1)
numbered-set n (suc i) (p ∷ ps) new numbered at = (numbered.0, numbered-set (n + 1) i ps new numbered.1 (omega (arith, at)))

going-append : (xs ys : List Equipped) → all_going (xs ++ ys) ≡ all_going xs ++ all_going ys
going-append [] ys = refl
going-append (p ∷ ps) ys =
    ap (λ l. going p ++ l) (going-append ps ys) ∙ sym (append_assoc (going p) (all_going ps) (all_going ys))

-- Applications with their bags. --

-- one application and its bags are set
pub equipped-set : (all : List Progress) (bags : List (Holding LentBytes)) (helds : List HeldViews) (i : ℕ) (new : Progress) (bag : Holding LentBytes) (held : HeldViews) →
    equipped (slice_set all i new) (slice_set bags i bag) (slice_set helds i held) ≡ slice_set (equipped all bags helds) i (record { progress = new; bag = bag; held = held })
equipped-set [] bags helds i new bag held = refl
equipped-set (p ∷ ps) [] helds zero new bag held = refl
equipped-set (p ∷ ps) [] helds (suc i) new bag held = refl
equipped-set (p ∷ ps) (b ∷ bags) [] zero new bag held = refl
equipped-set (p ∷ ps) (b ∷ bags) [] (suc i) new bag held = refl
equipped-set (p ∷ ps) (b ∷ bags) (h ∷ helds) zero new bag held = refl
equipped-set (p ∷ ps) (b ∷ bags) (h ∷ helds) (suc i) new bag held = ap (λ rest. the_equipped p b h ∷ rest) (equipped-set ps bags helds i new bag held)

-- the application at a place, with its bags
pub equipped-at : (all : List Progress) (bags : List (Holding LentBytes)) (helds : List HeldViews) (i : ℕ) (one : Progress) (bag : Holding LentBytes) (held : HeldViews) (d : Equipped) →
    i < length all → length bags ≡ length all → length helds ≡ length all →
    one ≡ get_or all i one → bag ≡ get_or bags i bag → held ≡ get_or helds i held → record { progress = one; bag = bag; held = held } ≡ get_or (equipped all bags helds) i d
equipped-at [] bags helds i one bag held d within as_many as_many_held at its theirs = absurd (omega (arith, within))
equipped-at (p ∷ ps) [] helds i one bag held d within as_many as_many_held at its theirs = absurd (omega (arith, as_many))
equipped-at (p ∷ ps) (b ∷ bags) [] i one bag held d within as_many as_many_held at its theirs = absurd (omega (arith, as_many_held))
equipped-at (p ∷ ps) (b ∷ bags) (h ∷ helds) zero one bag held d within as_many as_many_held at its theirs =
    ap (λ q. the_equipped q bag held) at ∙ ap (λ c. the_equipped p c held) its ∙ ap (λ c. the_equipped p b c) theirs
equipped-at (p ∷ ps) (b ∷ bags) (h ∷ helds) (suc i) one bag held d within as_many as_many_held at its theirs =
    equipped-at ps bags helds i one bag held d (omega (arith, within)) (omega (arith, as_many)) (omega (arith, as_many_held)) at its theirs

pub length-equipped : (all : List Progress) (bags : List (Holding LentBytes)) (helds : List HeldViews) → length bags ≡ length all → length helds ≡ length all →
    length (equipped all bags helds) ≡ length all
length-equipped [] bags helds as_many as_many_held = refl
length-equipped (p ∷ ps) [] helds as_many as_many_held = absurd (omega (arith, as_many))
length-equipped (p ∷ ps) (bag ∷ bags) [] as_many as_many_held = absurd (omega (arith, as_many_held))
length-equipped (p ∷ ps) (bag ∷ bags) (held ∷ helds) as_many as_many_held =
    let rest = length-equipped ps bags helds (omega (arith, as_many)) (omega (arith, as_many_held)) in omega (arith, rest)

-- Rotations. --

-- a rotation so far: what the rest of it makes, behind those that had their turns
abbrev joined : List Running → SoFar × List Running → SoFar × List Running
joined done rest = (rest.0, done ++ rest.1)

rotated-step : (ended : Bool) (limits : Limits) (old new : Equipped) (before after : Services) → old.progress.ended ≡ ended → before.bus.limits ≡ limits → StepsIf ended old new before after →
    (others : List Running) → rotated limits (so_far before) (going old ++ others) ≡ joined (going new) (rotated limits (so_far after) others)
rotated-step true limits old new before after is same step others =
    ap (λ b. rotated limits (so_far before) (cond {A = List Running} b [] ((running_of old) ∷ []) ++ others)) is
    ∙ ap (λ services. rotated limits (so_far services) others) (sym step.1)
    ∙ ap (λ b. joined (cond {A = List Running} b [] ((running_of new) ∷ [])) (rotated limits (so_far after) others)) (sym (ap (λ (p : Equipped). p.progress.ended) step.0 ∙ is))
rotated-step false limits old new before after is same step others =
    let first = turn limits (so_far before) (running_of old) in
    ap (λ b. rotated limits (so_far before) (cond {A = List Running} b [] ((running_of old) ∷ []) ++ others)) is
    ∙ ap (λ b. joined first.1 (rotated limits b others)) (sym (step.services ∙ ap (λ l. (turn l (so_far before) (running_of old)).0) same))
    ∙ ap (λ g. joined g (rotated limits (so_far after) others)) (sym (step.goes_on ∙ ap (λ l. (turn l (so_far before) (running_of old)).1) same))

-- the services stay for the same applications
pub same-none : (before : Services) → AreSame before before
same-none before = record { limits = refl; table_limits = refl; apps = refl; table_apps = refl }

pub same-more : (before mid after : Services) → AreSame before mid → AreSame mid after → AreSame before after
same-more before mid after one two = record {
  limits = two.limits ∙ one.limits;
  table_limits = two.table_limits ∙ one.table_limits;
  apps = two.apps ∙ one.apps;
  table_apps = two.table_apps ∙ one.table_apps;
}

-- One application's turn --

record TakesOne (all : List Equipped) (i : ℕ) (new : Equipped) (before after : Services) : Type 0 where
  stand : AllStand after (slice_set all i new)
  told : (script : ScriptText) → AllTold script before all → AllTold script after (slice_set all i new)
  same : AreSame before after

takes-one : (all : List Equipped) (i : ℕ) (new old : Equipped) (before after : Services) → AllStand before all → i < length all → old ≡ get_or all i old →
    MovesOn old new before after → TakesOne all i new before after
takes-one all i new old before after stand within at step =
    let way : IsUnderWay old before = subst (λ p. IsUnderWay p before) (sym at) (All-get_or (λ p. IsUnderWay p before) all i old within stand.each) in
    let s = stepped old.progress.ended old new before after way step in
    let number : old.progress.running.app ≡ 1 + i = ap (λ (p : Equipped). p.progress.running.app) at ∙ numbered-at 1 i all old stand.numbered within in
    let same = moved-same before after old.progress.running.app s.moves in
    record {
      stand = record {
        numbered = numbered-set 1 i all new stand.numbered (s.same_app ∙ number);
        each = each-set (λ p. IsUnderWay p before) (λ p. IsUnderWay p after) 1 old.progress.running.app i all new number (omega arith) stand.numbered within stand.each
            (λ p other some way. moved-way p before after old.progress.running.app s.moves other way) s.way;
      };
      told = λ script told. record {
        limits = same.limits ∙ told.limits;
        apps = same.apps ∙ told.apps;
        table_apps = same.table_apps ∙ told.table_apps;
        each = each-set (λ p. HasTold script before p) (λ p. HasTold script after p) 1 old.progress.running.app i all new number (omega arith) stand.numbered within told.each
            (λ p other some told. moved-told script p before after old.progress.running.app s.moves (come-limits way.0 old before way.1) other told)
            (s.told script (subst (λ p. HasTold script before p) (sym at) (All-get_or (λ p. HasTold script before p) all i old within told.each)));
      };
      same = same;
    }

pub turned-none : (before : Services) (first : List Equipped) → AllStand before first → AreTurned 0 before first before first
turned-none before first stand = record {
  stand = stand;
  turns = refl;
  told = λ script told. told;
  count = refl;
  same = same-none before;
}

pub turned-one : (i : ℕ) (before : Services) (first : List Equipped) (mid after : Services) (all : List Equipped) (old new : Equipped) →
    AreTurned i before first mid all → i < length all → old ≡ get_or all i old → MovesOn old new mid after → AreTurned (i + 1) before first after (slice_set all i new)
turned-one i before first mid after all old new t within at step =
    let one = takes-one all i new old mid after t.stand within at step in
    let L = before.bus.limits in
    let others = drop (i + 1) all in
    let rest = rotated L (so_far after) (all_going others) in
    let done = all_going (take i all) in
    let left : drop i all ≡ old ∷ others = drop_more all i old within ∙ ap (λ p. p ∷ others) (sym at) in
    let new-left : drop (i + 1) (slice_set all i new) ≡ others = drop-set-lt (i + 1) all i new (omega arith) in
    let new-done : all_going (take (i + 1) (slice_set all i new)) ≡ done ++ (going new ++ []) =
    ap all_going (take_more_set all i new within) ∙ going-append (take i all) (new ∷ []) in
    let now : rotated L (so_far mid) (all_going (drop i all)) ≡ joined (going new) rest =
    ap (λ l. rotated L (so_far mid) (all_going l)) left
    ∙ rotated-step old.progress.ended L old new mid after refl t.same.limits step (all_going others) in
    record {
      stand = one.stand;
      turns = ap (λ l. joined (all_going (take (i + 1) (slice_set all i new))) (rotated L (so_far after) (all_going l))) new-left
          ∙ ap (λ d. joined d rest) new-done
          ∙ ap (λ l. (rest.0, l)) (append_assoc done (going new ++ []) rest.1 ∙ ap (λ l. done ++ (l ++ rest.1)) (append-nil (going new)))
          ∙ ap (λ r. joined done r) (sym now)
          ∙ t.turns;
      told = λ script told. one.told script (t.told script told);
      count = length-set all i new ∙ t.count;
      same = same-more before mid after t.same one.same;
    }

pub turned-all : (n : ℕ) (before : Services) (first : List Equipped) (after : Services) (all : List Equipped) → AreTurned n before first after all → length all ≤ n →
    Rotates before first after all
turned-all n before first after all t through = record {
  stand = t.stand;
  turns = ap (λ l. (so_far after, l)) (sym (append-nil (all_going all)))
      ∙ ap (λ l. (so_far after, all_going l ++ [])) (sym (take_all n all through))
      ∙ ap (λ l. joined (all_going (take n all)) (rotated before.bus.limits (so_far after) (all_going l))) (sym (drop_all n all through))
      ∙ t.turns;
  told = t.told;
  count = t.count;
  same = t.same;
}
