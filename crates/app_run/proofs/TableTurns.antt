-- What one turn leaves in which the application calls the tables: a line that they see, or its end.
use Rattle.std.proofs.Common.{◌≡◌, ℕ, zero, suc, ◌+◌, ◌-◌, ◌≤◌, ◌==◌, ◌&&◌, not, Bool, true, false, cond, List, [], ◌∷◌, ◌++◌, length, slice_index_or, slice_set, Option, Some, None, refl, ap, sym, ◌∙◌, subst, inl, inr, arith, append-nil, nat_le}
use Rattle.std.specs.List.{range_with_len}
use Rattle.std.specs.Option.{option_map_or}
use Rattle.std.proofs.lemmas.Bool.{le-leb}
use Rattle.std.proofs.lemmas.List.{length-map}
use Rattle.std.proofs.lemmas.List.FromFn.{length-range_with_len}
use Rattle.std.proofs.lemmas.List.Sums.{sum_by-cons}
use Rattle.fsw_base.specs.Limits.{Limits}
use Rattle.lend_block.specs.Loan.{LentBytes}
use Rattle.buf_desc.specs.Held.{Holding}
use Rattle.journal_store.specs.declared.allowance.Allowance.{Allowance}
use Rattle.journal_store.specs.Budgets.{allowances, allowance_of, charged}
use Rattle.bus_words.specs.declared.calls.BusAnswer.TheVariants.{Done}
use Rattle.bus_words.specs.declared.history.Call.{Call}
use Rattle.bus_words.specs.declared.history.Call.TheVariants as calls
use Rattle.bus_words.specs.declared.receipts.Receipt.{Receipt}
use Rattle.bus_words.specs.Bus.{Active, Ended, standing_of}
use Rattle.bus_words.specs.Log.{left_of}
use Rattle.bus_words.specs.Machine.{may_call}
use Rattle.bus_words.proofs.Journals.{length-left_of}
use Rattle.sb_calls.specs.Bags.{CalledByOthers}
use Rattle.sb_calls.specs.Core.{Core, Does, MayCall, state_of}
use Rattle.tbl_words.specs.declared.calls.TblAnswer.{TblAnswer}
use Rattle.tbl_words.specs.declared.calls.TblAnswer.TheVariants as answers
use Rattle.tbl_words.specs.declared.history.Call.{Call as TableCall}
use Rattle.tbl_words.specs.declared.history.Call.TheVariants as table_calls
use Rattle.tbl_words.specs.declared.history.Entry.{Entry as TableEntry}
use Rattle.tbl_rules.specs.declared.rules.Rule.{Rule}
use Rattle.tbl_words.specs.declared.statuses.TblStatus.{TblStatus}
use Rattle.tbl_words.specs.Entries.{call_bytes as table_call_bytes}
use Rattle.tbl_words.specs.Log.{left_of as tables_left_of}
use Rattle.tbl_words.specs.Machine.{accept, cause, outcome, step, with_new_handle, with_new_table, with_range, with_staged, with_table_of, with_update, with_validated, with_hold}
use Rattle.tbl_words.specs.Tables.{State as Tables, Staged, Table, has_ended, table_named, table_of, with_handle, with_table}
use Rattle.table_core.specs.Core.{is_range, is_within}
use Rattle.table_blocks.specs.Held.{HeldViews}
use Rattle.tbl_load.specs.Core.{Core as TableCore, Does as TablesDo, MayCall as MayCallCore, apps_of as table_apps_of, state_of as tables_of}
use Rattle.tbl_load.proofs.Journals.{left_from-push, length-left_of as length-tables_left_of}
use Rattle.script_words.specs.declared.content.Content.{Content}
use Rattle.script_words.specs.declared.content.Content.TheVariants.{Hex, Fill}
use Rattle.script_words.specs.Content.{content_len}
use Rattle.script_lines.specs.declared.line.Line.{Line}
use Rattle.script_lines.specs.declared.line.Line.TheVariants.{TableRegister, TableShare, TableUnregister, Stage, Validate, Update, Abort, Load, GetAddress, ReleaseAddress, Status}
use Rattle.script_settings.specs.Accounts.{waits_of}
use Rattle.app_script.specs.Ranges.{IsLineInRange}
use Rattle.script_runs.specs.LineCalls.{line_call_of}
use Rattle.script_runs.specs.Messages.{content_bytes, fill_byte}
use Rattle.script_runs.specs.Rotation.{Running, SoFar, after_call, after_table_call, table_answer_to, turn, turn_in, active_turn}
use Rattle.script_runs.specs.TableTrace.{table_call_of, handles_after}
use Rattle.script_runs.specs.Told.{addressed_in}
use Rattle.script_runs.specs.Trace.{call_of}
use Rattle.script_runs.specs.Written.{bytes_in}
use Rattle.app_calls.specs.Callers.{Answers, Caller, LeavesBuffers, MayCallBus, Meets, SameServices, written_in}
use Rattle.app_calls.specs.TableCallers.{HasEndedAtTables, HasOwnTables, KeepsBus, MayCallTables, MeetsTables, TablesAnswer}
use Rattle.app_run.specs.Lines.{IsRun, bytes_due, entries_due}
use Rattle.app_run.specs.Received.{Remember, RememberHeld, taken_at_tables}
use Rattle.app_run.specs.Runners.{Progress, Equipped, running_of, standing_for}
use Rattle.app_run.specs.TableLines.{IsRunAtTables, MayRunAtTables, most_table_receipts, table_bytes_due, table_line_bytes}
use Rattle.app_run.specs.Turns.{IsReady, Stands, TakesTurn, TakesTurnBy, active_tells, so_far, tells_in, with_bags}
use Rattle.app_run.proofs.AskedLaws.{asked-fewer}
use Rattle.app_run.proofs.NewestReceipts.{remember-addressed}
use Rattle.app_run.proofs.NewestVersions.{remember_held-step}
use Rattle.app_run.proofs.OthersLaws.{stands-met, stands-met_at_tables, met-limits, met-table_limits}
use Rattle.app_run.proofs.Standings.{standing-set}
use Rattle.app_run.proofs.VersionReceipts.{taken-address_told}
use Rattle.app_run.proofs.TurnLaws.{the_running, the_progress, the_place, active_lives, apps-does, bag-kept, behind_other, both, bus-kept, entries-going, equip, first-known, given-does, held-kept, left-own, limits-does, number-known, progress-other, remember-does, run-none, so, so_far-does, standing-going, stands-other, table_bytes-line, table_entries-going, table_entries-line, tables-kept, tells-other, turn-other}

-- Who has ended. --

-- whether a call is an application's last one
abbrev pub ends : TableCall → Bool
ends table_calls.End = true
ends call = false

ended-either : {X : Type 0} (o : Option X) (f : X → Tables) (s : Tables) → ((x : X) → (f x).ended ≡ s.ended) → (option_map_or f o s).ended ≡ s.ended
ended-either None f s same = refl
ended-either (Some x) f s same = same x

ended-table : (s : Tables) (handle : ℕ) (change : Table → Table) → (with_table_of s handle change).ended ≡ s.ended
ended-table s handle change = ended-either (table_of s handle) (λ t. record s { tables = with_table change t.number s.tables }) s (λ t. refl)

ended-register : (limits : Limits) (s : Tables) (app : ℕ) (name : List ℕ) (size option : ℕ) (rules : List Rule) (o : Option Table) →
    (option_map_or {U = TblAnswer × Tables} (λ (t : Table). (answers.Duplicate t.number, s)) o (answers.Number (s.handles_made + 1), with_new_table limits s app name size option rules)).1.ended ≡ s.ended
ended-register limits s app name size option rules None = refl
ended-register limits s app name size option rules (Some t) = refl

ended-accept : (limits : Limits) (s : Tables) (app : ℕ) (call : TableCall) → ends call ≡ false → (accept limits s app call).1.ended ≡ s.ended
ended-accept limits s app (table_calls.Register name size option rules) on = ended-register limits s app name size option rules (table_named s.tables name)
ended-accept limits s app (table_calls.Share name) on = ended-either (table_named s.tables name) (λ t. with_new_handle s app t.number t.loaded) s (λ t. refl)
ended-accept limits s app (table_calls.Unregister handle) on = refl
ended-accept limits s app (table_calls.Stage handle offset bytes) on = ended-table s handle (λ t. with_staged (with_range t.value offset bytes) false t)
ended-accept limits s app (table_calls.Validate handle) on = ended-table s handle with_validated
ended-accept limits s app (table_calls.Update handle) on =
    ended-either (table_of s handle) (λ t. option_map_or (λ (staged : Staged). with_update s staged.value t) t.staged s) s
    (λ t. ended-either t.staged (λ (staged : Staged). with_update s staged.value t) s (λ staged. refl))
ended-accept limits s app (table_calls.Abort handle) on = ended-table s handle (λ t. record t { staged = None })
ended-accept limits s app (table_calls.Load handle offset bytes) on =
    ended-either (table_of s handle) (λ t. with_update s (with_range t.value offset bytes) t) s (λ t. refl)
ended-accept limits s app (table_calls.GetAddress handle) on =
    ended-either (table_of s handle) (λ t. record s { handles = with_handle (with_hold t.version t.value) handle s.handles }) s (λ t. refl)
ended-accept limits s app (table_calls.ReleaseAddress handle) on = refl
ended-accept limits s app (table_calls.Status handle) on = refl
ended-accept limits s app table_calls.End on = absurd (cc on)

ended-outcome : (limits : Limits) (s : Tables) (app : ℕ) (call : TableCall) (why : Option TblStatus) → ends call ≡ false → (outcome limits s app call why).1.ended ≡ s.ended
ended-outcome limits s app call (Some status) on = refl
ended-outcome limits s app call None on = ended-accept limits s app call on

-- a call that isn't the last one ends nobody
pub has_ended-stays : (limits : Limits) (s : Tables) (app who : ℕ) (call : TableCall) → ends call ≡ false → has_ended (step limits s app call).1 who ≡ has_ended s who
has_ended-stays limits s app who call on =
    ap (λ ended. cond {A = Bool} (who == 0) true (slice_index_or ended (who - 1) true)) (ended-outcome limits s app call (cause limits s app call) on)

set_true : (xs : List Bool) (i : ℕ) → slice_index_or (slice_set xs i true) i true ≡ true
set_true [] i = refl
set_true (x ∷ xs) zero = refl
set_true (x ∷ xs) (suc i) = set_true xs i

-- behind its last call the application has ended
pub has_ended-now : (limits : Limits) (s : Tables) (app : ℕ) → has_ended (step limits s app table_calls.End).1 app ≡ true
has_ended-now limits s app =
    elim (app == 0) as (λ b. cond {A = Bool} b true (slice_index_or (slice_set s.ended (app - 1) true) (app - 1) true) ≡ true) [
      | true ↦ refl
      | false ↦ set_true s.ended (app - 1)
    ]

-- Services after a call of the tables. --

pub so_far-table_does : (bus : Core) (before after : TableCore) (app : ℕ) (call : TableCall) (answer : TblAnswer) → TablesDo before after app call answer → before.limits ≡ bus.limits →
    so_far (both bus after) ≡ after_table_call bus.limits (so_far (both bus before)) app call
so_far-table_does bus before after app call answer does same =
    ap (λ (core : TableCore). so bus.log.entries (state_of bus) core.log.entries (tables_of after)) does.entry
    ∙ ap (λ t. so bus.log.entries (state_of bus) (before.log.entries ++ record { app = app; call = call; answer = answer } ∷ []) t) does.state
    ∙ ap (λ a. so bus.log.entries (state_of bus) (before.log.entries ++ record { app = app; call = call; answer = a } ∷ []) (step before.limits (tables_of before) app call).1) does.as_machine
    ∙ ap (λ l. after_table_call l (so_far (both bus before)) app call) same

-- the answer is the machine's under the limits of both services
table-exact : (bus : Core) (before after : TableCore) (app : ℕ) (call : TableCall) (answer : TblAnswer) → TablesDo before after app call answer → before.limits ≡ bus.limits →
    answer ≡ table_answer_to bus.limits (so_far (both bus before)) app call
table-exact bus before after app call answer does same = does.as_machine ∙ ap (λ l. (step l (tables_of before) app call).0) same

-- the receipts of a call are remembered
remember-table_does : (before after : TableCore) (app : ℕ) (call : TableCall) (answer : TblAnswer) (receipts : List Receipt) → TablesDo before after app call answer →
    RememberHeld receipts (tables_of before) app → RememberHeld (receipts ++ addressed_in app (tables_of after) call answer) (tables_of after) app
remember-table_does before after app call answer receipts does remembers =
    let limits = before.limits in
    let now = step limits (tables_of before) app call in
    subst (λ t. RememberHeld (receipts ++ addressed_in app t call answer) t app) (sym does.state)
    (subst (λ a. RememberHeld (receipts ++ addressed_in app now.1 call a) now.1 app) (sym does.as_machine)
    (remember_held-step limits (table_apps_of before) before.log.entries app call receipts remembers))

-- what all may still add after a call
pub left-table_does : (before after : TableCore) (app : ℕ) (call : TableCall) (answer : TblAnswer) → TablesDo before after app call answer →
    tables_left_of after.log ≡ charged (tables_left_of before.log) app (table_call_bytes call)
left-table_does before after app call answer does =
    let e : TableEntry = record { app = app; call = call; answer = answer } in
    ap (λ (core : TableCore). tables_left_of core.log) does.entry ∙ left_from-push (allowances before.log.budgets) before.log.entries e

own-table_left : (before after : TableCore) (app : ℕ) (call : TableCall) (answer : TblAnswer) → 1 ≤ app → app ≤ table_apps_of before → TablesDo before after app call answer →
    allowance_of (tables_left_of after.log) app
    ≡ record { entries = (allowance_of (tables_left_of before.log) app).entries - 1; bytes = (allowance_of (tables_left_of before.log) app).bytes - table_call_bytes call }
own-table_left before after app call answer first known does =
    ap (λ l. allowance_of l app) (left-table_does before after app call answer does)
    ∙ left-own (tables_left_of before.log) app (table_call_bytes call) first (omega (arith, known, length-tables_left_of before.log))

pub table_apps-does : (before after : TableCore) (app : ℕ) (call : TableCall) (answer : TblAnswer) → TablesDo before after app call answer → table_apps_of after ≡ table_apps_of before
table_apps-does before after app call answer does = ap table_apps_of does.entry

pub table_limits-does : (before after : TableCore) (app : ℕ) (call : TableCall) (answer : TblAnswer) → TablesDo before after app call answer → after.limits ≡ before.limits
table_limits-does before after app call answer does = ap (λ (core : TableCore). core.limits) does.entry

small-table_does : (before after : TableCore) (app : ℕ) (call : TableCall) (answer : TblAnswer) → TablesDo before after app call answer → before.limits.tablemax ≤ 65536 → after.limits.tablemax ≤ 65536
small-table_does before after app call answer does small =
    subst (λ (limits : Limits). limits.tablemax ≤ 65536) (sym (table_limits-does before after app call answer does)) small

-- Lines of the tables. --

-- what a line's call brings, and that any application may make it, which hasn't ended then
pub record AllowedTables (line : Line) (call : TableCall) : Type 0 where
  pub bytes : table_call_bytes call ≤ table_line_bytes line
  pub within : is_within call ≡ true
  pub goes_on : ends call ≡ false

abbrev pub AllowedTableLine : Line → Option TableCall → Type 0
AllowedTableLine line None = Unit {0}
AllowedTableLine line (Some call) = AllowedTables line call

length-content : (content : Content) → length (content_bytes content) ≡ content_len content
length-content (Hex bytes) = refl
length-content (Fill len byte) = length-map (range_with_len 0 len) (fill_byte byte) ∙ length-range_with_len 0 len

all_true : (a b c : Bool) → a ≡ true → b ≡ true → c ≡ true → (a && b && c) ≡ true
all_true true true true p q r = refl
all_true true true false p q r = absurd (cc r)
all_true true false c p q r = absurd (cc q)
all_true false b c p q r = absurd (cc p)

load-within : (offset : ℕ) (content : Content) → offset ≤ 65536 → 1 ≤ content_len content → content_len content ≤ 65536 → is_range offset (content_bytes content) ≡ true
load-within offset content near some few =
    let long = length-content content in
    all_true (nat_le offset 65536) (nat_le 1 (length (content_bytes content))) (nat_le (length (content_bytes content)) 65536)
    (le-leb offset 65536 near) (le-leb 1 (length (content_bytes content)) (omega (arith, long, some))) (le-leb (length (content_bytes content)) 65536 (omega (arith, long, few)))

pub allowed-table_line : (handles : List ℕ) (line : Line) → IsLineInRange line → AllowedTableLine line (table_call_of handles line)
unfolding table_call_of line_call_of table_line_bytes IsLineInRange
allowed-table_line handles (TableRegister handle name size option rules) range = record { bytes = omega arith; within = refl; goes_on = refl }
allowed-table_line handles (TableShare handle name) range = record { bytes = omega arith; within = refl; goes_on = refl }
allowed-table_line handles (TableUnregister handle) range = record { bytes = omega arith; within = refl; goes_on = refl }
allowed-table_line handles (Stage handle offset content) range =
    record { bytes = omega (arith, length-content content); within = load-within offset content range.0 range.1 range.2; goes_on = refl }
allowed-table_line handles (Validate handle) range = record { bytes = omega arith; within = refl; goes_on = refl }
allowed-table_line handles (Update handle) range = record { bytes = omega arith; within = refl; goes_on = refl }
allowed-table_line handles (Abort handle) range = record { bytes = omega arith; within = refl; goes_on = refl }
allowed-table_line handles (Load handle offset content) range =
    record { bytes = omega (arith, length-content content); within = load-within offset content range.0 range.1 range.2; goes_on = refl }
allowed-table_line handles (GetAddress handle) range = record { bytes = omega arith; within = refl; goes_on = refl }
allowed-table_line handles (ReleaseAddress handle) range = record { bytes = omega arith; within = refl; goes_on = refl }
allowed-table_line handles (Status handle) range = record { bytes = omega arith; within = refl; goes_on = refl }
allowed-table_line handles line range = tt

-- the application may make a call of the tables, for which it has an entry and the bytes
may-call_tables : (progress : Progress) (caller : Caller) (call : TableCall) → IsReady progress caller →
    1 ≤ (allowance_of (tables_left_of caller.tables.log) progress.running.app).entries →
    table_call_bytes call ≤ (allowance_of (tables_left_of caller.tables.log) progress.running.app).bytes → is_within call ≡ true → MayCallTables caller call
may-call_tables progress caller call may entry bytes within =
    let core = caller.tables in
    let stands = may.stands.tables in
    record {
      may = subst (λ a. MayCallCore core a call) (sym may.own) (record {
        known = stands.known;
        standing = ap not (stands.ended ∙ may.goes_on);
        room = record { known = omega (arith, stands.known, length-tables_left_of core.log); one_entry = entry; its_bytes = bytes };
        within = within;
      });
      bag = may.held;
    }

-- the application may run its next line at the tables, once it made no call of the bus
pub may-run_tables : (progress : Progress) (caller mid : Caller) (line : Line) (lines : List Line) (o : Option Call) (t : Option TableCall) → IsReady progress caller →
    progress.running.lines ≡ line ∷ lines → IsRun caller mid o None → AllowedTableLine line t → MayRunAtTables mid t
may-run_tables progress caller mid line lines o None may next run allowed = tt
may-run_tables progress caller mid line lines o (Some call) may next run allowed =
    let due = table_entries-line (with_bags progress caller) caller.tables line lines may.stands.tables may.goes_on next in
    let bytes = table_bytes-line (with_bags progress caller) caller.tables line lines may.stands.tables next in
    subst (λ (c : Caller). MayCallTables c call) (sym (run-none caller mid o run))
    (may-call_tables progress caller call may (omega (arith, due)) (omega (arith, bytes, allowed.bytes)) allowed.within)

-- a line whose call the tables answered
takes-table_line : (old : Equipped) (new : Progress) (held : HeldViews) (bus : Core) (before after : TableCore) (line : Line) (lines : List Line) (call : TableCall) (answer : TblAnswer) →
    Stands old (both bus before) → old.progress.ended ≡ false → old.progress.waits_on ≡ None → old.progress.running.lines ≡ line ∷ lines →
    call_of old.progress.running.registers (written_in old.bag) line ≡ None → table_call_of old.progress.running.handles line ≡ Some call → AllowedTables line call →
    TablesDo before after old.progress.running.app call answer →
    new ≡ behind_other old.progress lines (handles_after old.progress.running.handles line answer)
    (old.progress.receipts ++ addressed_in old.progress.running.app (tables_of after) call answer) →
    TakesTurn old (equip new old.bag held) (both bus before) (both bus after)
takes-table_line old new held bus before after line lines call answer stands goes active next none calls allowed does is =
    let place = old.progress.running in
    let app = place.app in
    let limits = bus.limits in
    let sofar = so_far (both bus before) in
    let at = stands.bus in
    let receipts = old.progress.receipts ++ addressed_in app (tables_of after) call answer in
    let standing : standing_of (state_of bus) app ≡ Active = standing-going old bus at goes ∙ ap standing_for active in
    let first = first-known (state_of bus) app Active standing active_lives in
    let left = own-table_left before after app call answer first stands.tables.known does in
    let turned = turn-other limits sofar (running_of old) line lines (Some call) standing next none calls in
    let told = tells-other limits sofar (running_of old) line lines (Some call) standing next none calls in
    let exact = table-exact bus before after app call answer does stands.limits in
    let now = so_far-table_does bus before after app call answer does stands.limits in
    let due = table_entries-line old before line lines stands.tables goes next in
    let bytes = table_bytes-line old before line lines stands.tables next in
    subst (λ n. TakesTurn old (equip n old.bag held) (both bus before) (both bus after)) (sym is) (record {
      services = now ∙ sym (ap (λ (t : SoFar × List Running). t.0) turned);
      goes_on = ap (λ a. the_running app lines place.registers (handles_after place.handles line a) (written_in old.bag) ∷ []) exact ∙ sym (ap (λ (t : SoFar × List Running). t.1) turned);
      receipts = ap (λ (b : SoFar). old.progress.receipts ++ addressed_in app b.tables call answer) now
          ∙ ap (λ a. old.progress.receipts ++ addressed_in app (after_table_call limits sofar app call).tables call a) exact
          ∙ sym (ap (λ t. old.progress.receipts ++ t) told);
      same_app = refl;
      begun = omega (arith, ap length next);
      stands = record {
        bus = stands-other old old.bag held bus line lines (handles_after place.handles line answer) receipts at goes active next none at.buffers refl refl
            (remember-addressed (state_of bus) (tables_of after) app call answer old.progress.receipts at.remember);
        tables = record {
          known = subst (λ n. app ≤ n) (sym (table_apps-does before after app call answer does)) stands.tables.known;
          ended = ap (λ t. has_ended t app) does.state ∙ has_ended-stays before.limits (tables_of before) app app call allowed.goes_on ∙ stands.tables.ended ∙ goes;
          entries = subst (λ (a : Allowance). entries_due lines + 0 ≤ a.entries) (sym left) (omega (arith, due, sum_by-cons waits_of line lines));
          bytes = subst (λ (a : Allowance). table_bytes_due lines ≤ a.bytes) (sym left) (omega (arith, bytes, allowed.bytes));
          remember = remember-table_does before after app call answer old.progress.receipts does stands.tables.remember;
          small = small-table_does before after app call answer does stands.tables.small;
        };
        limits = table_limits-does before after app call answer does ∙ stands.limits;
      };
      moved = inl refl;
      tables_moved = inr (call, answer, does);
    })

-- the tables that the calls meet know the application as those last seen did
met-tables : (old : Progress) (before : Caller) (now : TableCore) → IsReady old before → MeetsTables before now → Stands (with_bags old before) (both before.core now)
met-tables old before now may meets = record {
  bus = may.stands.bus;
  tables = stands-met_at_tables old before now meets may.own (number-known old before may) may.stands.tables;
  limits = met-table_limits before now meets ∙ may.stands.limits;
}

-- the application's turn, if the tables answered its line
table_line-exact : (p old : Progress) (before after : Caller) (line : Line) (lines : List Line) (answer : TblAnswer) (handles : List ℕ) (r : List Receipt) (call : TableCall) →
    p ≡ old → IsReady old before → old.waits_on ≡ None → p.running.lines ≡ line ∷ lines → IsLineInRange line →
    call_of p.running.registers (written_in before.bag) line ≡ None → table_call_of p.running.handles line ≡ Some call → TablesAnswer before after call answer →
    r ≡ p.receipts ++ taken_at_tables after (Some call) answer → handles ≡ handles_after p.running.handles line answer →
    TakesTurnBy old (the_progress (the_place p.running.app (p.running.begun + 1) lines p.running.registers handles) p.waits_on p.ended r) before after
table_line-exact p old before after line lines answer handles r call is may active next range none calls answered got noted =
    let new : Progress = the_progress (the_place p.running.app (p.running.begun + 1) lines p.running.registers handles) p.waits_on p.ended r in
    let written = written_in before.bag in
    let none-old : call_of old.running.registers written line ≡ None = subst (λ (q : Progress). call_of q.running.registers written line ≡ None) is none in
    let calls-old : table_call_of old.running.handles line ≡ Some call = subst (λ (q : Progress). table_call_of q.running.handles line ≡ Some call) is calls in
    let next-old : old.running.lines ≡ line ∷ lines = subst (λ (q : Progress). q.running.lines ≡ line ∷ lines) is next in
    let does : TablesDo answered.now after.tables old.running.app call answer = subst (λ app. TablesDo answered.now after.tables app call answer) may.own answered.does in
    let allowed : AllowedTables line call = subst (λ o. AllowedTableLine line o) calls-old (allowed-table_line old.running.handles line range) in
    let own : after.app ≡ old.running.app = answered.same.app ∙ may.own in
    record {
      now = both before.core answered.now;
      meets = inl refl;
      meets_tables = answered.meets;
      turn = bus-kept (λ core bag. TakesTurn (with_bags old before) (equip new bag after.held) (both before.core answered.now) (both core after.tables)) before after answered.others
          (takes-table_line (with_bags old before) new after.held before.core answered.now after.tables line lines call answer (met-tables old before answered.now may answered.meets) may.goes_on active
          next-old none-old calls-old allowed does
          (progress-other p old lines handles (handles_after old.running.handles line answer) r (old.receipts ++ addressed_in old.running.app (tables_of after.tables) call answer) is may.goes_on active
          (noted ∙ ap (λ (q : Progress). handles_after q.running.handles line answer) is)
          (got
          ∙ ap (λ (q : Progress). q.receipts ++ taken_at_tables after (Some call) answer) is
          ∙ ap (λ t. old.receipts ++ t) (taken-address_told answered.now after call answer (subst (λ app. TablesDo answered.now after.tables app call answer) (sym own) does))
          ∙ ap (λ app. old.receipts ++ addressed_in app (tables_of after.tables) call answer) own)));
      bag = bag-kept before after answered.others answered.same.app may.bag;
      held = answered.bag;
    }

-- a line that the tables answered, once it made no call of the bus
pub ran-table_line : (p old : Progress) (before mid after : Caller) (line : Line) (lines : List Line) (answer : TblAnswer) (handles : List ℕ) (r : List Receipt) (o : Option Call) (t : Option TableCall) →
    p ≡ old → IsReady old before → old.waits_on ≡ None → p.running.lines ≡ line ∷ lines → IsLineInRange line →
    call_of p.running.registers (written_in before.bag) line ≡ o → IsRun before mid o None →
    table_call_of p.running.handles line ≡ t → IsRunAtTables mid after t (Some answer) →
    r ≡ p.receipts ++ taken_at_tables after t answer → handles ≡ handles_after p.running.handles line answer →
    TakesTurnBy old (the_progress (the_place p.running.app (p.running.begun + 1) lines p.running.registers handles) p.waits_on p.ended r) before after
ran-table_line p old before mid after line lines answer handles r (Some call) t is may active next range calls run table_calls table_run got noted = absurd run
ran-table_line p old before mid after line lines answer handles r None None is may active next range calls run table_calls table_run got noted = absurd table_run
ran-table_line p old before mid after line lines answer handles r None (Some call) is may active next range calls run table_calls table_run got noted =
    table_line-exact p old before after line lines answer handles r call is may active next range calls table_calls
    (subst (λ (caller : Caller). TablesAnswer caller after call answer) run table_run) got noted

-- what such a line's call leaves
pub table_run-same : (before mid after : Caller) (o : Option Call) (t : Option TableCall) (answer : TblAnswer) → IsRun before mid o None → IsRunAtTables mid after t (Some answer) →
    SameServices before after
table_run-same before mid after o None answer run table_run = absurd table_run
table_run-same before mid after o (Some call) answer run table_run = subst (λ (caller : Caller). SameServices caller after) (run-none before mid o run) table_run.same

pub table_run-held : (mid after : Caller) (t : Option TableCall) (answer : TblAnswer) → IsRunAtTables mid after t (Some answer) → HasOwnTables after
table_run-held mid after None answer table_run = absurd table_run
table_run-held mid after (Some call) answer table_run = table_run.bag

-- no table of theirs has more than 65536 bytes
pub table_run-small : (old : Progress) (before mid after : Caller) (o : Option Call) (t : Option TableCall) (answer : TblAnswer) → IsReady old before → IsRun before mid o None →
    IsRunAtTables mid after t (Some answer) → after.tables.limits.tablemax ≤ 65536
table_run-small old before mid after o None answer may run table_run = absurd table_run
table_run-small old before mid after o (Some call) answer may run table_run =
    let same : after.tables.limits ≡ before.tables.limits =
    table_limits-does table_run.now after.tables mid.app call answer table_run.does ∙ met-table_limits mid table_run.now table_run.meets
    ∙ ap (λ (caller : Caller). caller.tables.limits) (run-none before mid o run) in
    subst (λ (limits : Limits). limits.tablemax ≤ 65536) (sym same) may.stands.tables.small

pub few-table_receipts : (answer : TblAnswer) → most_table_receipts answer ≤ 1
few-table_receipts (answers.Address told version) = omega arith
few-table_receipts answer = omega arith

-- The end. --

-- the progress once the application has ended
abbrev pub ended_on : Progress → Progress
ended_on old = the_progress old.running old.waits_on true old.receipts

-- the application may end at the tables
pub may-end_tables : (progress : Progress) (caller : Caller) → IsReady progress caller → MayCallTables caller table_calls.End
may-end_tables progress caller may =
    may-call_tables progress caller table_calls.End may (omega (arith, table_entries-going (with_bags progress caller) caller.tables may.stands.tables may.goes_on)) (omega arith) refl

-- and then at the bus
pub may-end : (progress : Progress) (caller mid : Caller) → IsReady progress caller → progress.waits_on ≡ None → TablesAnswer caller mid table_calls.End answers.Done → MayCallBus mid calls.End
may-end progress caller mid may active answered =
    let stands = may.stands.bus in
    let app = progress.running.app in
    let own : mid.app ≡ app = answered.same.app ∙ may.own in
    record {
      may = subst (λ a. MayCall mid.core a calls.End) (sym own)
          (bus-kept (λ core bag. MayCall core app calls.End) caller mid answered.others (record {
            known = stands.known;
            standing = ap (λ s. may_call s calls.End) (standing-going (with_bags progress caller) caller.core stands may.goes_on ∙ ap standing_for active);
            room = record {
              known = omega (arith, stands.known, length-left_of caller.core.log);
              one_entry = omega (arith, entries-going (with_bags progress caller) caller.core stands may.goes_on);
              its_bytes = omega arith;
            };
            within = refl;
          }));
      bag = bag-kept caller mid answered.others answered.same.app may.bag;
      room = tt;
    }

pub ended-tables : (before mid : Caller) → TablesAnswer before mid table_calls.End answers.Done → HasEndedAtTables mid
ended-tables before mid answered =
    ap (λ app. has_ended (tables_of mid.tables) app) answered.same.app
    ∙ ap (λ t. has_ended t before.app) answered.does.state
    ∙ has_ended-now answered.now.limits (tables_of answered.now) before.app

takes-end : (old : Equipped) (bag : Holding LentBytes) (held : HeldViews) (before after : Core) (tables now : TableCore) → Stands old (both before tables) → old.progress.ended ≡ false →
    old.progress.waits_on ≡ None → old.progress.running.lines ≡ [] → TablesDo tables now old.progress.running.app table_calls.End answers.Done →
    Does before after old.progress.running.app calls.End Done → LeavesBuffers old.bag bag calls.End Done →
    TakesTurn old (equip (ended_on old.progress) bag held) (both before tables) (both after now)
takes-end old bag held before after tables now stands goes active through table_does does leaves =
    let place = old.progress.running in
    let app = place.app in
    let limits = before.limits in
    let sofar = so_far (both before tables) in
    let at = stands.bus in
    let standing : standing_of (state_of before) app ≡ Active = standing-going old before at goes ∙ ap standing_for active in
    let turned : turn limits sofar (running_of old) ≡ active_turn limits sofar (running_of old) [] =
    ap (λ s. turn_in limits sofar (running_of old) s) standing ∙ ap (λ ls. active_turn limits sofar (running_of old) ls) through in
    record {
      services = so_far-does before after now app calls.End does
          ∙ ap (λ s. after_call limits s app calls.End) (so_far-table_does before tables now app table_calls.End answers.Done table_does stands.limits)
          ∙ sym (ap (λ (t : SoFar × List Running). t.0) turned);
      goes_on = sym (ap (λ (t : SoFar × List Running). t.1) turned);
      receipts = sym (append-nil old.progress.receipts)
          ∙ sym (ap (λ t. old.progress.receipts ++ t) (ap (λ s. tells_in limits sofar (running_of old) s) standing
          ∙ ap (λ ls. active_tells limits sofar (running_of old) ls) through));
      same_app = refl;
      begun = refl;
      stands = record {
        bus = record {
          known = subst (λ n. app ≤ n) (sym (apps-does before after app calls.End Done does)) at.known;
          standing = ap (λ s. standing_of s app) does.state
              ∙ standing-set (state_of before) (state_of before) app Active Ended refl standing active_lives;
          entries = omega arith;
          asked = at.asked;
          buffers = asked-fewer place.registers.buffers at.asked (written_in old.bag) (written_in bag) (state_of before).numbers_given (state_of after).numbers_given at.buffers
              (given-does before after app calls.End Done does)
              (λ number. subst (λ found. length (option_map_or (λ bytes. bytes) found []) ≤ length (bytes_in (written_in old.bag) number)) (sym (leaves.written number)) (omega arith))
              (leaves.written 0);
          bytes = subst (λ ls. bytes_due at.asked ls ≤ (allowance_of (left_of after.log) app).bytes) (sym through) (omega arith);
          room = omega (arith, at.room, leaves.count, leaves.room);
          remember = subst (λ rs. Remember rs (state_of after) app) (append-nil old.progress.receipts) (remember-does before after now app calls.End old.progress.receipts does at.remember);
          small = subst (λ (core : Core). core.limits.msgmax ≤ 65542) (sym does.entry) at.small;
        };
        tables = record {
          known = subst (λ n. app ≤ n) (sym (table_apps-does tables now app table_calls.End answers.Done table_does)) stands.tables.known;
          ended = ap (λ t. has_ended t app) table_does.state ∙ has_ended-now tables.limits (tables_of tables) app;
          entries = omega arith;
          bytes = subst (λ ls. table_bytes_due ls ≤ (allowance_of (tables_left_of now.log) app).bytes) (sym through) (omega arith);
          remember = subst (λ rs. RememberHeld rs (tables_of now) app) (append-nil old.progress.receipts)
              (remember-table_does tables now app table_calls.End answers.Done old.progress.receipts table_does stands.tables.remember);
          small = small-table_does tables now app table_calls.End answers.Done table_does stands.tables.small;
        };
        limits = table_limits-does tables now app table_calls.End answers.Done table_does ∙ stands.limits ∙ sym (limits-does before after app calls.End Done does);
      };
      moved = inr (calls.End, Done, does);
      tables_moved = inr (table_calls.End, answers.Done, table_does);
    }

-- the bus that is met behind the end at the tables is one that was met before it
meets-through : (before mid : Caller) (now : Core) → KeepsBus before mid → SameServices before mid → Meets mid now → Meets before now
meets-through before mid now keeps same (inl is) = inl (is ∙ keeps.core)
meets-through before mid now keeps same (inr others) =
    inr (sym same.alone ∙ others.0, subst (λ core. CalledByOthers core now before.app) keeps.core (subst (λ app. CalledByOthers mid.core now app) same.app others.1))

-- both services, as an end meets them
met-both : (old : Progress) (before : Caller) (now : Core) (tables : TableCore) → IsReady old before → Meets before now → MeetsTables before tables → Stands (with_bags old before) (both now tables)
met-both old before now tables may meets meets_tables = record {
  bus = stands-met old before now meets may.own (number-known old before may) may.stands.bus;
  tables = stands-met_at_tables old before tables meets_tables may.own (number-known old before may) may.stands.tables;
  limits = met-table_limits before tables meets_tables ∙ may.stands.limits ∙ sym (met-limits before now meets);
}

-- the application's last calls
pub ran-end : (p old : Progress) (before mid after : Caller) → p ≡ old → IsReady old before → old.waits_on ≡ None → old.running.lines ≡ [] →
    TablesAnswer before mid table_calls.End answers.Done → Answers mid after calls.End Done →
    TakesTurnBy old (the_progress p.running p.waits_on true p.receipts) before after
ran-end p old before mid after is may active through table_answered answered =
    let now = answered.now in
    let meets = meets-through before mid now table_answered.others table_answered.same answered.meets in
    let own : mid.app ≡ old.running.app = table_answered.same.app ∙ may.own in
    let new = ended_on p in
    record {
      now = both now table_answered.now;
      meets = meets;
      meets_tables = table_answered.meets;
      turn = tables-kept (λ tables held. TakesTurn (with_bags old before) (equip new after.bag held) (both now table_answered.now) (both after.core tables)) mid after answered.others
          (subst (λ q. TakesTurn (with_bags old before) (equip (ended_on q) after.bag mid.held) (both now table_answered.now) (both after.core mid.tables)) (sym is)
          (takes-end (with_bags old before) after.bag mid.held now after.core table_answered.now mid.tables (met-both old before now table_answered.now may meets table_answered.meets) may.goes_on active through
          (subst (λ app. TablesDo table_answered.now mid.tables app table_calls.End answers.Done) may.own table_answered.does)
          (subst (λ app. Does now after.core app calls.End Done) own answered.does)
          (subst (λ bag. LeavesBuffers bag after.bag calls.End Done) table_answered.others.bag answered.buffers)));
      bag = answered.bag;
      held = held-kept mid after answered.others answered.same.app table_answered.bag;
    }

-- on the same services, as much alone
pub ended-same : (before mid after : Caller) → TablesAnswer before mid table_calls.End answers.Done → Answers mid after calls.End Done → SameServices before after
ended-same before mid after table_answered answered = record {
  app = answered.same.app ∙ table_answered.same.app;
  names = answered.same.names ∙ table_answered.same.names;
  alone = answered.same.alone ∙ table_answered.same.alone;
}
