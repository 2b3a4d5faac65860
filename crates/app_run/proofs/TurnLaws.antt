-- What one turn leaves.
use Rattle.std.proofs.Common.{◌≡◌, ℕ, zero, suc, ◌+◌, ◌-◌, ◌≤◌, Bool, true, false, cond, List, [], ◌∷◌, ◌++◌, length, sum_by, drop, Option, Some, None, refl, ap, sym, ◌∙◌, subst, inl, inr, arith, append-nil}
use Rattle.std.specs.Option.{is_some}
use Rattle.sb_calls.specs.Bags.{HasBag}
use Rattle.tbl_load.specs.Bags.{HasBag as HasTableBag}
use Rattle.std.proofs.lemmas.List.{get_or-set_same}
use Rattle.std.proofs.lemmas.List.Sums.{sum_by-cons}
use Rattle.std.specs.List.{slice_get, All}
use Rattle.std.proofs.lemmas.Option.{slice_get_within, get_or_from_slice_get}
use Rattle.std.proofs.lemmas.List.Elements.{All-get_or}
use Rattle.bus_words.specs.Bus.{waited_on}
use Rattle.sb_calls.specs.declared.results.Pended.TheVariants as waits
use Rattle.lend_block.specs.Loan.{LentBytes}
use Rattle.buf_desc.specs.Held.{Holding}
use Rattle.app_calls.specs.Callers.{AnswersLook, HasOwnBag, KeepsTables, LeavesBuffers, FindsRoom, Meets, MayWrite, SameServices, Writes, buffers_asked, pipe_waited_on, written_in}
use Rattle.app_calls.specs.TableCallers.{HasOwnTables, KeepsBus}
use Rattle.app_run.specs.Lines.{IsRun, most_receipts}
use Rattle.app_run.specs.Received.{Remember, RememberHeld, taken_from, taken_by}
use Rattle.app_run.specs.Turns.{IsReady, TakesTurnBy, services_of, with_bags}
use Rattle.app_run.specs.TableLines.{IsRunAtTables, table_line_bytes, table_bytes_due}
use Rattle.app_run.proofs.AskedLaws.{AskedLine, asked-fewer, asked-line, asked-more, given-step}
use Rattle.app_calls.proofs.BufferBytes.{alike-long, alike-none}
use Rattle.app_run.proofs.NewestReceipts.{remember-step, remember-shown}
use Rattle.app_run.proofs.NewestVersions.{remember_held-got, remember_held-shown}
use Rattle.app_run.proofs.OthersLaws.{stands-met, met-limits}
use Rattle.app_run.proofs.MessageReceipts.{taken-told}
use Rattle.std.proofs.lemmas.Bool.{le-leb}
use Rattle.fsw_base.specs.Limits.{Limits}
use Rattle.bus_words.specs.declared.calls.BusAnswer.{BusAnswer}
use Rattle.bus_words.specs.declared.calls.BusAnswer.TheVariants.{Pending, Got, TimeOut}
use Rattle.bus_words.specs.declared.history.Call.{Call}
use Rattle.bus_words.specs.declared.history.Call.TheVariants as calls
use Rattle.bus_words.specs.declared.history.Entry.{Entry}
use Rattle.journal_store.specs.declared.allowance.Allowance.{Allowance}
use Rattle.bus_words.specs.declared.receipts.Receipt.{Receipt}
use Rattle.bus_words.specs.Bus.{State, Standing, Active, Waiting, Ended, opening, standing_of}
use Rattle.bus_words.specs.Entries.{call_bytes}
use Rattle.journal_store.specs.Budgets.{allowances, allowance_of, charged}
use Rattle.bus_words.specs.Log.{left_of}
use Rattle.bus_words.proofs.Journals.{left_from-push, length-left_of}
use Rattle.bus_words.specs.Machine.{IsLegal, may_call}
use Rattle.bus_words.proofs.LegalSteps.{AreWaiters-after, legal-last}
use Rattle.sb_calls.specs.Core.{Core, Does, IsLegalCore, MayCall, apps_of, state_of, is_within}
use Rattle.script_lines.specs.declared.line.Line.{Line}
use Rattle.script_lines.specs.declared.line.Line.TheVariants.{Create, Delete, SetOpts, GetOpts, Find, PipeName, Subscribe, Unsubscribe, Send, SendRaw, Receive, Pend, Allocate, TransmitBuffer, Release, PoolCreate, PoolGet, PoolPut, PoolFigures, Register, SendEvent, ResetFilter, LogMode, ClearLog, Housekeeping, Figures}
use Rattle.script_settings.specs.Accounts.{waits_of, buffers_of, sizes_after}
use Rattle.script_runs.specs.LineCalls.{line_call_of}
use Rattle.script_runs.specs.Messages.{sent_message}
use Rattle.app_script.specs.Ranges.{IsLineInRange}
use Rattle.script_runs.specs.Rotation.{Running, SoFar, after_call, after_look, answer_to, turn, turn_in, active_turn, line_turn, other_turn}
use Rattle.script_runs.specs.Told.{got_in, shown}
use Rattle.script_runs.specs.TableTrace.{table_call_of}
use Rattle.script_runs.specs.Trace.{Registers, call_of, registers_after}
use Rattle.script_runs.specs.Written.{Written, written_after, written_by}
use Rattle.script_runs.proofs.Buffers.{length-sent_message}
use Rattle.std.proofs.Math.Path.{fun_ext}
use Rattle.app_calls.specs.Callers.{Caller}
use Rattle.app_run.specs.Lines.{MayRun, pipe_waited_for, line_bytes, entries_due, bytes_due, AreAsked}
use Rattle.app_run.specs.Runners.{Place, Progress, Equipped, Services, running_of, standing_for}
use Rattle.app_run.specs.Turns.{so_far, Stands, StandsAtBus, StandsAtTables, TakesTurn, tells, tells_in, line_tells, other_tells, active_tells}
use Rattle.tbl_words.specs.declared.history.Call.{Call as TableCall}
use Rattle.tbl_words.specs.declared.history.Entry.{Entry as TableEntry}
use Rattle.tbl_words.specs.Log.{left_of as tables_left_of}
use Rattle.tbl_words.specs.Tables.{State as Tables}
use Rattle.table_blocks.specs.Held.{HeldViews}
use Rattle.tbl_load.specs.Core.{Core as TableCore, state_of as tables_of}
use Rattle.app_run.proofs.Standings.{SettlesLine, is_pending, settles-line, settles-look}

-- Services after a call. --

abbrev pub both : Core → TableCore → Services
both core tables = record { bus = core; tables = tables }

-- all of what was so far
abbrev pub so : List Entry → State → List TableEntry → Tables → SoFar
so history s entries t = record { history = history; state = s; table_history = entries; tables = t }

-- the call's answer, spelled as the machine's
pub does-exact : (before after : Core) (tables : TableCore) (app : ℕ) (call : Call) (answer : BusAnswer) → Does before after app call answer →
    Does before after app call (answer_to before.limits (so_far (both before tables)) app call)
does-exact before after tables app call answer does = subst (λ a. Does before after app call a) does.as_machine does

pub so_far-does : (before after : Core) (tables : TableCore) (app : ℕ) (call : Call) → Does before after app call (answer_to before.limits (so_far (both before tables)) app call) →
    so_far (both after tables) ≡ after_call before.limits (so_far (both before tables)) app call
so_far-does before after tables app call does =
    ap (λ (core : Core). so core.log.entries (state_of after) tables.log.entries (tables_of tables)) does.entry
    ∙ ap (λ s. so (before.log.entries ++ record { app = app; call = call; answer = answer_to before.limits (so_far (both before tables)) app call } ∷ []) s tables.log.entries (tables_of tables)) does.state

-- the receipts of a call are remembered
pub remember-does : (before after : Core) (tables : TableCore) (app : ℕ) (call : Call) (receipts : List Receipt) →
    Does before after app call (answer_to before.limits (so_far (both before tables)) app call) → Remember receipts (state_of before) app →
    Remember (receipts ++ got_in app (state_of after) call (answer_to before.limits (so_far (both before tables)) app call)) (state_of after) app
remember-does before after tables app call receipts does remembers =
    let limits = before.limits in
    let apps = apps_of before in
    let history = before.log.entries in
    let answer = answer_to limits (so_far (both before tables)) app call in
    let e : Entry = record { app = app; call = call; answer = answer } in
    let legal : IsLegal limits apps (history ++ e ∷ []) = subst (λ (core : Core). IsLegalCore core) does.entry does.legal in
    let parts = legal-last limits [] (opening limits apps) history e legal in
    subst (λ s. Remember (receipts ++ got_in app s call answer) s app) (sym does.state)
    (remember-step limits history (state_of before) app call receipts (AreWaiters-after limits apps history parts.0) parts.1 remembers)

-- who isn't ended has a number
pub first-known : (s : State) (app : ℕ) (standing : Standing) → standing_of s app ≡ standing → (standing ≡ Ended → ⊥) → 1 ≤ app
first-known s zero standing is live = absurd (live (sym is))
first-known s (suc app) standing is live = omega arith

pub left-own : (left : List Allowance) (app bytes : ℕ) → 1 ≤ app → app ≤ length left →
    allowance_of (charged left app bytes) app ≡ record { entries = (allowance_of left app).entries - 1; bytes = (allowance_of left app).bytes - bytes }
left-own left app bytes first known = get_or-set_same left (app - 1) _ _ (omega arith)

-- what all may still add after a call
pub left-does : (before after : Core) (app : ℕ) (call : Call) (answer : BusAnswer) → Does before after app call answer →
    left_of after.log ≡ charged (left_of before.log) app (call_bytes call)
left-does before after app call answer does =
    let e : Entry = record { app = app; call = call; answer = answer } in
    ap (λ (core : Core). left_of core.log) does.entry ∙ left_from-push (allowances before.log.budgets) before.log.entries e

-- what an application may still add after its own call
pub own-left : (before after : Core) (app : ℕ) (call : Call) (answer : BusAnswer) → 1 ≤ app → app ≤ apps_of before → Does before after app call answer →
    allowance_of (left_of after.log) app
    ≡ record { entries = (allowance_of (left_of before.log) app).entries - 1; bytes = (allowance_of (left_of before.log) app).bytes - call_bytes call }
own-left before after app call answer first known does =
    ap (λ l. allowance_of l app) (left-does before after app call answer does)
    ∙ left-own (left_of before.log) app (call_bytes call) first (omega (arith, known, length-left_of before.log))

pub apps-does : (before after : Core) (app : ℕ) (call : Call) (answer : BusAnswer) → Does before after app call answer → apps_of after ≡ apps_of before
apps-does before after app call answer does = ap apps_of does.entry

pub limits-does : (before after : Core) (app : ℕ) (call : Call) (answer : BusAnswer) → Does before after app call answer → after.limits ≡ before.limits
limits-does before after app call answer does = ap (λ (core : Core). core.limits) does.entry

-- numbers that were given stay so
pub given-does : (before after : Core) (app : ℕ) (call : Call) (answer : BusAnswer) → Does before after app call answer → (state_of before).numbers_given ≤ (state_of after).numbers_given
given-does before after app call answer does =
    subst (λ (s : State). (state_of before).numbers_given ≤ s.numbers_given) (sym does.state) (given-step before.limits before.log.entries (state_of before) app call)

-- a line that makes no call of the bus asks for no buffer
pub local-sizes : (registers : Registers) (written : Written) (asked : List ℕ) (line : Line) → call_of registers written line ≡ None → sizes_after asked line ≡ asked
unfolding call_of line_call_of sizes_after
local-sizes registers written asked (Allocate buf size) none = absurd (cc none)
local-sizes registers written asked line none = refl

pub active_lives : Active ≡ Ended → ⊥
active_lives h = cc h

waiting_lives : (pipe : ℕ) → Waiting pipe ≡ Ended → ⊥
waiting_lives pipe h = cc h

pub going_lives : (waits_on : Option ℕ) → standing_for waits_on ≡ Ended → ⊥
going_lives None h = cc h
going_lives (Some pipe) h = cc h

-- Standings as progress has them. --

-- an application with these bags
abbrev pub equip : Progress → Holding LentBytes → HeldViews → Equipped
equip progress bag held = record { progress = progress; bag = bag; held = held }

pub standing-going : (one : Equipped) (core : Core) → StandsAtBus one core → one.progress.ended ≡ false →
    standing_of (state_of core) one.progress.running.app ≡ standing_for one.progress.waits_on
standing-going one core stands goes =
    stands.standing ∙ ap (λ b. cond {A = Standing} b Ended (standing_for one.progress.waits_on)) goes

pub entries-going : (one : Equipped) (core : Core) → StandsAtBus one core → one.progress.ended ≡ false →
    entries_due one.progress.running.lines + cond (is_some one.progress.waits_on) 1 0 ≤ (allowance_of (left_of core.log) one.progress.running.app).entries
entries-going one core stands goes =
    subst (λ b. cond b 0 (entries_due one.progress.running.lines + cond (is_some one.progress.waits_on) 1 0) ≤ (allowance_of (left_of core.log) one.progress.running.app).entries)
    goes stands.entries

pub table_entries-going : (one : Equipped) (core : TableCore) → StandsAtTables one core → one.progress.ended ≡ false →
    entries_due one.progress.running.lines + cond (is_some one.progress.waits_on) 1 0 ≤ (allowance_of (tables_left_of core.log) one.progress.running.app).entries
table_entries-going one core stands goes =
    subst (λ b. cond b 0 (entries_due one.progress.running.lines + cond (is_some one.progress.waits_on) 1 0) ≤ (allowance_of (tables_left_of core.log) one.progress.running.app).entries)
    goes stands.entries

-- before a line: what it and those behind it may still add at the tables
pub table_entries-line : (one : Equipped) (core : TableCore) (line : Line) (lines : List Line) → StandsAtTables one core → one.progress.ended ≡ false → one.progress.running.lines ≡ line ∷ lines →
    entries_due (line ∷ lines) ≤ (allowance_of (tables_left_of core.log) one.progress.running.app).entries
table_entries-line one core line lines stands goes next =
    subst (λ ls. entries_due ls ≤ (allowance_of (tables_left_of core.log) one.progress.running.app).entries) next (omega (arith, table_entries-going one core stands goes))

pub table_bytes-line : (one : Equipped) (core : TableCore) (line : Line) (lines : List Line) → StandsAtTables one core → one.progress.running.lines ≡ line ∷ lines →
    table_line_bytes line + table_bytes_due lines ≤ (allowance_of (tables_left_of core.log) one.progress.running.app).bytes
table_bytes-line one core line lines stands next =
    let due = subst (λ ls. table_bytes_due ls ≤ (allowance_of (tables_left_of core.log) one.progress.running.app).bytes) next stands.bytes in
    omega (arith, due, sum_by-cons table_line_bytes line lines)

-- the limits stay
small-does : (before after : Core) (app : ℕ) (call : Call) (answer : BusAnswer) → Does before after app call answer → before.limits.msgmax ≤ 65542 → after.limits.msgmax ≤ 65542
small-does before after app call answer does small = subst (λ (core : Core). core.limits.msgmax ≤ 65542) (sym does.entry) small

abbrev pub the_running : ℕ → List Line → Registers → List ℕ → Written → Running
the_running app lines registers handles written = record { app = app; lines = lines; registers = registers; handles = handles; written = written }

-- what a call leaves in the bag
wrote : (old new : Holding LentBytes) (call : Call) (answer : BusAnswer) → LeavesBuffers old new call answer → written_in new ≡ written_after (written_in old) call answer
wrote old new call answer leaves = fun_ext (λ number. leaves.written number)

-- Looks. --

-- the progress after a look that was answered
abbrev pub looked_on : Progress → List Receipt → Progress
looked_on old receipts = record { running = old.running; waits_on = None; ended = false; receipts = receipts }

-- a look's turn
turn-look : (limits : Limits) (sofar : SoFar) (running : Running) (pipe : ℕ) → standing_of sofar.state running.app ≡ Waiting pipe →
    turn limits sofar running ≡ (after_look limits sofar running.app pipe (answer_to limits sofar running.app (calls.Look pipe)), running ∷ [])
turn-look limits sofar running pipe waits = ap (λ s. turn_in limits sofar running s) waits

looked-after : (limits : Limits) (sofar : SoFar) (app pipe : ℕ) (answer : BusAnswer) → is_pending answer ≡ false →
    after_look limits sofar app pipe answer ≡ after_call limits sofar app (calls.Look pipe)
looked-after limits sofar app pipe Pending told = absurd cc
looked-after limits sofar app pipe answer told = refl

look-exact : (old : Equipped) (bag : Holding LentBytes) (before after : Core) (tables : TableCore) (pipe : ℕ) → Stands old (both before tables) → old.progress.ended ≡ false →
    old.progress.waits_on ≡ Some pipe →
    Does before after old.progress.running.app (calls.Look pipe) (answer_to before.limits (so_far (both before tables)) old.progress.running.app (calls.Look pipe)) →
    LeavesBuffers old.bag bag (calls.Look pipe) (answer_to before.limits (so_far (both before tables)) old.progress.running.app (calls.Look pipe)) →
    is_pending (answer_to before.limits (so_far (both before tables)) old.progress.running.app (calls.Look pipe)) ≡ false →
    TakesTurn old
    (equip (looked_on old.progress (old.progress.receipts
    ++ got_in old.progress.running.app (state_of after) (calls.Look pipe) (answer_to before.limits (so_far (both before tables)) old.progress.running.app (calls.Look pipe)))) bag old.held)
    (both before tables) (both after tables)
look-exact old bag before after tables pipe stands goes waits does leaves told =
    let place = old.progress.running in
    let app = place.app in
    let limits = before.limits in
    let sofar = so_far (both before tables) in
    let answer = answer_to limits sofar app (calls.Look pipe) in
    let at = stands.bus in
    let standing : standing_of (state_of before) app ≡ Waiting pipe = standing-going old before at goes ∙ ap standing_for waits in
    let first = first-known (state_of before) app (Waiting pipe) standing (waiting_lives pipe) in
    let left = own-left before after app (calls.Look pipe) answer first at.known does in
    let turned = turn-look limits sofar (running_of old) pipe standing in
    let same = wrote old.bag bag (calls.Look pipe) answer leaves in
    let due : entries_due place.lines + 1 ≤ (allowance_of (left_of before.log) app).entries =
    subst (λ w. entries_due place.lines + cond (is_some w) 1 0 ≤ (allowance_of (left_of before.log) app).entries) waits (entries-going old before at goes) in
    let due_at_tables = table_entries-going old tables stands.tables goes in
    record {
      services = so_far-does before after tables app (calls.Look pipe) does
          ∙ sym (looked-after limits sofar app pipe answer told)
          ∙ sym (ap (λ (t : SoFar × List Running). t.0) turned);
      goes_on = ap (λ w. the_running app place.lines place.registers place.handles w ∷ []) same ∙ sym (ap (λ (t : SoFar × List Running). t.1) turned);
      receipts = ap (λ s. old.progress.receipts ++ got_in app s (calls.Look pipe) answer)
          (does.state ∙ sym (ap (λ (b : SoFar). b.state) (looked-after limits sofar app pipe answer told)))
          ∙ sym (ap (λ s. old.progress.receipts ++ tells_in limits sofar (running_of old) s) standing);
      same_app = refl;
      begun = refl;
      stands = record {
        bus = record {
          known = subst (λ n. app ≤ n) (sym (apps-does before after app (calls.Look pipe) answer does)) at.known;
          standing = ap (λ s. standing_of s app) does.state ∙ settles-look limits before.log.entries (state_of before) app pipe standing told;
          entries = subst (λ (a : Allowance). entries_due place.lines + 0 ≤ a.entries) (sym left) (omega (arith, due));
          asked = at.asked;
          buffers = subst (λ w. AreAsked place.registers.buffers w (state_of after).numbers_given at.asked) (sym same)
              (asked-more place.registers.buffers at.asked (written_in old.bag) (state_of before).numbers_given (state_of after).numbers_given at.buffers
              (given-does before after app (calls.Look pipe) answer does));
          bytes = subst (λ (a : Allowance). bytes_due at.asked place.lines ≤ a.bytes) (sym left) (omega (arith, at.bytes));
          room = omega (arith, at.room, leaves.count, leaves.room);
          remember = remember-does before after tables app (calls.Look pipe) old.progress.receipts does at.remember;
          small = small-does before after app (calls.Look pipe) answer does at.small;
        };
        tables = record {
          known = stands.tables.known;
          ended = stands.tables.ended ∙ goes;
          entries = omega (arith, due_at_tables);
          bytes = stands.tables.bytes;
          remember = remember_held-got (tables_of tables) (state_of after) app (calls.Look pipe) answer old.progress.receipts stands.tables.remember;
          small = stands.tables.small;
        };
        limits = stands.limits ∙ sym (limits-does before after app (calls.Look pipe) answer does);
      };
      moved = inr (calls.Look pipe, answer, does);
      tables_moved = inl refl;
    }

pub takes-look : (old : Equipped) (new : Progress) (bag : Holding LentBytes) (before after : Core) (tables : TableCore) (pipe : ℕ) (answer : BusAnswer) → Stands old (both before tables) →
    old.progress.ended ≡ false → old.progress.waits_on ≡ Some pipe → Does before after old.progress.running.app (calls.Look pipe) answer → LeavesBuffers old.bag bag (calls.Look pipe) answer →
    is_pending answer ≡ false →
    new ≡ looked_on old.progress (old.progress.receipts ++ got_in old.progress.running.app (state_of after) (calls.Look pipe) answer) →
    TakesTurn old (equip new bag old.held) (both before tables) (both after tables)
takes-look old new bag before after tables pipe answer stands goes waits does leaves told is =
    subst (λ n. TakesTurn old (equip n bag old.held) (both before tables) (both after tables))
    (sym (is ∙ ap (λ a. looked_on old.progress (old.progress.receipts ++ got_in old.progress.running.app (state_of after) (calls.Look pipe) a)) does.as_machine))
    (look-exact old bag before after tables pipe stands goes waits (does-exact before after tables old.progress.running.app (calls.Look pipe) answer does)
    (subst (λ a. LeavesBuffers old.bag bag (calls.Look pipe) a) does.as_machine leaves)
    (subst (λ a. is_pending a ≡ false) does.as_machine told))

-- Lines. --

-- what a line's call brings and asks for, and that an active application may make it
pub record Allowed (asked : List ℕ) (line : Line) (call : Call) : Type 0 where
  pub bytes : call_bytes call ≤ line_bytes asked line
  pub within : is_within call ≡ true
  pub active : may_call Active call ≡ true
  pub asks : buffers_asked call ≤ buffers_of line

abbrev pub AllowedLine : List ℕ → Line → Option Call → Type 0
AllowedLine asked line None = Unit {0}
AllowedLine asked line (Some call) = Allowed asked line call

pub allowed-line : (registers : Registers) (written : Written) (given : ℕ) (asked : List ℕ) (line : Line) → AreAsked registers.buffers written given asked → IsLineInRange line →
    AllowedLine asked line (call_of registers written line)
unfolding call_of line_call_of line_bytes buffers_of IsLineInRange
allowed-line registers written given asked (Create pipe depth name) are range = record { bytes = omega arith; within = le-leb (length name) 64 range; active = refl; asks = omega arith }
allowed-line registers written given asked (Delete pipe) are range = record { bytes = omega arith; within = refl; active = refl; asks = omega arith }
allowed-line registers written given asked (SetOpts pipe bits) are range = record { bytes = omega arith; within = refl; active = refl; asks = omega arith }
allowed-line registers written given asked (GetOpts pipe) are range = record { bytes = omega arith; within = refl; active = refl; asks = omega arith }
allowed-line registers written given asked (Find pipe name) are range = record { bytes = omega arith; within = le-leb (length name) 64 range; active = refl; asks = omega arith }
allowed-line registers written given asked (PipeName pipe) are range = record { bytes = omega arith; within = refl; active = refl; asks = omega arith }
allowed-line registers written given asked (Subscribe id pipe limit scope) are range = record { bytes = omega arith; within = refl; active = refl; asks = omega arith }
allowed-line registers written given asked (Unsubscribe id pipe) are range = record { bytes = omega arith; within = refl; active = refl; asks = omega arith }
allowed-line registers written given asked (Send id size fill inc) are range =
    let long = length-sent_message id size fill range.0 in
    record {
      bytes = omega (arith, long);
      within = le-leb (length (sent_message id size fill)) 65542 (omega (arith, long, range.1));
      active = refl;
      asks = omega arith;
    }
allowed-line registers written given asked (SendRaw bytes inc) are range = record { bytes = omega arith; within = le-leb (length bytes) 65542 range; active = refl; asks = omega arith }
allowed-line registers written given asked (Receive pipe) are range = record { bytes = omega arith; within = refl; active = refl; asks = omega arith }
allowed-line registers written given asked (Pend pipe) are range = record { bytes = omega arith; within = refl; active = refl; asks = omega arith }
allowed-line registers written given asked (Allocate buf size) are range = record { bytes = omega arith; within = refl; active = refl; asks = omega arith }
allowed-line registers written given asked (TransmitBuffer buf inc) are range = record { bytes = are.sizes buf; within = refl; active = refl; asks = omega arith }
allowed-line registers written given asked (Release buf) are range = record { bytes = omega arith; within = refl; active = refl; asks = omega arith }
allowed-line registers written given asked (PoolCreate pool bytes) are range = record { bytes = omega arith; within = refl; active = refl; asks = omega arith }
allowed-line registers written given asked (PoolGet grant pool size) are range = record { bytes = omega arith; within = refl; active = refl; asks = omega arith }
allowed-line registers written given asked (PoolPut pool grant) are range = record { bytes = omega arith; within = refl; active = refl; asks = omega arith }
allowed-line registers written given asked (PoolFigures pool) are range = record { bytes = omega arith; within = refl; active = refl; asks = omega arith }
allowed-line registers written given asked (Register filters) are range = record { bytes = omega arith; within = refl; active = refl; asks = omega arith }
allowed-line registers written given asked (SendEvent id kind text) are range = record { bytes = omega arith; within = le-leb (length text) 200 range; active = refl; asks = omega arith }
allowed-line registers written given asked (ResetFilter id) are range = record { bytes = omega arith; within = refl; active = refl; asks = omega arith }
allowed-line registers written given asked (LogMode mode) are range = record { bytes = omega arith; within = le-leb mode 1 range; active = refl; asks = omega arith }
allowed-line registers written given asked ClearLog are range = record { bytes = omega arith; within = refl; active = refl; asks = omega arith }
allowed-line registers written given asked Housekeeping are range = record { bytes = omega arith; within = refl; active = refl; asks = omega arith }
allowed-line registers written given asked Figures are range = record { bytes = omega arith; within = refl; active = refl; asks = omega arith }
allowed-line registers written given asked line are range = tt

-- a bag that has room for what is asked for
finds-room : (bag : Holding LentBytes) (call : Call) (more : ℕ) → buffers_asked call ≤ more → length bag.buffers + more ≤ bag.buffer_room → FindsRoom bag call
finds-room bag (calls.Allocate size) more asks room = omega (arith, asks, room)
finds-room bag call more asks room = tt

-- the application may run its next line
pub may-run : (progress : Progress) (caller : Caller) (line : Line) (lines : List Line) (o : Option Call) (may : IsReady progress caller) →
    progress.waits_on ≡ None → progress.running.lines ≡ line ∷ lines → AllowedLine may.stands.bus.asked line o → MayRun caller o
may-run progress caller line lines None may active next allowed = tt
may-run progress caller line lines (Some call) may active next allowed =
    let stands = may.stands.bus in
    let goes = may.goes_on in
    let app = progress.running.app in
    let core = caller.core in
    let due = subst (λ ls. entries_due ls + cond (is_some progress.waits_on) 1 0 ≤ (allowance_of (left_of core.log) app).entries) next (entries-going (with_bags progress caller) core stands goes) in
    let bytes = subst (λ ls. bytes_due stands.asked ls ≤ (allowance_of (left_of core.log) app).bytes) next stands.bytes in
    let room = subst (λ ls. length caller.bag.buffers + sum_by buffers_of ls ≤ caller.bag.buffer_room) next stands.room in
    record {
      may = subst (λ a. MayCall core a call) (sym may.own) (record {
        known = stands.known;
        standing = ap (λ s. may_call s call) (standing-going (with_bags progress caller) core stands goes ∙ ap standing_for active) ∙ allowed.active;
        room = record {
          known = omega (arith, stands.known, length-left_of core.log);
          one_entry = omega (arith, due);
          its_bytes = omega (arith, bytes, allowed.bytes);
        };
        within = allowed.within;
      });
      bag = may.bag;
      room = finds-room caller.bag call (buffers_of line) allowed.asks (omega (arith, room, sum_by-cons buffers_of line lines));
    }

-- a progress of these parts
abbrev pub the_progress : Place → Option ℕ → Bool → List Receipt → Progress
the_progress running waits_on ended receipts = record { running = running; waits_on = waits_on; ended = ended; receipts = receipts }

abbrev pub the_place : ℕ → ℕ → List Line → Registers → List ℕ → Place
the_place app begun lines registers handles = record { app = app; begun = begun; lines = lines; registers = registers; handles = handles }

-- the progress behind a line that the bus so answered
abbrev pub behind_line : Progress → Line → List Line → BusAnswer → List Receipt → Progress
behind_line old line lines answer receipts =
    the_progress (the_place old.running.app (old.running.begun + 1) lines (registers_after old.running.registers line answer) old.running.handles)
    (pipe_waited_for old.running.registers line answer) false receipts

-- the progress behind a line that the bus doesn't see, with these registers of handles
abbrev pub behind_other : Progress → List Line → List ℕ → List Receipt → Progress
behind_other old lines handles receipts = the_progress (the_place old.running.app (old.running.begun + 1) lines old.running.registers handles) None false receipts

pub turn-line : (limits : Limits) (sofar : SoFar) (running : Running) (line : Line) (lines : List Line) (o : Option Call) →
    standing_of sofar.state running.app ≡ Active → running.lines ≡ line ∷ lines → call_of running.registers running.written line ≡ o →
    turn limits sofar running ≡ line_turn limits sofar running line lines o
turn-line limits sofar running line lines o active next call =
    ap (λ s. turn_in limits sofar running s) active ∙ ap (λ ls. active_turn limits sofar running ls) next ∙ ap (λ c. line_turn limits sofar running line lines c) call

pub tells-line : (limits : Limits) (sofar : SoFar) (running : Running) (line : Line) (lines : List Line) (o : Option Call) →
    standing_of sofar.state running.app ≡ Active → running.lines ≡ line ∷ lines → call_of running.registers running.written line ≡ o →
    tells limits sofar running ≡ line_tells limits sofar running line o
tells-line limits sofar running line lines o active next call =
    ap (λ s. tells_in limits sofar running s) active ∙ ap (λ ls. active_tells limits sofar running ls) next ∙ ap (λ c. line_tells limits sofar running line c) call

-- the same of a line that the bus doesn't see
pub turn-other : (limits : Limits) (sofar : SoFar) (running : Running) (line : Line) (lines : List Line) (t : Option TableCall) →
    standing_of sofar.state running.app ≡ Active → running.lines ≡ line ∷ lines → call_of running.registers running.written line ≡ None → table_call_of running.handles line ≡ t →
    turn limits sofar running ≡ other_turn limits sofar running line lines t
turn-other limits sofar running line lines t active next none call =
    turn-line limits sofar running line lines None active next none ∙ ap (λ c. other_turn limits sofar running line lines c) call

pub tells-other : (limits : Limits) (sofar : SoFar) (running : Running) (line : Line) (lines : List Line) (t : Option TableCall) →
    standing_of sofar.state running.app ≡ Active → running.lines ≡ line ∷ lines → call_of running.registers running.written line ≡ None → table_call_of running.handles line ≡ t →
    tells limits sofar running ≡ other_tells limits sofar running line t
tells-other limits sofar running line lines t active next none call =
    tells-line limits sofar running line lines None active next none ∙ ap (λ c. other_tells limits sofar running line c) call

-- a line can wait for one answer more if it waits
waits-few : (registers : Registers) (line : Line) (answer : BusAnswer) → cond (is_some (pipe_waited_for registers line answer)) 1 0 ≤ waits_of line
unfolding pipe_waited_for waits_of
waits-few registers (Pend pipe) Pending = omega arith
waits-few registers (Pend pipe) answer = omega arith
waits-few registers line answer = omega arith

line-exact : (old : Equipped) (bag : Holding LentBytes) (before after : Core) (tables : TableCore) (line : Line) (lines : List Line) (call : Call) (stands : Stands old (both before tables)) →
    old.progress.ended ≡ false → old.progress.waits_on ≡ None → old.progress.running.lines ≡ line ∷ lines →
    call_of old.progress.running.registers (written_in old.bag) line ≡ Some call → Allowed stands.bus.asked line call →
    Does before after old.progress.running.app call (answer_to before.limits (so_far (both before tables)) old.progress.running.app call) →
    LeavesBuffers old.bag bag call (answer_to before.limits (so_far (both before tables)) old.progress.running.app call) →
    TakesTurn old
    (equip (behind_line old.progress line lines (answer_to before.limits (so_far (both before tables)) old.progress.running.app call)
    (old.progress.receipts ++ got_in old.progress.running.app (state_of after) call (answer_to before.limits (so_far (both before tables)) old.progress.running.app call))) bag old.held)
    (both before tables) (both after tables)
line-exact old bag before after tables line lines call stands goes active next calls allowed does leaves =
    let place = old.progress.running in
    let app = place.app in
    let limits = before.limits in
    let sofar = so_far (both before tables) in
    let answer = answer_to limits sofar app call in
    let at = stands.bus in
    let waits_on = pipe_waited_for place.registers line answer in
    let standing : standing_of (state_of before) app ≡ Active = standing-going old before at goes ∙ ap standing_for active in
    let first = first-known (state_of before) app Active standing active_lives in
    let left = own-left before after app call answer first at.known does in
    let turned = turn-line limits sofar (running_of old) line lines (Some call) standing next calls in
    let due = subst (λ ls. entries_due ls + cond (is_some old.progress.waits_on) 1 0 ≤ (allowance_of (left_of before.log) app).entries) next (entries-going old before at goes) in
    let bytes = subst (λ ls. bytes_due at.asked ls ≤ (allowance_of (left_of before.log) app).bytes) next at.bytes in
    let room = subst (λ ls. length old.bag.buffers + sum_by buffers_of ls ≤ old.bag.buffer_room) next at.room in
    let few = waits-few place.registers line answer in
    let same = wrote old.bag bag call answer leaves in
    let settled : SettlesLine limits before.log.entries (state_of before) app place.registers line (Some call) =
    subst (λ o. SettlesLine limits before.log.entries (state_of before) app place.registers line o) calls
    (settles-line limits before.log.entries (state_of before) app place.registers (written_in old.bag) line standing) in
    let asks : AskedLine limits before.log.entries (state_of before) app place.registers (written_in old.bag) at.asked line (Some call) =
    subst (λ o. AskedLine limits before.log.entries (state_of before) app place.registers (written_in old.bag) at.asked line o) calls
    (asked-line limits before.log.entries (state_of before) app place.registers (written_in old.bag) at.asked line at.buffers) in
    let due_at_tables = table_entries-line old tables line lines stands.tables goes next in
    let bytes_at_tables = table_bytes-line old tables line lines stands.tables next in
    record {
      services = so_far-does before after tables app call does ∙ sym (ap (λ (t : SoFar × List Running). t.0) turned);
      goes_on = ap (λ w. the_running app lines (registers_after place.registers line answer) place.handles w ∷ []) same ∙ sym (ap (λ (t : SoFar × List Running). t.1) turned);
      receipts = ap (λ s. old.progress.receipts ++ got_in app s call answer) does.state
          ∙ sym (ap (λ t. old.progress.receipts ++ t) (tells-line limits sofar (running_of old) line lines (Some call) standing next calls));
      same_app = refl;
      begun = omega (arith, ap length next);
      stands = record {
        bus = record {
          known = subst (λ n. app ≤ n) (sym (apps-does before after app call answer does)) at.known;
          standing = ap (λ s. standing_of s app) does.state ∙ settled.standing;
          entries = subst (λ (a : Allowance). entries_due lines + cond (is_some waits_on) 1 0 ≤ a.entries) (sym left)
              (omega (arith, due, few, sum_by-cons waits_of line lines));
          asked = sizes_after at.asked line;
          buffers = subst (λ w. AreAsked (registers_after place.registers line answer).buffers w (state_of after).numbers_given (sizes_after at.asked line)) (sym same)
              (subst (λ (s : State). AreAsked (registers_after place.registers line answer).buffers (written_after (written_in old.bag) call answer) s.numbers_given (sizes_after at.asked line))
              (sym does.state) asks);
          bytes = subst (λ (a : Allowance). bytes_due (sizes_after at.asked line) lines ≤ a.bytes) (sym left) (omega (arith, bytes, allowed.bytes));
          room = omega (arith, room, leaves.count, leaves.room, allowed.asks, sum_by-cons buffers_of line lines);
          remember = remember-does before after tables app call old.progress.receipts does at.remember;
          small = small-does before after app call answer does at.small;
        };
        tables = record {
          known = stands.tables.known;
          ended = stands.tables.ended ∙ goes;
          entries = omega (arith, due_at_tables, few, sum_by-cons waits_of line lines);
          bytes = omega (arith, bytes_at_tables);
          remember = remember_held-got (tables_of tables) (state_of after) app call answer old.progress.receipts stands.tables.remember;
          small = stands.tables.small;
        };
        limits = stands.limits ∙ sym (limits-does before after app call answer does);
      };
      moved = inr (call, answer, does);
      tables_moved = inl refl;
    }

-- a line whose call the bus answered
pub takes-line : (old : Equipped) (new : Progress) (bag : Holding LentBytes) (before after : Core) (tables : TableCore) (line : Line) (lines : List Line) (call : Call) (answer : BusAnswer)
    (stands : Stands old (both before tables)) → old.progress.ended ≡ false → old.progress.waits_on ≡ None → old.progress.running.lines ≡ line ∷ lines →
    call_of old.progress.running.registers (written_in old.bag) line ≡ Some call → Allowed stands.bus.asked line call →
    Does before after old.progress.running.app call answer → LeavesBuffers old.bag bag call answer →
    new ≡ behind_line old.progress line lines answer (old.progress.receipts ++ got_in old.progress.running.app (state_of after) call answer) →
    TakesTurn old (equip new bag old.held) (both before tables) (both after tables)
takes-line old new bag before after tables line lines call answer stands goes active next calls allowed does leaves is =
    subst (λ n. TakesTurn old (equip n bag old.held) (both before tables) (both after tables))
    (sym (is ∙ ap (λ a. behind_line old.progress line lines a (old.progress.receipts ++ got_in old.progress.running.app (state_of after) call a)) does.as_machine))
    (line-exact old bag before after tables line lines call stands goes active next calls allowed (does-exact before after tables old.progress.running.app call answer does)
    (subst (λ a. LeavesBuffers old.bag bag call a) does.as_machine leaves))

-- what a line that the bus doesn't see leaves in the bag
pub record WroteLocal (old : Equipped) (bag : Holding LentBytes) (core : Core) (line : Line) : Type 0 where
  pub written : (number : ℕ) → written_in bag number ≡ written_by (written_in old.bag) old.progress.running.registers.buffers line number
  pub count : length bag.buffers ≡ length old.bag.buffers
  pub room : bag.buffer_room ≡ old.bag.buffer_room
  pub was : HasBag core old.progress.running.app old.bag
  pub is : HasBag core old.progress.running.app bag

-- the bus knows the application behind such a line, if its buffers are no longer than they were
pub stands-other : (old : Equipped) (bag : Holding LentBytes) (held : HeldViews) (core : Core) (line : Line) (lines : List Line) (handles : List ℕ) (receipts : List Receipt) (at : StandsAtBus old core) →
    old.progress.ended ≡ false → old.progress.waits_on ≡ None → old.progress.running.lines ≡ line ∷ lines → call_of old.progress.running.registers (written_in old.bag) line ≡ None →
    AreAsked old.progress.running.registers.buffers (written_in bag) (state_of core).numbers_given at.asked → length bag.buffers ≡ length old.bag.buffers → bag.buffer_room ≡ old.bag.buffer_room →
    Remember receipts (state_of core) old.progress.running.app →
    StandsAtBus (equip (behind_other old.progress lines handles receipts) bag held) core
stands-other old bag held core line lines handles receipts at goes active next none buffers count wide remember =
    let place = old.progress.running in
    let app = place.app in
    let due = subst (λ ls. entries_due ls + cond (is_some old.progress.waits_on) 1 0 ≤ (allowance_of (left_of core.log) app).entries) next (entries-going old core at goes) in
    let bytes = subst (λ ls. bytes_due at.asked ls ≤ (allowance_of (left_of core.log) app).bytes) next at.bytes in
    let room = subst (λ ls. length old.bag.buffers + sum_by buffers_of ls ≤ old.bag.buffer_room) next at.room in
    record {
      known = at.known;
      standing = standing-going old core at goes ∙ ap standing_for active;
      entries = omega (arith, due, sum_by-cons waits_of line lines);
      asked = sizes_after at.asked line;
      buffers = subst (λ asked. AreAsked place.registers.buffers (written_in bag) (state_of core).numbers_given asked) (sym (local-sizes place.registers (written_in old.bag) at.asked line none)) buffers;
      bytes = omega (arith, bytes);
      room = omega (arith, room, count, wide, sum_by-cons buffers_of line lines);
      remember = remember;
      small = at.small;
    }

-- a line that no service sees
pub takes-local : (old : Equipped) (new : Progress) (bag : Holding LentBytes) (core : Core) (tables : TableCore) (line : Line) (lines : List Line) → Stands old (both core tables) →
    old.progress.ended ≡ false → old.progress.waits_on ≡ None → old.progress.running.lines ≡ line ∷ lines → call_of old.progress.running.registers (written_in old.bag) line ≡ None →
    table_call_of old.progress.running.handles line ≡ None → WroteLocal old bag core line →
    new ≡ behind_other old.progress lines old.progress.running.handles (old.progress.receipts
    ++ shown old.progress.running.app (state_of core) (tables_of tables) old.progress.running.registers old.progress.running.handles line) →
    TakesTurn old (equip new bag old.held) (both core tables) (both core tables)
takes-local old new bag core tables line lines stands goes active next none no_table left is =
    let place = old.progress.running in
    let app = place.app in
    let limits = core.limits in
    let sofar = so_far (both core tables) in
    let at = stands.bus in
    let standing : standing_of (state_of core) app ≡ Active = standing-going old core at goes ∙ ap standing_for active in
    let turned = turn-other limits sofar (running_of old) line lines None standing next none no_table in
    let same : written_in bag ≡ written_by (written_in old.bag) place.registers.buffers line = fun_ext (λ number. left.written number) in
    let due_at_tables = table_entries-line old tables line lines stands.tables goes next in
    let bytes_at_tables = table_bytes-line old tables line lines stands.tables next in
    subst (λ n. TakesTurn old (equip n bag old.held) (both core tables) (both core tables)) (sym is) (record {
      services = sym (ap (λ (t : SoFar × List Running). t.0) turned);
      goes_on = ap (λ w. the_running app lines place.registers place.handles w ∷ []) same ∙ sym (ap (λ (t : SoFar × List Running). t.1) turned);
      receipts = sym (ap (λ t. old.progress.receipts ++ t) (tells-other limits sofar (running_of old) line lines None standing next none no_table));
      same_app = refl;
      begun = omega (arith, ap length next);
      stands = record {
        bus = stands-other old bag old.held core line lines place.handles (old.progress.receipts ++ shown app (state_of core) (tables_of tables) place.registers place.handles line) at goes active next none
            (asked-fewer place.registers.buffers at.asked (written_in old.bag) (written_in bag) (state_of core).numbers_given (state_of core).numbers_given at.buffers (omega arith)
            (λ number. alike-long core app number old.bag bag left.was left.is) (alike-none core app 0 old.bag bag left.was left.is at.buffers.none))
            left.count left.room
            (remember-shown (state_of core) (tables_of tables) app place.registers place.handles line old.progress.receipts at.remember);
        tables = record {
          known = stands.tables.known;
          ended = stands.tables.ended ∙ goes;
          entries = omega (arith, due_at_tables, sum_by-cons waits_of line lines);
          bytes = omega (arith, bytes_at_tables);
          remember = remember_held-shown (state_of core) (tables_of tables) app place.registers place.handles line old.progress.receipts stands.tables.remember;
          small = stands.tables.small;
        };
        limits = stands.limits;
      };
      moved = inl refl;
      tables_moved = inl refl;
    })

-- What the code did, as the progress has it. --

-- the pipe that the calls' application waits on
pipe-own : (old : Progress) (before : Caller) (pipe : ℕ) → IsReady old before → old.waits_on ≡ Some pipe → pipe_waited_on before ≡ pipe
pipe-own old before pipe may waits =
    ap (λ app. waited_on (standing_of (state_of before.core) app)) may.own
    ∙ ap waited_on (standing-going (with_bags old before) before.core may.stands.bus may.goes_on ∙ ap standing_for waits)

-- the look's call is the application's, on the pipe that it waits on
looks-own : (old : Progress) (before : Caller) (now after : Core) (pipe : ℕ) (answer : BusAnswer) → IsReady old before → old.waits_on ≡ Some pipe →
    Does now after before.app (calls.Look (pipe_waited_on before)) answer → Does now after old.running.app (calls.Look pipe) answer
looks-own old before now after pipe answer may waits does =
    subst (λ app. Does now after app (calls.Look pipe) answer) may.own
    (subst (λ p. Does now after before.app (calls.Look p) answer) (pipe-own old before pipe may waits) does)

-- and so is what it leaves of the buffers
leaves-own : (old : Progress) (before : Caller) (bag : Holding LentBytes) (pipe : ℕ) (answer : BusAnswer) → IsReady old before → old.waits_on ≡ Some pipe →
    LeavesBuffers before.bag bag (calls.Look (pipe_waited_on before)) answer → LeavesBuffers before.bag bag (calls.Look pipe) answer
leaves-own old before bag pipe answer may waits leaves =
    subst (λ p. LeavesBuffers before.bag bag (calls.Look p) answer) (pipe-own old before pipe may waits) leaves

progress-looked : (p old : Progress) (r told : List Receipt) → p ≡ old → old.ended ≡ false → r ≡ told →
    record { running = p.running; waits_on = None; ended = p.ended; receipts = r } ≡ looked_on old told
progress-looked p old r told is goes same =
    ap (λ (q : Progress). the_progress q.running None q.ended r) is
    ∙ ap (λ e. the_progress old.running None e r) goes
    ∙ ap (λ x. looked_on old x) same

progress-behind : (p old : Progress) (line : Line) (lines : List Line) (answer : BusAnswer) (registers : Registers) (waits_on : Option ℕ) (r told : List Receipt) → p ≡ old → old.ended ≡ false →
    registers ≡ registers_after p.running.registers line answer → waits_on ≡ pipe_waited_for p.running.registers line answer → r ≡ told →
    the_progress (the_place p.running.app (p.running.begun + 1) lines registers p.running.handles) waits_on p.ended r ≡ behind_line old line lines answer told
progress-behind p old line lines answer registers waits_on r told is goes noted waiting same =
    ap (λ x. the_progress (the_place p.running.app (p.running.begun + 1) lines x p.running.handles) waits_on p.ended r) noted
    ∙ ap (λ x. the_progress (the_place p.running.app (p.running.begun + 1) lines (registers_after p.running.registers line answer) p.running.handles) x p.ended r) waiting
    ∙ ap (λ (q : Progress). the_progress (the_place q.running.app (q.running.begun + 1) lines (registers_after q.running.registers line answer) q.running.handles)
    (pipe_waited_for q.running.registers line answer) q.ended r) is
    ∙ ap (λ e. the_progress (the_place old.running.app (old.running.begun + 1) lines (registers_after old.running.registers line answer) old.running.handles)
    (pipe_waited_for old.running.registers line answer) e r) goes
    ∙ ap (λ x. behind_line old line lines answer x) same

pub progress-other : (p old : Progress) (lines : List Line) (handles now : List ℕ) (r told : List Receipt) → p ≡ old → old.ended ≡ false → old.waits_on ≡ None → handles ≡ now → r ≡ told →
    the_progress (the_place p.running.app (p.running.begun + 1) lines p.running.registers handles) p.waits_on p.ended r ≡ behind_other old lines now told
progress-other p old lines handles now r told is goes active noted same =
    ap (λ (q : Progress). the_progress (the_place q.running.app (q.running.begun + 1) lines q.running.registers handles) q.waits_on q.ended r) is
    ∙ ap (λ e. the_progress (the_place old.running.app (old.running.begun + 1) lines old.running.registers handles) old.waits_on e r) goes
    ∙ ap (λ w. the_progress (the_place old.running.app (old.running.begun + 1) lines old.running.registers handles) w false r) active
    ∙ ap (λ h. behind_other old lines h r) noted
    ∙ ap (λ x. behind_other old lines now x) same

-- What is kept. --

-- what holds of the tables and of their bag still does behind a call of the bus
pub tables-kept : (P : TableCore → HeldViews → Type 0) (before after : Caller) → KeepsTables before after → P before.tables before.held → P after.tables after.held
tables-kept P before after keeps holds =
    subst (λ held. P after.tables held) (sym keeps.held) (subst (λ tables. P tables before.held) (sym keeps.tables) holds)

-- and of the bus and its bag behind a call of the tables
pub bus-kept : (P : Core → Holding LentBytes → Type 0) (before after : Caller) → KeepsBus before after → P before.core before.bag → P after.core after.bag
bus-kept P before after keeps holds =
    subst (λ bag. P after.core bag) (sym keeps.bag) (subst (λ core. P core before.bag) (sym keeps.core) holds)

-- the bag of the tables is still the application's
pub held-kept : (before after : Caller) → KeepsTables before after → after.app ≡ before.app → HasOwnTables before → HasOwnTables after
held-kept before after keeps same has =
    subst (λ app. HasTableBag after.tables app after.held) (sym same) (tables-kept (λ tables held. HasTableBag tables before.app held) before after keeps has)

pub bag-kept : (before after : Caller) → KeepsBus before after → after.app ≡ before.app → HasOwnBag before → HasOwnBag after
bag-kept before after keeps same has =
    subst (λ app. HasBag after.core app after.bag) (sym same) (bus-kept (λ core bag. HasBag core before.app bag) before after keeps has)

-- the application has a number
pub number-known : (old : Progress) (before : Caller) → IsReady old before → 1 ≤ old.running.app
number-known old before may =
    first-known (state_of before.core) old.running.app (standing_for old.waits_on) (standing-going (with_bags old before) before.core may.stands.bus may.goes_on) (going_lives old.waits_on)

-- the bus that the calls meet knows the application as the one last seen did
met : (old : Progress) (before : Caller) (now : Core) → IsReady old before → Meets before now → Stands (with_bags old before) (both now before.tables)
met old before now may meets = record {
  bus = stands-met old before now meets may.own (number-known old before may) may.stands.bus;
  tables = may.stands.tables;
  limits = may.stands.limits ∙ sym (met-limits before now meets);
}

-- Looks that were answered. --

-- a look that found a message
pub looked-got : (p old : Progress) (before after : Caller) (pipe n : ℕ) (r : List Receipt) → p ≡ old → IsReady old before → old.waits_on ≡ Some pipe →
    AnswersLook before after (pipe_waited_on before) (waits.Got n) → r ≡ p.receipts ++ taken_from after pipe n →
    TakesTurnBy old (record { running = p.running; waits_on = None; ended = p.ended; receipts = r }) before after
looked-got p old before after pipe n r is may waits answered got =
    let new : Progress = record { running = p.running; waits_on = None; ended = p.ended; receipts = r } in
    let does : Does answered.now after.core old.running.app (calls.Look pipe) (Got n) = looks-own old before answered.now after.core pipe (Got n) may waits answered.does in
    let own : after.app ≡ old.running.app = answered.same.app ∙ may.own in
    record {
      now = both answered.now before.tables;
      meets = answered.meets;
      meets_tables = inl refl;
      turn = tables-kept (λ tables held. TakesTurn (with_bags old before) (equip new after.bag held) (both answered.now before.tables) (both after.core tables)) before after answered.others
          (takes-look (with_bags old before) new after.bag answered.now after.core before.tables pipe (Got n) (met old before answered.now may answered.meets) may.goes_on waits does
          (leaves-own old before after.bag pipe (Got n) may waits answered.buffers) refl
          (progress-looked p old r _ is may.goes_on
          (got
          ∙ ap (λ (q : Progress). q.receipts ++ taken_from after pipe n) is
          ∙ ap (λ t. old.receipts ++ t) (taken-told answered.now after (calls.Look pipe) (Got n) (subst (λ app. Does answered.now after.core app (calls.Look pipe) (Got n)) (sym own) does))
          ∙ ap (λ app. old.receipts ++ got_in app (state_of after.core) (calls.Look pipe) (Got n)) own)));
      bag = answered.bag;
      held = held-kept before after answered.others answered.same.app may.held;
    }

-- a look to which no message can come any more
pub looked-time_out : (p old : Progress) (before after : Caller) (pipe : ℕ) → p ≡ old → IsReady old before → old.waits_on ≡ Some pipe →
    AnswersLook before after (pipe_waited_on before) waits.TimeOut →
    TakesTurnBy old (record { running = p.running; waits_on = None; ended = p.ended; receipts = p.receipts }) before after
looked-time_out p old before after pipe is may waits answered =
    let new : Progress = record { running = p.running; waits_on = None; ended = p.ended; receipts = p.receipts } in
    record {
      now = both answered.now before.tables;
      meets = answered.meets;
      meets_tables = inl refl;
      turn = tables-kept (λ tables held. TakesTurn (with_bags old before) (equip new after.bag held) (both answered.now before.tables) (both after.core tables)) before after answered.others
          (takes-look (with_bags old before) new after.bag answered.now after.core before.tables pipe TimeOut (met old before answered.now may answered.meets) may.goes_on waits
          (looks-own old before answered.now after.core pipe TimeOut may waits answered.does) (leaves-own old before after.bag pipe TimeOut may waits answered.buffers) refl
          (progress-looked p old p.receipts _ is may.goes_on (ap (λ (q : Progress). q.receipts) is ∙ sym (append-nil old.receipts))));
      bag = answered.bag;
      held = held-kept before after answered.others answered.same.app may.held;
    }

-- a look that finds the application still waiting
takes-pending : (old : Equipped) (bag : Holding LentBytes) (now : Core) (tables : TableCore) (pipe : ℕ) → Stands old (both now tables) → old.progress.ended ≡ false → old.progress.waits_on ≡ Some pipe →
    LeavesBuffers old.bag bag (calls.Look pipe) Pending →
    answer_to now.limits (so_far (both now tables)) old.progress.running.app (calls.Look pipe) ≡ Pending → TakesTurn old (equip old.progress bag old.held) (both now tables) (both now tables)
takes-pending old bag now tables pipe stands goes waits leaves pending =
    let place = old.progress.running in
    let app = place.app in
    let limits = now.limits in
    let sofar = so_far (both now tables) in
    let at = stands.bus in
    let standing : standing_of (state_of now) app ≡ Waiting pipe = standing-going old now at goes ∙ ap standing_for waits in
    let turned = turn-look limits sofar (running_of old) pipe standing in
    let same = wrote old.bag bag (calls.Look pipe) Pending leaves in
    record {
      services = sym (ap (λ a. after_look limits sofar app pipe a) pending) ∙ sym (ap (λ (t : SoFar × List Running). t.0) turned);
      goes_on = ap (λ b. cond {A = List Running} b [] (the_running app place.lines place.registers place.handles (written_in bag) ∷ [])) goes
          ∙ ap (λ w. the_running app place.lines place.registers place.handles w ∷ []) same
          ∙ sym (ap (λ (t : SoFar × List Running). t.1) turned);
      receipts = sym (append-nil old.progress.receipts)
          ∙ sym (ap (λ a. old.progress.receipts ++ got_in app (after_look limits sofar app pipe a).state (calls.Look pipe) a) pending)
          ∙ sym (ap (λ s. old.progress.receipts ++ tells_in limits sofar (running_of old) s) standing);
      same_app = refl;
      begun = refl;
      stands = record {
        bus = record {
          known = at.known;
          standing = at.standing;
          entries = at.entries;
          asked = at.asked;
          buffers = subst (λ w. AreAsked place.registers.buffers w (state_of now).numbers_given at.asked) (sym same) at.buffers;
          bytes = at.bytes;
          room = omega (arith, at.room, leaves.count, leaves.room);
          remember = at.remember;
          small = at.small;
        };
        tables = record {
          known = stands.tables.known;
          ended = stands.tables.ended;
          entries = stands.tables.entries;
          bytes = stands.tables.bytes;
          remember = stands.tables.remember;
          small = stands.tables.small;
        };
        limits = stands.limits;
      };
      moved = inl refl;
      tables_moved = inl refl;
    }

pub looked-pending : (old : Progress) (before after : Caller) (pipe : ℕ) → IsReady old before → old.waits_on ≡ Some pipe →
    AnswersLook before after (pipe_waited_on before) waits.Pending → TakesTurnBy old old before after
looked-pending old before after pipe may waits answered =
    let now = answered.now in
    record {
      now = both now before.tables;
      meets = answered.meets;
      meets_tables = inl refl;
      turn = tables-kept (λ tables held. TakesTurn (with_bags old before) (equip old after.bag held) (both now before.tables) (both after.core tables)) before after answered.others
          (subst (λ core. TakesTurn (with_bags old before) (equip old after.bag before.held) (both now before.tables) (both core before.tables)) (sym answered.does.0)
          (takes-pending (with_bags old before) after.bag now before.tables pipe (met old before now may answered.meets) may.goes_on waits
          (leaves-own old before after.bag pipe Pending may waits answered.buffers)
          (sym (ap (λ app. answer_to now.limits (so_far (both now before.tables)) app (calls.Look pipe)) may.own)
          ∙ sym (ap (λ w. answer_to now.limits (so_far (both now before.tables)) before.app (calls.Look w)) (pipe-own old before pipe may waits))
          ∙ answered.does.1)));
      bag = answered.bag;
      held = held-kept before after answered.others answered.same.app may.held;
    }

-- Lines that were run. --

-- the next line
pub drop-next : {X : Type 0} (xs : List X) (i : ℕ) (x : X) → slice_get xs i ≡ Some x → drop i xs ≡ x ∷ drop (suc i) xs
drop-next [] i x there = absurd (cc there)
drop-next (y ∷ xs) zero x there = let e : y ≡ x = cc there in ap (λ z. z ∷ xs) e
drop-next (y ∷ xs) (suc i) x there = drop-next xs i x there

-- what holds of each holds of the one at a place
pub get_at : {X : Type 0} (P : X → Type 0) (xs : List X) (i : ℕ) (x : X) → slice_get xs i ≡ Some x → All P xs → P x
get_at P xs i x there all = subst P (get_or_from_slice_get xs i x x there) (All-get_or P xs i x (slice_get_within xs i x there) all)

-- a line that the bus answered
pub ran-line : (p old : Progress) (before after : Caller) (line : Line) (lines : List Line) (answer : BusAnswer) (registers : Registers) (waits_on : Option ℕ) (r : List Receipt) (o : Option Call) →
    p ≡ old → IsReady old before → old.waits_on ≡ None → p.running.lines ≡ line ∷ lines → IsLineInRange line →
    call_of p.running.registers (written_in before.bag) line ≡ o → IsRun before after o (Some answer) →
    r ≡ p.receipts ++ taken_by after o answer → registers ≡ registers_after p.running.registers line answer →
    waits_on ≡ pipe_waited_for p.running.registers line answer →
    TakesTurnBy old (the_progress (the_place p.running.app (p.running.begun + 1) lines registers p.running.handles) waits_on p.ended r) before after
ran-line p old before after line lines answer registers waits_on r None is may active next range calls run got noted waiting = absurd run
ran-line p old before after line lines answer registers waits_on r (Some call) is may active next range calls run got noted waiting =
    let new : Progress = the_progress (the_place p.running.app (p.running.begun + 1) lines registers p.running.handles) waits_on p.ended r in
    let written = written_in before.bag in
    let calls-old : call_of old.running.registers written line ≡ Some call = subst (λ (q : Progress). call_of q.running.registers written line ≡ Some call) is calls in
    let next-old : old.running.lines ≡ line ∷ lines = subst (λ (q : Progress). q.running.lines ≡ line ∷ lines) is next in
    let does : Does run.now after.core old.running.app call answer = subst (λ app. Does run.now after.core app call answer) may.own run.does in
    let stands = met old before run.now may run.meets in
    let allowed : Allowed stands.bus.asked line call =
    subst (λ o. AllowedLine stands.bus.asked line o) calls-old (allowed-line old.running.registers written (state_of run.now).numbers_given stands.bus.asked line stands.bus.buffers range) in
    let own : after.app ≡ old.running.app = run.same.app ∙ may.own in
    record {
      now = both run.now before.tables;
      meets = run.meets;
      meets_tables = inl refl;
      turn = tables-kept (λ tables held. TakesTurn (with_bags old before) (equip new after.bag held) (both run.now before.tables) (both after.core tables)) before after run.others
          (takes-line (with_bags old before) new after.bag run.now after.core before.tables line lines call answer stands may.goes_on active next-old calls-old allowed does run.buffers
          (progress-behind p old line lines answer registers waits_on r (old.receipts ++ got_in old.running.app (state_of after.core) call answer) is may.goes_on noted waiting
          (got
          ∙ ap (λ (q : Progress). q.receipts ++ taken_by after (Some call) answer) is
          ∙ ap (λ t. old.receipts ++ t) (taken-told run.now after call answer (subst (λ app. Does run.now after.core app call answer) (sym own) does))
          ∙ ap (λ app. old.receipts ++ got_in app (state_of after.core) call answer) own)));
      bag = run.bag;
      held = held-kept before after run.others run.same.app may.held;
    }

-- a line that made no call left the calls as they were
pub run-none : (before after : Caller) (o : Option Call) → IsRun before after o None → after ≡ before
run-none before after None run = run
run-none before after (Some call) run = absurd run

pub table_run-none : (before after : Caller) (t : Option TableCall) → IsRunAtTables before after t None → after ≡ before
table_run-none before after None run = run
table_run-none before after (Some call) run = absurd run

-- and is one that makes none
pub called-none : (before after : Caller) (o : Option Call) → IsRun before after o None → o ≡ None
called-none before after None run = refl
called-none before after (Some call) run = absurd run

pub table_called-none : (before after : Caller) (t : Option TableCall) → IsRunAtTables before after t None → t ≡ None
table_called-none before after None run = refl
table_called-none before after (Some call) run = absurd run

-- what a line that no service sees left in the bag of the calls
wrote-local : (old : Progress) (before after : Caller) (line : Line) → IsReady old before → Writes before after (written_by (written_in before.bag) old.running.registers.buffers line) →
    WroteLocal (with_bags old before) after.bag before.core line
wrote-local old before after line may writes = record {
  written = writes.written;
  count = writes.count;
  room = writes.room;
  was = subst (λ app. HasBag before.core app before.bag) may.own may.bag;
  is = subst (λ core. HasBag core old.running.app after.bag) writes.core (subst (λ app. HasBag after.core app after.bag) (writes.same.app ∙ may.own) writes.bag);
}

-- the application's turn, if its line makes no call, and wrote so
local-exact : (p old : Progress) (before after : Caller) (line : Line) (lines : List Line) (r : List Receipt) →
    p ≡ old → IsReady old before → old.waits_on ≡ None → p.running.lines ≡ line ∷ lines →
    call_of p.running.registers (written_in before.bag) line ≡ None → table_call_of p.running.handles line ≡ None →
    Writes before after (written_by (written_in before.bag) p.running.registers.buffers line) →
    r ≡ p.receipts ++ shown after.app (state_of after.core) (tables_of after.tables) p.running.registers p.running.handles line →
    TakesTurnBy old (the_progress (the_place p.running.app (p.running.begun + 1) lines p.running.registers p.running.handles) p.waits_on p.ended r) before after
local-exact p old before after line lines r is may active next calls no_table writes told =
    let new : Progress = the_progress (the_place p.running.app (p.running.begun + 1) lines p.running.registers p.running.handles) p.waits_on p.ended r in
    let written = written_in before.bag in
    let calls-old : call_of old.running.registers written line ≡ None = subst (λ (q : Progress). call_of q.running.registers written line ≡ None) is calls in
    let tables-old : table_call_of old.running.handles line ≡ None = subst (λ (q : Progress). table_call_of q.running.handles line ≡ None) is no_table in
    let next-old : old.running.lines ≡ line ∷ lines = subst (λ (q : Progress). q.running.lines ≡ line ∷ lines) is next in
    let wrote-old : Writes before after (written_by written old.running.registers.buffers line) =
    subst (λ (q : Progress). Writes before after (written_by written q.running.registers.buffers line)) is writes in
    record {
      now = services_of before;
      meets = inl refl;
      meets_tables = inl refl;
      turn = tables-kept (λ tables held. TakesTurn (with_bags old before) (equip new after.bag held) (services_of before) (both after.core tables)) before after wrote-old.others
          (subst (λ core. TakesTurn (with_bags old before) (equip new after.bag before.held) (services_of before) (both core before.tables)) (sym wrote-old.core)
          (takes-local (with_bags old before) new after.bag before.core before.tables line lines may.stands may.goes_on active next-old calls-old tables-old (wrote-local old before after line may wrote-old)
          (progress-other p old lines p.running.handles old.running.handles r
          (old.receipts ++ shown old.running.app (state_of before.core) (tables_of before.tables) old.running.registers old.running.handles line) is may.goes_on active
          (ap (λ (q : Progress). q.running.handles) is)
          (told
          ∙ ap (λ core. p.receipts ++ shown after.app (state_of core) (tables_of after.tables) p.running.registers p.running.handles line) wrote-old.core
          ∙ ap (λ tables. p.receipts ++ shown after.app (state_of before.core) (tables_of tables) p.running.registers p.running.handles line) wrote-old.others.tables
          ∙ ap (λ app. p.receipts ++ shown app (state_of before.core) (tables_of before.tables) p.running.registers p.running.handles line) (wrote-old.same.app ∙ may.own)
          ∙ ap (λ (q : Progress). q.receipts ++ shown old.running.app (state_of before.core) (tables_of before.tables) q.running.registers q.running.handles line) is))));
      bag = wrote-old.bag;
      held = held-kept before after wrote-old.others wrote-old.same.app may.held;
    }

-- a line that no service sees
pub ran-local : (p old : Progress) (before mid late after : Caller) (line : Line) (lines : List Line) (r : List Receipt) (o : Option Call) (t : Option TableCall) →
    p ≡ old → IsReady old before → old.waits_on ≡ None → p.running.lines ≡ line ∷ lines →
    call_of p.running.registers (written_in before.bag) line ≡ o → IsRun before mid o None →
    table_call_of p.running.handles line ≡ t → IsRunAtTables mid late t None →
    Writes late after (written_by (written_in late.bag) p.running.registers.buffers line) →
    r ≡ p.receipts ++ shown after.app (state_of after.core) (tables_of after.tables) p.running.registers p.running.handles line →
    TakesTurnBy old (the_progress (the_place p.running.app (p.running.begun + 1) lines p.running.registers p.running.handles) p.waits_on p.ended r) before after
ran-local p old before mid late after line lines r o t is may active next calls run table_calls table_run writes told =
    let same : late ≡ before = table_run-none mid late t table_run ∙ run-none before mid o run in
    local-exact p old before after line lines r is may active next (calls ∙ called-none before mid o run) (table_calls ∙ table_called-none mid late t table_run)
    (subst (λ (caller : Caller). Writes caller after (written_by (written_in caller.bag) p.running.registers.buffers line)) same writes) told

-- a line's call leaves the application and its services the same, and the bags its own
pub run-same : (before after : Caller) (o : Option Call) (answer : Option BusAnswer) → IsRun before after o answer → SameServices before after
run-same before after None None run = subst (λ caller. SameServices before caller) (sym run) (record { app = refl; names = refl; alone = refl })
run-same before after None (Some answer) run = absurd run
run-same before after (Some call) None run = absurd run
run-same before after (Some call) (Some answer) run = run.same

pub run-bag : (before after : Caller) (o : Option Call) (answer : Option BusAnswer) → IsRun before after o answer → HasOwnBag before → HasOwnBag after
run-bag before after None None run bag = subst (λ caller. HasOwnBag caller) (sym run) bag
run-bag before after None (Some answer) run bag = absurd run
run-bag before after (Some call) None run bag = absurd run
run-bag before after (Some call) (Some answer) run bag = run.bag

-- behind a line that no service sees the application may write into its buffers
pub run-write : (old : Progress) (before mid late : Caller) (o : Option Call) (t : Option TableCall) → IsReady old before → IsRun before mid o None → IsRunAtTables mid late t None → MayWrite late
run-write old before mid late o t may run table_run =
    subst (λ caller. MayWrite caller) (sym (table_run-none mid late t table_run ∙ run-none before mid o run)) (record { bag = may.bag; small = may.stands.bus.small })

-- what was written leaves them so too
pub wrote-same : (before mid late after : Caller) (o : Option Call) (t : Option TableCall) (written : Written) → IsRun before mid o None → IsRunAtTables mid late t None → Writes late after written →
    SameServices before after
wrote-same before mid late after o t written run table_run writes =
    subst (λ caller. SameServices caller after) (table_run-none mid late t table_run ∙ run-none before mid o run) writes.same

-- the bag of the tables is still the application's
pub wrote-held : (old : Progress) (before mid late after : Caller) (o : Option Call) (t : Option TableCall) (written : Written) → IsReady old before → IsRun before mid o None →
    IsRunAtTables mid late t None → Writes late after written → HasOwnTables after
wrote-held old before mid late after o t written may run table_run writes =
    let same : late ≡ before = table_run-none mid late t table_run ∙ run-none before mid o run in
    held-kept late after writes.others writes.same.app (subst (λ caller. HasOwnTables caller) (sym same) may.held)

-- and no table is larger than it was
pub wrote-small : (old : Progress) (before mid late after : Caller) (o : Option Call) (t : Option TableCall) (written : Written) → IsReady old before → IsRun before mid o None →
    IsRunAtTables mid late t None → Writes late after written → after.tables.limits.tablemax ≤ 65536
wrote-small old before mid late after o t written may run table_run writes =
    let same : late ≡ before = table_run-none mid late t table_run ∙ run-none before mid o run in
    subst (λ (core : TableCore). core.limits.tablemax ≤ 65536) (sym (writes.others.tables ∙ ap (λ (caller : Caller). caller.tables) same)) may.stands.tables.small

-- and the receipts still tell what was received last
pub run-remember : (p old : Progress) (before mid late after : Caller) (o : Option Call) (t : Option TableCall) (written : Written) → p ≡ old → IsReady old before → IsRun before mid o None →
    IsRunAtTables mid late t None → Writes late after written → Remember p.receipts (state_of after.core) after.app
run-remember p old before mid late after o t written is may run table_run writes =
    let same : late ≡ before = table_run-none mid late t table_run ∙ run-none before mid o run in
    subst (λ core. Remember p.receipts (state_of core) after.app) (sym (writes.core ∙ ap (λ (caller : Caller). caller.core) same))
    (subst (λ app. Remember p.receipts (state_of before.core) app) (sym (writes.same.app ∙ ap (λ (caller : Caller). caller.app) same ∙ may.own))
    (subst (λ (q : Progress). Remember q.receipts (state_of before.core) old.running.app) (sym is) may.stands.bus.remember))

-- and which versions are held
pub run-remember_held : (p old : Progress) (before mid late after : Caller) (o : Option Call) (t : Option TableCall) (written : Written) → p ≡ old → IsReady old before → IsRun before mid o None →
    IsRunAtTables mid late t None → Writes late after written → RememberHeld p.receipts (tables_of after.tables) after.app
run-remember_held p old before mid late after o t written is may run table_run writes =
    let same : late ≡ before = table_run-none mid late t table_run ∙ run-none before mid o run in
    subst (λ tables. RememberHeld p.receipts (tables_of tables) after.app) (sym (writes.others.tables ∙ ap (λ (caller : Caller). caller.tables) same))
    (subst (λ app. RememberHeld p.receipts (tables_of before.tables) app) (sym (writes.same.app ∙ ap (λ (caller : Caller). caller.app) same ∙ may.own))
    (subst (λ (q : Progress). RememberHeld q.receipts (tables_of before.tables) old.running.app) (sym is) may.stands.tables.remember))

-- a line that waits got nothing yet
pub waits-or-got : (registers : Registers) (line : Line) (answer : BusAnswer) → cond (is_some (pipe_waited_for registers line answer)) 1 0 + most_receipts answer ≤ 1
unfolding pipe_waited_for
waits-or-got registers (Pend pipe) Pending = omega arith
waits-or-got registers line (Got n) = omega arith
waits-or-got registers line answer = omega arith
