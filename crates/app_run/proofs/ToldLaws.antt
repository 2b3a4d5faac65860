-- What a turn tells, and what is then still to be told.
use Rattle.std.proofs.Common.{◌≡◌, ℕ, cond, eq-eqb, ne_eqb, List, [], ◌∷◌, ◌++◌, slice_index, Option, Some, None, unwrap_or, refl, ap, sym, ◌∙◌, subst, append-nil}
use Rattle.std.specs.Option.{is_some, option_map_or}
use Rattle.fsw_base.specs.Limits.{Limits}
use Rattle.bus_words.specs.declared.calls.BusAnswer.{BusAnswer}
use Rattle.bus_words.specs.declared.calls.BusAnswer.TheVariants.{Pending}
use Rattle.bus_words.specs.declared.history.Call.{Call}
use Rattle.bus_words.specs.declared.history.Call.TheVariants as calls
use Rattle.bus_words.specs.declared.history.Entry.{Entry}
use Rattle.bus_words.specs.declared.receipts.Receipt.{Receipt}
use Rattle.bus_words.specs.declared.receipts.Receipt.TheVariants.{Nothing}
use Rattle.bus_words.specs.Bus.{State, Standing, Active, Waiting, Ended, standing_of}
use Rattle.bus_words.specs.Machine.{step}
use Rattle.bus_words.specs.Receipts.{receipt_in}
use Rattle.bus_words.proofs.LegalSteps.{standing-ended}
use Rattle.tbl_words.specs.declared.calls.TblAnswer.{TblAnswer}
use Rattle.tbl_words.specs.declared.history.Call.{Call as TableCall}
use Rattle.tbl_words.specs.declared.history.Call.TheVariants as table_calls
use Rattle.tbl_words.specs.declared.history.Entry.{Entry as TableEntry}
use Rattle.tbl_words.specs.Machine.{step as table_step}
use Rattle.tbl_words.specs.Tables.{State as Tables}
use Rattle.script_lines.specs.declared.line.Line.{Line}
use Rattle.script_lines.specs.declared.line.Line.TheVariants.{ShowPipe, ShowTable}
use Rattle.script_runs.specs.Histories.{Histories}
use Rattle.script_runs.specs.Rotation.{Running, SoFar, after_call, after_end, after_look, after_table_call, answer_to, table_answer_to, turn, turn_in, active_turn, line_turn, other_turn, behind, behind_table}
use Rattle.script_runs.specs.TableTrace.{table_call_of, handles_after}
use Rattle.script_runs.specs.Told.{Seen, TableSeen, Telling, seen_from, table_seen_from, got_in, addressed_in, held_in, receipts_of, table_receipts_of, shown, settled_from, settled_told, seen_told, table_seen_told, other_told, line_told, told}
use Rattle.script_runs.specs.Trace.{Registers, call_of, registers_after}
use Rattle.script_runs.specs.Written.{written_after, written_by}
use Rattle.app_run.specs.Lines.{pipe_waited_for}
use Rattle.app_run.specs.Runners.{standing_for}
use Rattle.app_run.specs.Rounds.{telling_now, told_waiting, told_on, to_come}
use Rattle.app_run.specs.Turns.{tells, tells_in, other_tells, line_tells, active_tells}
use Rattle.app_run.proofs.Standings.{SettlesLine, is_pending, settles-line, settles-look}

-- Entries seen. --

pub seen-own : (limits : Limits) (history : List Entry) (s : State) (app : ℕ) (call : Call) (answer : BusAnswer) (entries : List Entry) →
    let e : Entry = record { app = app; call = call; answer = answer } in
    seen_from limits history s app (e ∷ entries)
    ≡ record { entry = e; after = (step limits history s app call).1 } ∷ seen_from limits (history ++ e ∷ []) (step limits history s app call).1 app entries
seen-own limits history s app call answer entries =
    let e : Entry = record { app = app; call = call; answer = answer } in
    let after = (step limits history s app call).1 in
    let one : Seen = record { entry = e; after = after } in
    ap (λ b. cond {A = List Seen} b (one ∷ []) [] ++ seen_from limits (history ++ e ∷ []) after app entries) (eq-eqb app app refl)

pub seen-other : (limits : Limits) (history : List Entry) (s : State) (app : ℕ) (e : Entry) (entries : List Entry) → (e.app ≡ app → ⊥) →
    seen_from limits history s app (e ∷ entries) ≡ seen_from limits (history ++ e ∷ []) (step limits history s e.app e.call).1 app entries
seen-other limits history s app e entries other =
    let after = (step limits history s e.app e.call).1 in
    let one : Seen = record { entry = e; after = after } in
    ap (λ b. cond {A = List Seen} b (one ∷ []) [] ++ seen_from limits (history ++ e ∷ []) after app entries) (ne_eqb e.app app other)

-- an entry of the tables that is the application's own
pub table_seen-own : (limits : Limits) (t : Tables) (app : ℕ) (call : TableCall) (answer : TblAnswer) (entries : List TableEntry) →
    let e : TableEntry = record { app = app; call = call; answer = answer } in
    table_seen_from limits t app (e ∷ entries)
    ≡ record { entry = e; after = (table_step limits t app call).1 } ∷ table_seen_from limits (table_step limits t app call).1 app entries
table_seen-own limits t app call answer entries =
    let e : TableEntry = record { app = app; call = call; answer = answer } in
    let after = (table_step limits t app call).1 in
    let one : TableSeen = record { entry = e; after = after } in
    ap (λ b. cond {A = List TableSeen} b (one ∷ []) [] ++ table_seen_from limits after app entries) (eq-eqb app app refl)

pub table_seen-other : (limits : Limits) (t : Tables) (app : ℕ) (e : TableEntry) (entries : List TableEntry) → (e.app ≡ app → ⊥) →
    table_seen_from limits t app (e ∷ entries) ≡ table_seen_from limits (table_step limits t e.app e.call).1 app entries
table_seen-other limits t app e entries other =
    let after = (table_step limits t e.app e.call).1 in
    let one : TableSeen = record { entry = e; after = after } in
    ap (λ b. cond {A = List TableSeen} b (one ∷ []) [] ++ table_seen_from limits after app entries) (ne_eqb e.app app other)

-- A turn of the application itself. --

got-pending : (app : ℕ) (s : State) (call : Call) → got_in app s call Pending ≡ []
got-pending app s (calls.Receive pipe) = refl
got-pending app s (calls.Pend pipe) = refl
got-pending app s (calls.Look pipe) = refl
got-pending app s call = refl

-- what a turn adds to both histories, and that what was to come is what it tells, and what is then to come
pub record TellsOn (limits : Limits) (sofar : SoFar) (running : Running) (after : SoFar) (goes_on : Running) (told : List Receipt) : Type 0 where
  pub added : List Entry
  pub added_at_tables : List TableEntry
  pub history : after.history ≡ sofar.history ++ added
  pub table_history : after.table_history ≡ sofar.table_history ++ added_at_tables
  pub comes : (entries : Histories) →
      to_come limits sofar running (record { bus = added ++ entries.bus; tables = added_at_tables ++ entries.tables }) ≡ told ++ to_come limits after goes_on entries

-- what a line tells, and then the lines behind it
abbrev with_lines : ℕ → List Line → List Receipt × Option Telling → List Receipt
with_lines app lines first = first.0 ++ option_map_or (λ now. told app lines now) first.1 []

-- a line's call of the bus that was so answered
told-answer : (app : ℕ) (line : Line) (lines : List Line) (call : Call) (answer : BusAnswer) (waits : Option ℕ) (at : Telling) (after : State) (others : List Seen) →
    is_pending answer ≡ is_some waits →
    with_lines app lines (seen_told app line call (record { entry = record { app = app; call = call; answer = answer }; after = after } ∷ others) at)
    ≡ got_in app after call answer
    ++ told_on (standing_for waits) app lines
    (record at { registers = registers_after at.registers line answer; written = written_after at.written call answer; state = after; seen = others })
told-answer app line lines call Pending None at after others is = absurd cc
told-answer app line lines call Pending (Some pipe) at after [] is = ap (λ g. g ++ []) (sym (got-pending app after call))
told-answer app line lines call Pending (Some pipe) at after (look ∷ others) is =
    ap (λ g. g ++ (receipts_of app look
    ++ told app lines (record at { registers = registers_after at.registers line Pending; written = written_after at.written call Pending; state = look.after; seen = others })))
    (sym (got-pending app after call))
told-answer app line lines call answer None at after others is = refl
told-answer app line lines call answer (Some pipe) at after others is = absurd cc

-- a look in its turn
tells-look : (limits : Limits) (sofar : SoFar) (running : Running) (pipe : ℕ) (answer : BusAnswer) → answer_to limits sofar running.app (calls.Look pipe) ≡ answer →
    standing_of sofar.state running.app ≡ Waiting pipe →
    TellsOn limits sofar running (after_look limits sofar running.app pipe answer) running
    (got_in running.app (after_look limits sofar running.app pipe answer).state (calls.Look pipe) answer)
tells-look limits sofar running pipe Pending is waits = record {
  added = [];
  added_at_tables = [];
  history = sym (append-nil sofar.history);
  table_history = sym (append-nil sofar.table_history);
  comes = λ entries. refl;
}
tells-look limits sofar running pipe answer is waits =
    let app = running.app in
    let call = calls.Look pipe in
    let s = sofar.state in
    let exact = answer_to limits sofar app call in
    let e : Entry = record { app = app; call = call; answer = exact } in
    let after = (step limits sofar.history s app call).1 in
    let active : standing_of after app ≡ Active = settles-look limits sofar.history s app pipe waits (ap is_pending is) in
    record {
      added = e ∷ [];
      added_at_tables = [];
      history = refl;
      table_history = sym (append-nil sofar.table_history);
      comes = λ entries.
          let at = telling_now limits sofar running (record { bus = e ∷ entries.bus; tables = entries.tables }) in
          let then = telling_now limits (after_call limits sofar app call) running entries in
          ap (λ st. told_on st app running.lines at) waits
          ∙ ap (λ seen. told_waiting app running.lines seen at) (seen-own limits sofar.history s app call exact entries.bus)
          ∙ ap (λ a. got_in app after call a ++ told app running.lines then) is
          ∙ ap (λ st. got_in app after call answer ++ told_on st app running.lines then) (sym active);
    }

-- a line in its turn, that no service sees
tells-local : (limits : Limits) (sofar : SoFar) (running : Running) (line : Line) (lines : List Line) → running.lines ≡ line ∷ lines →
    call_of running.registers running.written line ≡ None → table_call_of running.handles line ≡ None → standing_of sofar.state running.app ≡ Active →
    TellsOn limits sofar running sofar (behind running lines running.registers (written_by running.written running.registers.buffers line))
    (shown running.app sofar.state sofar.tables running.registers running.handles line)
tells-local limits sofar running line lines next none none_at_tables active =
    let app = running.app in
    let local = shown app sofar.state sofar.tables running.registers running.handles line in
    record {
      added = [];
      added_at_tables = [];
      history = sym (append-nil sofar.history);
      table_history = sym (append-nil sofar.table_history);
      comes = λ entries.
          let at = telling_now limits sofar running entries in
          let then = telling_now limits sofar (behind running lines running.registers (written_by running.written running.registers.buffers line)) entries in
          ap (λ st. told_on st app running.lines at) active
          ∙ ap (λ ls. told app ls at) next
          ∙ ap (λ o. with_lines app lines (line_told app line o at)) none
          ∙ ap (λ o. with_lines app lines (other_told app line o at)) none_at_tables
          ∙ ap (λ st. local ++ told_on st app lines then) (sym active);
    }

-- a line in its turn, that makes a call of the tables
tells-table_call : (limits : Limits) (sofar : SoFar) (running : Running) (line : Line) (lines : List Line) (call : TableCall) → running.lines ≡ line ∷ lines →
    call_of running.registers running.written line ≡ None → table_call_of running.handles line ≡ Some call → standing_of sofar.state running.app ≡ Active →
    TellsOn limits sofar running (after_table_call limits sofar running.app call)
    (behind_table running lines (handles_after running.handles line (table_answer_to limits sofar running.app call)))
    (addressed_in running.app (after_table_call limits sofar running.app call).tables call (table_answer_to limits sofar running.app call))
tells-table_call limits sofar running line lines call next none calls active =
    let app = running.app in
    let answer = table_answer_to limits sofar app call in
    let e : TableEntry = record { app = app; call = call; answer = answer } in
    let after = (table_step limits sofar.tables app call).1 in
    record {
      added = [];
      added_at_tables = e ∷ [];
      history = sym (append-nil sofar.history);
      table_history = refl;
      comes = λ entries.
          let at = telling_now limits sofar running (record { bus = entries.bus; tables = e ∷ entries.tables }) in
          let then = telling_now limits (after_table_call limits sofar app call) (behind_table running lines (handles_after running.handles line answer)) entries in
          ap (λ st. told_on st app running.lines at) active
          ∙ ap (λ ls. told app ls at) next
          ∙ ap (λ o. with_lines app lines (line_told app line o at)) none
          ∙ ap (λ o. with_lines app lines (other_told app line o at)) calls
          ∙ ap (λ seen. with_lines app lines (table_seen_told app line seen at)) (table_seen-own limits sofar.tables app call answer entries.tables)
          ∙ ap (λ st. addressed_in app after call answer ++ told_on st app lines then) (sym active);
    }

-- a line in its turn, that makes a call of the bus
tells-call : (limits : Limits) (sofar : SoFar) (running : Running) (line : Line) (lines : List Line) (call : Call) → running.lines ≡ line ∷ lines →
    call_of running.registers running.written line ≡ Some call → standing_of sofar.state running.app ≡ Active →
    TellsOn limits sofar running (after_call limits sofar running.app call)
    (behind running lines (registers_after running.registers line (answer_to limits sofar running.app call))
    (written_after running.written call (answer_to limits sofar running.app call)))
    (got_in running.app (after_call limits sofar running.app call).state call (answer_to limits sofar running.app call))
tells-call limits sofar running line lines call next calls active =
    let app = running.app in
    let s = sofar.state in
    let registers = running.registers in
    let written = running.written in
    let answer = answer_to limits sofar app call in
    let e : Entry = record { app = app; call = call; answer = answer } in
    let after = (step limits sofar.history s app call).1 in
    let waits = pipe_waited_for registers line answer in
    let settled : SettlesLine limits sofar.history s app registers line (Some call) =
    subst (λ o. SettlesLine limits sofar.history s app registers line o) calls (settles-line limits sofar.history s app registers written line active) in
    record {
      added = e ∷ [];
      added_at_tables = [];
      history = refl;
      table_history = sym (append-nil sofar.table_history);
      comes = λ entries.
          let at = telling_now limits sofar running (record { bus = e ∷ entries.bus; tables = entries.tables }) in
          let then = telling_now limits (after_call limits sofar app call) (behind running lines (registers_after registers line answer) (written_after written call answer)) entries in
          let others = seen_from limits (sofar.history ++ e ∷ []) after app entries.bus in
          ap (λ st. told_on st app running.lines at) active
          ∙ ap (λ ls. told app ls at) next
          ∙ ap (λ o. with_lines app lines (line_told app line o at)) calls
          ∙ ap (λ seen. with_lines app lines (seen_told app line call seen at)) (seen-own limits sofar.history s app call answer entries.bus)
          ∙ told-answer app line lines call answer waits at after others settled.pending
          ∙ ap (λ st. got_in app after call answer ++ told_on st app lines then) (sym settled.standing);
    }

-- an end in its turn
tells-end : (limits : Limits) (sofar : SoFar) (running goes_on : Running) → running.lines ≡ [] → standing_of sofar.state running.app ≡ Active → goes_on.app ≡ running.app →
    TellsOn limits sofar running (after_end limits sofar running.app) goes_on []
tells-end limits sofar running goes_on through active same =
    let app = running.app in
    let s = sofar.state in
    let e : Entry = record { app = app; call = calls.End; answer = answer_to limits sofar app calls.End } in
    let f : TableEntry = record { app = app; call = table_calls.End; answer = table_answer_to limits sofar app table_calls.End } in
    let after = (step limits sofar.history s app calls.End).1 in
    record {
      added = e ∷ [];
      added_at_tables = f ∷ [];
      history = refl;
      table_history = refl;
      comes = λ entries.
          let at = telling_now limits sofar running (record { bus = e ∷ entries.bus; tables = f ∷ entries.tables }) in
          let then = telling_now limits (after_end limits sofar app) goes_on entries in
          ap (λ st. told_on st app running.lines at) active
          ∙ ap (λ ls. told app ls at) through
          ∙ ap (λ st. told_on st goes_on.app goes_on.lines then) (sym (ap (λ a. standing_of after a) same ∙ standing-ended s app));
    }

-- The application that goes on after its turn, or what it was, if it ended.
abbrev pub GoesOn : List Running → Running → Running → Type 0
GoesOn [] old new = (new.app ≡ old.app)
GoesOn (running ∷ others) old new = new ≡ running

-- a line in its turn, that the bus doesn't see
tells-other : (limits : Limits) (sofar : SoFar) (running new : Running) (line : Line) (lines : List Line) → running.lines ≡ line ∷ lines →
    call_of running.registers running.written line ≡ None → standing_of sofar.state running.app ≡ Active →
    (c : Option TableCall) → table_call_of running.handles line ≡ c → GoesOn (other_turn limits sofar running line lines c).1 running new →
    TellsOn limits sofar running (other_turn limits sofar running line lines c).0 new (other_tells limits sofar running line c)
tells-other limits sofar running new line lines next none active None is goes =
    subst (λ r. TellsOn limits sofar running sofar r (other_tells limits sofar running line None)) (sym goes)
    (tells-local limits sofar running line lines next none is active)
tells-other limits sofar running new line lines next none active (Some call) is goes =
    subst (λ r. TellsOn limits sofar running (after_table_call limits sofar running.app call) r (other_tells limits sofar running line (Some call))) (sym goes)
    (tells-table_call limits sofar running line lines call next none is active)

tells-active : (limits : Limits) (sofar : SoFar) (running new : Running) (lines : List Line) → running.lines ≡ lines →
    standing_of sofar.state running.app ≡ Active → GoesOn (active_turn limits sofar running lines).1 running new →
    TellsOn limits sofar running (active_turn limits sofar running lines).0 new (active_tells limits sofar running lines)
tells-active limits sofar running new [] through active goes = tells-end limits sofar running new through active goes
tells-active limits sofar running new (line ∷ lines) next active goes =
    by_call (call_of running.registers running.written line) refl goes
  where
    by_call : (c : Option Call) → call_of running.registers running.written line ≡ c → GoesOn (line_turn limits sofar running line lines c).1 running new →
        TellsOn limits sofar running (line_turn limits sofar running line lines c).0 new (line_tells limits sofar running line c)
    by_call None is goes = tells-other limits sofar running new line lines next is active (table_call_of running.handles line) refl goes
    by_call (Some call) is goes =
        subst (λ r. TellsOn limits sofar running (after_call limits sofar running.app call) r (line_tells limits sofar running line (Some call))) (sym goes)
        (tells-call limits sofar running line lines call next is active)

tells-standing : (limits : Limits) (sofar : SoFar) (running new : Running) (standing : Standing) → standing_of sofar.state running.app ≡ standing →
    GoesOn (turn_in limits sofar running standing).1 running new →
    TellsOn limits sofar running (turn_in limits sofar running standing).0 new (tells_in limits sofar running standing)
tells-standing limits sofar running new (Waiting pipe) is goes =
    subst (λ r. TellsOn limits sofar running (turn_in limits sofar running (Waiting pipe)).0 r (tells_in limits sofar running (Waiting pipe))) (sym goes)
    (tells-look limits sofar running pipe (answer_to limits sofar running.app (calls.Look pipe)) refl is)
tells-standing limits sofar running new Active is goes = tells-active limits sofar running new running.lines refl is goes
tells-standing limits sofar running new Ended is goes = record {
  added = [];
  added_at_tables = [];
  history = sym (append-nil sofar.history);
  table_history = sym (append-nil sofar.table_history);
  comes = λ entries.
      ap (λ st. told_on st running.app running.lines (telling_now limits sofar running entries)) is
      ∙ ap (λ st. told_on st new.app new.lines (telling_now limits sofar new entries)) (sym (ap (λ a. standing_of sofar.state a) goes ∙ is));
}

-- a turn tells the first of what is to come
pub tells-turn : (limits : Limits) (sofar : SoFar) (running new : Running) → GoesOn (turn limits sofar running).1 running new →
    TellsOn limits sofar running (turn limits sofar running).0 new (tells limits sofar running)
tells-turn limits sofar running new goes = tells-standing limits sofar running new (standing_of sofar.state running.app) refl goes

-- Turns of others. --

shown-same : (app : ℕ) (s t : State) (u v : Tables) (registers : Registers) (handles : List ℕ) (line : Line) → ((pipe : ℕ) → receipt_in t app pipe ≡ receipt_in s app pipe) →
    ((handle : ℕ) → held_in v app handle ≡ held_in u app handle) →
    shown app t v registers handles line ≡ shown app s u registers handles line
unfolding shown
shown-same app s t u v registers handles (ShowPipe pipe) same held = ap (λ r. unwrap_or r Nothing ∷ []) (same (slice_index registers.pipes pipe))
shown-same app s t u v registers handles (ShowTable handle) same held = ap (λ r. unwrap_or r Nothing ∷ []) (held (slice_index handles handle))
shown-same app s t u v registers handles line same held = refl

-- what the lines tell from there on, if the services tell the same of each pipe and of each handle
abbrev IsToldSame : ℕ → List Line → Type 0
IsToldSame app lines =
    (at : Telling) (t : State) (v : Tables) → ((pipe : ℕ) → receipt_in t app pipe ≡ receipt_in at.state app pipe) → ((handle : ℕ) → held_in v app handle ≡ held_in at.tables app handle) →
    told app lines (record at { state = t; tables = v }) ≡ told app lines at

-- the same behind the entry that settles a call
settled_told-same : (app : ℕ) (lines : List Line) (at : Telling) (t : State) (v : Tables) (seen : List Seen) → IsToldSame app lines →
    ((handle : ℕ) → held_in v app handle ≡ held_in at.tables app handle) →
    with_lines app lines (settled_told app seen (record at { state = t; tables = v })) ≡ with_lines app lines (settled_told app seen at)
settled_told-same app lines at t v [] lines_same held = refl
settled_told-same app lines at t v (last ∷ others) lines_same held =
    ap (λ rest. receipts_of app last ++ rest) (lines_same (record at { state = last.after; seen = others }) last.after v (λ pipe. refl) held)

seen_told-same : (app : ℕ) (line : Line) (lines : List Line) (call : Call) (at : Telling) (t : State) (v : Tables) (seen : List Seen) → IsToldSame app lines →
    ((handle : ℕ) → held_in v app handle ≡ held_in at.tables app handle) →
    with_lines app lines (seen_told app line call seen (record at { state = t; tables = v })) ≡ with_lines app lines (seen_told app line call seen at)
seen_told-same app line lines call at t v [] lines_same held = refl
seen_told-same app line lines call at t v (own ∷ others) lines_same held =
    let answer = own.entry.answer in
    let answered : Telling = record at { registers = registers_after at.registers line answer; written = written_after at.written call answer } in
    settled_told-same app lines answered t v (settled_from answer own others) lines_same held

table_seen_told-same : (app : ℕ) (line : Line) (lines : List Line) (at : Telling) (t : State) (v : Tables) (seen : List TableSeen) → IsToldSame app lines →
    ((pipe : ℕ) → receipt_in t app pipe ≡ receipt_in at.state app pipe) →
    with_lines app lines (table_seen_told app line seen (record at { state = t; tables = v })) ≡ with_lines app lines (table_seen_told app line seen at)
table_seen_told-same app line lines at t v [] lines_same same = refl
table_seen_told-same app line lines at t v (first ∷ others) lines_same same =
    ap (λ rest. table_receipts_of app first ++ rest)
    (lines_same (record at { handles = handles_after at.handles line first.entry.answer; tables = first.after; table_seen = others }) t first.after same (λ handle. refl))

told-same : (app : ℕ) (lines : List Line) → IsToldSame app lines
told-same app [] at t v same held = refl
told-same app (line ∷ lines) at t v same held = by_call (told-same app lines) (call_of at.registers at.written line)
  where
    by_table_call : IsToldSame app lines → (o : Option TableCall) →
        with_lines app lines (other_told app line o (record at { state = t; tables = v })) ≡ with_lines app lines (other_told app line o at)
    by_table_call lines_same None =
        ap (λ local. local ++ told app lines (record at { written = written_by at.written at.registers.buffers line; state = t; tables = v }))
        (shown-same app at.state t at.tables v at.registers at.handles line same held)
        ∙ ap (λ rest. shown app at.state at.tables at.registers at.handles line ++ rest)
        (lines_same (record at { written = written_by at.written at.registers.buffers line }) t v same held)
    by_table_call lines_same (Some call) = table_seen_told-same app line lines at t v at.table_seen lines_same same

    by_call : IsToldSame app lines → (o : Option Call) →
        with_lines app lines (line_told app line o (record at { state = t; tables = v })) ≡ with_lines app lines (line_told app line o at)
    by_call lines_same None = by_table_call lines_same (table_call_of at.handles line)
    by_call lines_same (Some call) = seen_told-same app line lines call at t v at.seen lines_same held

pub told_on-same : (standing : Standing) (app : ℕ) (lines : List Line) (at : Telling) (t : State) → ((pipe : ℕ) → receipt_in t app pipe ≡ receipt_in at.state app pipe) →
    told_on standing app lines (record at { state = t }) ≡ told_on standing app lines at
told_on-same Active app lines at t same = told-same app lines at t at.tables same (λ handle. refl)
told_on-same (Waiting pipe) app lines at t same = by_seen at.seen
  where
    by_seen : (seen : List Seen) → told_waiting app lines seen (record at { state = t }) ≡ told_waiting app lines seen at
    by_seen [] = refl
    by_seen (look ∷ others) = refl
told_on-same Ended app lines at t same = refl

pub told_on-same_tables : (standing : Standing) (app : ℕ) (lines : List Line) (at : Telling) (v : Tables) → ((handle : ℕ) → held_in v app handle ≡ held_in at.tables app handle) →
    told_on standing app lines (record at { tables = v }) ≡ told_on standing app lines at
told_on-same_tables Active app lines at v held = told-same app lines at at.state v (λ pipe. refl) held
told_on-same_tables (Waiting pipe) app lines at v held = by_seen at.seen
  where
    by_seen : (seen : List Seen) → told_waiting app lines seen (record at { tables = v }) ≡ told_waiting app lines seen at
    by_seen [] = refl
    by_seen (look ∷ others) =
        ap (λ rest. receipts_of app look ++ rest) (told-same app lines (record at { state = look.after; seen = others }) look.after v (λ pipe. refl) held)
told_on-same_tables Ended app lines at v held = refl
