-- One turn of a rotation: what it adds to the history, what it leaves to do, and that it lowers that, unless it is a look
-- that finds nothing.
use Rattle.std.proofs.Common.{◌≡◌, ◌⊎◌, inl, inr, ℕ, zero, suc, ◌+◌, ◌-◌, ◌*◌, ◌<◌, ◌≤◌, ◌==◌, ◌&&◌, not, Bool, true, false, cond, true≢false, IsTrue, List, [], ◌∷◌, ◌++◌, append-nil, length, slice_index_or, slice_set, Option, Some, None, refl, ap, sym, ◌∙◌, subst, arith}
use Rattle.std.specs.Option.{is_some}
use Rattle.fsw_base.specs.declared.statuses.SbStatus.TheVariants.{BadArgument, MaxPipesMet, PipeCrErr, MaxMsgsMet, MaxDestsMet, MsgTooBig, BufAlocErr, NoMessage, BufferInvalid}
use Rattle.fsw_base.specs.Limits.{Limits}
use Rattle.ccsds_msg.specs.Message.{message_id}
use Rattle.bus_words.specs.declared.calls.BusAnswer.{BusAnswer}
use Rattle.bus_words.specs.declared.calls.BusAnswer.TheVariants.{Done, Number, Name, Sent, Got, TimeOut, Pending, Pool, Bus, Sb, Es, Evs}
use Rattle.bus_words.specs.declared.history.Call.{Call}
use Rattle.bus_words.specs.declared.history.Call.TheVariants as calls
use Rattle.bus_words.specs.declared.history.Entry.{Entry}
use Rattle.bus_words.specs.Bus.{State, Standing, Active, Waiting, Ended, Sending, Subscription, standing_of, with_standing, is_empty, others_idle, route, is_subscribed, unsent_of}
use Rattle.bus_words.specs.Refusals.{Refusal, OfBus, OfPools, OfEvents, refusal_answer}
use Rattle.bus_words.specs.Machine.{step, state_after, may_call, makes_entry, IsLegal, cause, accept, decided, refused_state, received, looked, pended, pended_answer, sent_along, passed_along, buffer_gone, packet_in, brings, oldest_number}
use Rattle.bus_words.proofs.Finds.{Each}
use Rattle.bus_words.proofs.Replay.{goes_on}
use Rattle.bus_words.proofs.Steps.{with_subscription}
use Rattle.script_lines.specs.declared.line.Line.{Line}
use Rattle.script_lines.specs.declared.line.Line.TheVariants as lines
use Rattle.tbl_words.specs.declared.history.Call.{Call as TableCall}
use Rattle.script_runs.specs.LineCalls.{line_call_of}
use Rattle.script_runs.specs.Owing.{Owes}
use Rattle.script_runs.specs.Rotation.{Running, SoFar, answer_to, after_call, after_look, table_answer_to, after_end, behind, behind_table, other_turn, line_turn, active_turn, turn_in}
use Rattle.script_runs.specs.TableTrace.{table_call_of, handles_after}
use Rattle.script_runs.specs.Trace.{Registers, call_of, registers_after, AfterAnswer, LineEntries, IsEnd, Trace}
use Rattle.script_runs.specs.Written.{Written, written_after, written_by}
use Rattle.bus_words.proofs.LegalSteps.{standing_at, standing-ended, standing-step}
use Rattle.script_runs.proofs.Buffers.{AreWritten, HaveSizes, have-sizes, agree-local, agree-step, brings-line, unsent-other}

-- The calls of lines. --

-- whether a line may make this call: every one but a look and the end
abbrev pub is_line_call : Call → Bool
is_line_call (calls.Look pipe) = false
is_line_call calls.End = false
is_line_call call = true

abbrev is_line_option : Option Call → Bool
is_line_option None = true
is_line_option (Some call) = is_line_call call

line_calls : (registers : Registers) (written : Written) (line : Line) → is_line_option (call_of registers written line) ≡ true
unfolding call_of line_call_of
line_calls registers written (lines.Create pipe depth name) = refl
line_calls registers written line = refl

line_may : (call : Call) → is_line_call call ≡ true → IsTrue (may_call Active call)
line_may (calls.Create depth name) is = refl
line_may (calls.Delete pipe) is = refl
line_may (calls.SetOpts pipe bits) is = refl
line_may (calls.GetOpts pipe) is = refl
line_may (calls.Find name) is = refl
line_may (calls.PipeName pipe) is = refl
line_may (calls.Subscribe id pipe limit scope) is = refl
line_may (calls.Unsubscribe id pipe) is = refl
line_may (calls.Transmit bytes inc) is = refl
line_may (calls.Receive pipe) is = refl
line_may (calls.Pend pipe) is = refl
line_may (calls.Look pipe) is = absurd (true≢false (sym is))
line_may (calls.Allocate size) is = refl
line_may (calls.TransmitBuffer buf bytes inc) is = refl
line_may (calls.Release buf) is = refl
line_may (calls.PoolCreate bytes) is = refl
line_may (calls.PoolGet pool size) is = refl
line_may (calls.PoolPut pool grant) is = refl
line_may (calls.PoolFigures pool) is = refl
line_may (calls.Register filters) is = refl
line_may (calls.SendEvent id kind text) is = refl
line_may (calls.ResetFilter id) is = refl
line_may (calls.LogMode mode) is = refl
line_may calls.ClearLog is = refl
line_may calls.Housekeeping is = refl
line_may calls.Figures is = refl
line_may calls.End is = refl

line_enters : (call : Call) (answer : BusAnswer) → is_line_call call ≡ true → IsTrue (makes_entry call answer)
line_enters (calls.Create depth name) answer is = refl
line_enters (calls.Delete pipe) answer is = refl
line_enters (calls.SetOpts pipe bits) answer is = refl
line_enters (calls.GetOpts pipe) answer is = refl
line_enters (calls.Find name) answer is = refl
line_enters (calls.PipeName pipe) answer is = refl
line_enters (calls.Subscribe id pipe limit scope) answer is = refl
line_enters (calls.Unsubscribe id pipe) answer is = refl
line_enters (calls.Transmit bytes inc) answer is = refl
line_enters (calls.Receive pipe) answer is = refl
line_enters (calls.Pend pipe) answer is = refl
line_enters (calls.Look pipe) answer is = absurd (true≢false (sym is))
line_enters (calls.Allocate size) answer is = refl
line_enters (calls.TransmitBuffer buf bytes inc) answer is = refl
line_enters (calls.Release buf) answer is = refl
line_enters (calls.PoolCreate bytes) answer is = refl
line_enters (calls.PoolGet pool size) answer is = refl
line_enters (calls.PoolPut pool grant) answer is = refl
line_enters (calls.PoolFigures pool) answer is = refl
line_enters (calls.Register filters) answer is = refl
line_enters (calls.SendEvent id kind text) answer is = refl
line_enters (calls.ResetFilter id) answer is = refl
line_enters (calls.LogMode mode) answer is = refl
line_enters calls.ClearLog answer is = refl
line_enters calls.Housekeeping answer is = refl
line_enters calls.Figures answer is = refl
line_enters calls.End answer is = refl

-- Standings after a call of one's own. --

abbrev pub is_ended : Standing → Bool
is_ended Active = false
is_ended (Waiting pipe) = false
is_ended Ended = true

abbrev pub is_pending : BusAnswer → Bool
is_pending Done = false
is_pending (Number n) = false
is_pending (Name name) = false
is_pending (Sent number reached) = false
is_pending (Got number) = false
is_pending TimeOut = false
is_pending Pending = true
is_pending (Pool figures) = false
is_pending (Bus figures) = false
is_pending (Sb status) = false
is_pending (Es status) = false
is_pending (Evs status) = false

-- one that hasn't ended stands as it is set
standing-here : (s : State) (app : ℕ) (standing : Standing) → is_ended (standing_of s app) ≡ false → standing_of (with_standing s app standing) app ≡ standing
standing-here s zero standing live = absurd (true≢false live)
standing-here s (suc app) standing live =
    standing_at (with_standing s (suc app) standing) app
    ∙ ap (λ n. slice_index_or (slice_set s.standings n standing) app Ended) (minus app)
    ∙ set_here s.standings app (ap is_ended (sym (standing_at s app)) ∙ live)
  where
    minus : (app : ℕ) → suc app - 1 ≡ app
    minus app = omega arith

    set_here : (xs : List Standing) (i : ℕ) → is_ended (slice_index_or xs i Ended) ≡ false → slice_index_or (slice_set xs i standing) i Ended ≡ standing
    set_here [] i live = absurd (true≢false live)
    set_here (x ∷ xs) zero live = refl
    set_here (x ∷ xs) (suc i) live = set_here xs i live

refused_receive-standings : (s : State) (pipe : ℕ) (why : Refusal) → (refused_state s (calls.Receive pipe) why).standings ≡ s.standings
refused_receive-standings s pipe (OfBus BadArgument) = refl
refused_receive-standings s pipe (OfBus MaxPipesMet) = refl
refused_receive-standings s pipe (OfBus PipeCrErr) = refl
refused_receive-standings s pipe (OfBus MaxMsgsMet) = refl
refused_receive-standings s pipe (OfBus MaxDestsMet) = refl
refused_receive-standings s pipe (OfBus MsgTooBig) = refl
refused_receive-standings s pipe (OfBus BufAlocErr) = refl
refused_receive-standings s pipe (OfBus NoMessage) = refl
refused_receive-standings s pipe (OfBus BufferInvalid) = refl
refused_receive-standings s pipe (OfPools status) = refl
refused_receive-standings s pipe (OfEvents status) = refl

-- the standing of an active application after this call, so answered
abbrev pub now_after : Call → BusAnswer → Standing
now_after (calls.Pend pipe) Pending = Waiting pipe
now_after call answer = Active

-- what of a step says how its caller stands
abbrev Stands : ℕ → Call → BusAnswer × State → Type 0
Stands app call next = standing_of next.1 app ≡ now_after call next.0

either : (F : BusAnswer × State → Type 0) (b : Bool) (answer : BusAnswer) (one other : State) → F (answer, one) → F (answer, other) → F (answer, cond {A = State} b one other)
either F true answer one other first second = first
either F false answer one other first second = second

sent_stands : (limits : Limits) (app : ℕ) (bytes : List ℕ) (inc : Bool) (subs : List Subscription) (sending : Sending) (s : State) → standing_of s app ≡ Active →
    Stands app (calls.Transmit bytes inc) (sent_along limits subs sending s)
sent_stands limits app bytes inc [] sending s is = is
sent_stands limits app bytes inc (sub ∷ subs) sending s is = is

passed_stands : (app buf : ℕ) (bytes : List ℕ) (inc : Bool) (subs : List Subscription) (sending : Sending) (s : State) → standing_of s app ≡ Active →
    Stands app (calls.TransmitBuffer buf bytes inc) (passed_along subs sending s)
passed_stands app buf bytes inc [] sending s is = is
passed_stands app buf bytes inc (sub ∷ subs) sending s is = is

pend_stands : (s : State) (app pipe : ℕ) → standing_of s app ≡ Active → Stands app (calls.Pend pipe) (pended_answer s app pipe, pended s app pipe)
pend_stands s app pipe is =
    let got = Got (oldest_number s.pipes pipe) in
    let waits = with_standing (received s pipe) app (Waiting pipe) in
    elim (is_empty s.pipes pipe) as (λ b. Stands app (calls.Pend pipe)
    (cond {A = BusAnswer} (not b) got (cond {A = BusAnswer} (others_idle s app) TimeOut Pending), cond {A = State} (b && not (others_idle s app)) waits (received s pipe))) [
      | true ↦ elim (others_idle s app) as (λ c. Stands app (calls.Pend pipe) (cond {A = BusAnswer} c TimeOut Pending, cond {A = State} (not c) waits (received s pipe))) [
        | true ↦ is
        | false ↦ standing-here (received s pipe) app (Waiting pipe) (ap is_ended is)
      ]
      | false ↦ is
    ]

accepted_stands : (limits : Limits) (history : List Entry) (s : State) (app : ℕ) (call : Call) → is_line_call call ≡ true → standing_of s app ≡ Active →
    Stands app call (accept limits history s app call)
accepted_stands limits history s app (calls.Create depth name) line is = is
accepted_stands limits history s app (calls.Delete pipe) line is = is
accepted_stands limits history s app (calls.SetOpts pipe bits) line is = is
accepted_stands limits history s app (calls.GetOpts pipe) line is = is
accepted_stands limits history s app (calls.Find name) line is = is
accepted_stands limits history s app (calls.PipeName pipe) line is = is
accepted_stands limits history s app (calls.Subscribe id pipe limit scope) line is =
    either (Stands app (calls.Subscribe id pipe limit scope)) (is_subscribed s.subscriptions id pipe) Done s (with_subscription s id pipe limit scope) is is
accepted_stands limits history s app (calls.Unsubscribe id pipe) line is = is
accepted_stands limits history s app (calls.Transmit bytes inc) line is = sent_stands limits app bytes inc (route s.subscriptions (message_id bytes)) _ s is
accepted_stands limits history s app (calls.Receive pipe) line is = is
accepted_stands limits history s app (calls.Pend pipe) line is = pend_stands s app pipe is
accepted_stands limits history s app (calls.Look pipe) line is = absurd (true≢false (sym line))
accepted_stands limits history s app (calls.Allocate size) line is = is
accepted_stands limits history s app (calls.TransmitBuffer buf bytes inc) line is =
    passed_stands app buf bytes inc (route s.subscriptions (message_id bytes)) _ (buffer_gone s app buf) is
accepted_stands limits history s app (calls.Release buf) line is = is
accepted_stands limits history s app (calls.PoolCreate bytes) line is = is
accepted_stands limits history s app (calls.PoolGet pool size) line is = is
accepted_stands limits history s app (calls.PoolPut pool grant) line is = is
accepted_stands limits history s app (calls.PoolFigures pool) line is = is
accepted_stands limits history s app (calls.Register filters) line is = is
accepted_stands limits history s app (calls.SendEvent id kind text) line is = is
accepted_stands limits history s app (calls.ResetFilter id) line is = is
accepted_stands limits history s app (calls.LogMode mode) line is = is
accepted_stands limits history s app calls.ClearLog line is = is
accepted_stands limits history s app calls.Housekeeping line is = sent_stands limits app (packet_in limits s) true (route s.subscriptions (message_id (packet_in limits s))) _ s is
accepted_stands limits history s app calls.Figures line is = is
accepted_stands limits history s app calls.End line is = absurd (true≢false (sym line))

refused_stands : (s : State) (app : ℕ) (call : Call) (why : Refusal) → is_line_call call ≡ true → standing_of s app ≡ Active →
    Stands app call (refusal_answer why, refused_state s call why)
refused_stands s app (calls.Create depth name) why line is = is
refused_stands s app (calls.Delete pipe) why line is = is
refused_stands s app (calls.SetOpts pipe bits) why line is = is
refused_stands s app (calls.GetOpts pipe) why line is = is
refused_stands s app (calls.Find name) why line is = is
refused_stands s app (calls.PipeName pipe) why line is = is
refused_stands s app (calls.Subscribe id pipe limit scope) why line is = is
refused_stands s app (calls.Unsubscribe id pipe) why line is = is
refused_stands s app (calls.Transmit bytes inc) why line is = is
refused_stands s app (calls.Receive pipe) why line is =
    ap (λ (ss : List Standing). cond {A = Standing} (app == 0) Ended (slice_index_or ss (app - 1) Ended)) (refused_receive-standings s pipe why) ∙ is
refused_stands s app (calls.Pend pipe) (OfBus status) line is = is
refused_stands s app (calls.Pend pipe) (OfPools status) line is = is
refused_stands s app (calls.Pend pipe) (OfEvents status) line is = is
refused_stands s app (calls.Look pipe) why line is = absurd (true≢false (sym line))
refused_stands s app (calls.Allocate size) why line is = is
refused_stands s app (calls.TransmitBuffer buf bytes inc) why line is = is
refused_stands s app (calls.Release buf) why line is = is
refused_stands s app (calls.PoolCreate bytes) why line is = is
refused_stands s app (calls.PoolGet pool size) why line is = is
refused_stands s app (calls.PoolPut pool grant) why line is = is
refused_stands s app (calls.PoolFigures pool) why line is = is
refused_stands s app (calls.Register filters) why line is = is
refused_stands s app (calls.SendEvent id kind text) why line is = is
refused_stands s app (calls.ResetFilter id) why line is = is
refused_stands s app (calls.LogMode mode) why line is = is
refused_stands s app calls.ClearLog why line is = is
refused_stands s app calls.Housekeeping why line is = is
refused_stands s app calls.Figures why line is = is
refused_stands s app calls.End why line is = absurd (true≢false (sym line))

decided_stands : (limits : Limits) (history : List Entry) (s : State) (app : ℕ) (call : Call) (why : Option Refusal) → is_line_call call ≡ true → standing_of s app ≡ Active →
    Stands app call (decided limits history s app call why)
decided_stands limits history s app call (Some why) line is = refused_stands s app call why line is
decided_stands limits history s app call None line is = accepted_stands limits history s app call line is

-- a look that is answered makes its caller active
look-active : (s : State) (app pipe : ℕ) → is_pending (pended_answer s app pipe) ≡ false → looked s app pipe ≡ with_standing (received s pipe) app Active
look-active s app pipe answered =
    let got = Got (oldest_number s.pipes pipe) in
    let active = with_standing (received s pipe) app Active in
    elim (is_empty s.pipes pipe) as (λ b. is_pending (cond {A = BusAnswer} (not b) got (cond {A = BusAnswer} (others_idle s app) TimeOut Pending)) ≡ false →
    cond {A = State} (b && not (others_idle s app)) s active ≡ active) [
      | true ↦ elim (others_idle s app) as (λ c. is_pending (cond {A = BusAnswer} c TimeOut Pending) ≡ false → cond {A = State} (not c) s active ≡ active) [
        | true ↦ λ is. refl
        | false ↦ λ is. absurd (true≢false is)
      ]
      | false ↦ λ is. refl
    ] answered

-- Turns. --

-- the bus so far is one that can be
pub record IsSound (limits : Limits) (apps : ℕ) (sofar : SoFar) : Type 0 where
  pub legal : IsLegal limits apps sofar.history
  pub state : sofar.state ≡ state_after limits apps sofar.history

-- how many turns it may still take
abbrev pub waits : Standing → ℕ
waits Active = 0
waits (Waiting pipe) = 1
waits Ended = 0

abbrev pub weight : Standing → Option Running → ℕ
weight standing None = 0
weight standing (Some r) = 2 * length r.lines + 1 + waits standing

-- the application goes on, as a list
abbrev pub listed : Option Running → List Running
listed None = []
listed (Some r) = r ∷ []

-- what it wrote agrees with the buffers that it has
abbrev pub HasWritten : State → ℕ → Option Running → Type 0
HasWritten s app None = Unit {0}
HasWritten s app (Some r) = AreWritten s.unsent app r.written

abbrev pub HasNumber : ℕ → Option Running → Type 0
HasNumber app None = Unit {0}
HasNumber app (Some r) = r.app ≡ app

-- it waits and finds nothing
pub record IsStuck (s : State) (app : ℕ) : Type 0 where
  pub pipe : ℕ
  pub waits : standing_of s app ≡ Waiting pipe
  pub nothing : pended_answer s app pipe ≡ Pending

-- what a turn of an application in this standing does
pub record IsTurn (limits : Limits) (apps : ℕ) (sofar : SoFar) (running : Running) (standing : Standing) (next : SoFar × List Running) : Type 0 where
  pub now : Standing
  pub left : Option Running
  pub sound : IsSound limits apps next.0
  pub lists : next.1 ≡ listed left
  pub number : HasNumber running.app left
  pub stands : standing_of next.0.state running.app ≡ now
  pub others : (k : ℕ) → (k == running.app) ≡ false → standing_of next.0.state k ≡ standing_of sofar.state k
  pub written : HasWritten next.0.state running.app left
  pub buffers : (k : ℕ) → 1 ≤ k → (k == running.app) ≡ false → unsent_of next.0.state.unsent k ≡ unsent_of sofar.state.unsent k
  pub fits : is_some left ≡ not (is_ended now)
  pub added : List Entry
  pub history : next.0.history ≡ sofar.history ++ added
  pub own : Each (λ e. e.app ≡ running.app) added
  pub owes : (es : List Entry) → Owes now left es → Owes standing (Some running) (added ++ es)
  pub falls : (weight now left < weight standing (Some running)) ⊎ ((next ≡ (sofar, running ∷ [])) × IsStuck sofar.state running.app)

-- one call more
sound-call : (limits : Limits) (apps : ℕ) (sofar : SoFar) (app : ℕ) (call : Call) → IsSound limits apps sofar →
    IsTrue (may_call (standing_of sofar.state app) call) → IsTrue (makes_entry call (answer_to limits sofar app call)) → IsTrue (brings sofar.state.unsent app call) →
    IsSound limits apps (after_call limits sofar app call)
sound-call limits apps sofar app call sound may enters whole =
    let e : Entry = record { app = app; call = call; answer = answer_to limits sofar app call } in
    let next = goes_on limits apps sofar.history e sound.legal
    (subst (λ (s : State). IsTrue (may_call (standing_of s app) call)) sound.state may)
    (ap (λ (s : State). (step limits sofar.history s app call).0) sound.state) enters
    (subst (λ (s : State). IsTrue (brings s.unsent app call)) sound.state whole) in
    record {
      legal = next.legal;
      state = ap (λ (s : State). (step limits sofar.history s app call).1) sound.state ∙ sym next.state;
    }

-- the sizes of the buffers are as after every history
sizes-sound : (limits : Limits) (apps : ℕ) (sofar : SoFar) → IsSound limits apps sofar → HaveSizes limits sofar.state
sizes-sound limits apps sofar sound = subst (HaveSizes limits) (sym sound.state) (have-sizes limits apps sofar.history)

-- an application that hasn't ended has a list of buffers
has-list : (s : State) (app : ℕ) → length s.unsent ≡ length s.standings → is_ended (standing_of s app) ≡ false → app - 1 < length s.unsent
has-list s zero all live = absurd (true≢false live)
has-list s (suc app) all live = let there = within s.standings app (ap is_ended (sym (standing_at s app)) ∙ live) in omega (arith, all, there)
  where
    within : (xs : List Standing) (i : ℕ) → is_ended (slice_index_or xs i Ended) ≡ false → i < length xs
    within [] i live = absurd (true≢false live)
    within (x ∷ xs) zero live = omega arith
    within (x ∷ xs) (suc i) live = let there = within xs i live in omega (arith, there)

-- one's own call
written-call : (limits : Limits) (apps : ℕ) (sofar : SoFar) (running : Running) (call : Call) → IsSound limits apps sofar → is_ended (standing_of sofar.state running.app) ≡ false →
    AreWritten sofar.state.unsent running.app running.written →
    AreWritten ((after_call limits sofar running.app call).state).unsent running.app (written_after running.written call (answer_to limits sofar running.app call))
written-call limits apps sofar running call sound live agree =
    agree-step limits sofar.history sofar.state running.app call running.written
    (has-list sofar.state running.app (sizes-sound limits apps sofar sound).all live) agree

-- the end
turn-end : (limits : Limits) (apps : ℕ) (sofar : SoFar) (running : Running) → IsSound limits apps sofar → standing_of sofar.state running.app ≡ Active → running.lines ≡ [] →
    IsTurn limits apps sofar running Active (after_end limits sofar running.app, [])
turn-end limits apps sofar running sound is has =
    let may : IsTrue (may_call (standing_of sofar.state running.app) calls.End) = ap (λ st. may_call st calls.End) is in
    let e : Entry = record { app = running.app; call = calls.End; answer = answer_to limits sofar running.app calls.End } in
    let ends = sound-call limits apps sofar running.app calls.End sound may refl refl in
    record {
      now = Ended;
      left = None;
      sound = record { legal = ends.legal; state = ends.state };
      lists = refl;
      number = tt;
      stands = standing-ended sofar.state running.app;
      others = λ k differ. standing-step limits sofar.history sofar.state running.app k calls.End may differ;
      written = tt;
      buffers = λ k first differ. unsent-other limits sofar.history sofar.state running.app k calls.End may differ first;
      fits = refl;
      added = e ∷ [];
      history = refl;
      own = (refl, tt);
      owes = λ es none. subst (λ ls. Trace running.registers running.written ls (e ∷ es)) (sym has) (subst (λ (xs : List Entry). IsEnd (e ∷ xs)) (sym none) refl);
      falls = inl (omega arith);
    }

-- a line that the tables see writes nothing
unwritten : (handles : List ℕ) (written : Written) (buffers : List ℕ) (line : Line) (call : TableCall) → table_call_of handles line ≡ Some call → written_by written buffers line ≡ written
unfolding table_call_of line_call_of written_by
unwritten handles written buffers (lines.Form buf id fill) call is = absurd (true≢false (sym (ap is_some is)))
unwritten handles written buffers (lines.Put buf offset bytes) call is = absurd (true≢false (sym (ap is_some is)))
unwritten handles written buffers line call is = refl

-- a line that the tables see
turn-table : (limits : Limits) (apps : ℕ) (sofar : SoFar) (running : Running) (line : Line) (others : List Line) (call : TableCall) → IsSound limits apps sofar →
    AreWritten sofar.state.unsent running.app running.written →
    standing_of sofar.state running.app ≡ Active → running.lines ≡ line ∷ others → call_of running.registers running.written line ≡ None → table_call_of running.handles line ≡ Some call →
    IsTurn limits apps sofar running Active (other_turn limits sofar running line others (Some call))
turn-table limits apps sofar running line others call sound agree is has none some =
    let fewer : length running.lines ≡ suc (length others) = ap length has in
    record {
      now = Active;
      left = Some (behind_table running others (handles_after running.handles line (table_answer_to limits sofar running.app call)));
      sound = record { legal = sound.legal; state = sound.state };
      lists = refl;
      number = refl;
      stands = is;
      others = λ k differ. refl;
      written = agree;
      buffers = λ k first differ. refl;
      fits = refl;
      added = [];
      history = sym (append-nil sofar.history);
      own = tt;
      owes = λ es owed.
          subst (λ ls. Trace running.registers running.written ls es) (sym has)
          (subst (λ (c : Option Call). LineEntries c (λ call answer rest. Trace (registers_after running.registers line answer) (written_after running.written call answer) others rest)
          (λ rest. Trace running.registers (written_by running.written running.registers.buffers line) others rest) es) (sym none)
          (subst (λ (written : Written). Trace running.registers written others es) (sym (unwritten running.handles running.written running.registers.buffers line call some)) owed));
      falls = inl (omega (arith, fewer));
    }

-- a line that no service sees
turn-local : (limits : Limits) (apps : ℕ) (sofar : SoFar) (running : Running) (line : Line) (others : List Line) → IsSound limits apps sofar →
    AreWritten sofar.state.unsent running.app running.written →
    standing_of sofar.state running.app ≡ Active → running.lines ≡ line ∷ others → call_of running.registers running.written line ≡ None →
    IsTurn limits apps sofar running Active (sofar, behind running others running.registers (written_by running.written running.registers.buffers line) ∷ [])
turn-local limits apps sofar running line others sound agree is has none =
    let fewer : length running.lines ≡ suc (length others) = ap length has in
    let after = written_by running.written running.registers.buffers line in
    record {
      now = Active;
      left = Some (behind running others running.registers after);
      sound = sound;
      lists = refl;
      number = refl;
      stands = is;
      others = λ k differ. refl;
      written = agree-local limits sofar.state running.app running.written running.registers.buffers line (sizes-sound limits apps sofar sound) agree;
      buffers = λ k first differ. refl;
      fits = refl;
      added = [];
      history = sym (append-nil sofar.history);
      own = tt;
      owes = λ es owed.
          subst (λ ls. Trace running.registers running.written ls es) (sym has)
          (subst (λ (c : Option Call). LineEntries c (λ call answer rest. Trace (registers_after running.registers line answer) (written_after running.written call answer) others rest)
          (λ rest. Trace running.registers after others rest) es) (sym none) owed);
      falls = inl (omega (arith, fewer));
    }

-- what follows a call is owed if its answer left the application
answer-owed : (call : Call) (answer : BusAnswer) (r : Running) (es : List Entry) → Owes (now_after call answer) (Some r) es → AfterAnswer call answer (Trace r.registers r.written r.lines) es
answer-owed (calls.Create depth name) answer r es owed = owed
answer-owed (calls.Delete pipe) answer r es owed = owed
answer-owed (calls.SetOpts pipe bits) answer r es owed = owed
answer-owed (calls.GetOpts pipe) answer r es owed = owed
answer-owed (calls.Find name) answer r es owed = owed
answer-owed (calls.PipeName pipe) answer r es owed = owed
answer-owed (calls.Subscribe id pipe limit scope) answer r es owed = owed
answer-owed (calls.Unsubscribe id pipe) answer r es owed = owed
answer-owed (calls.Transmit bytes inc) answer r es owed = owed
answer-owed (calls.Receive pipe) answer r es owed = owed
answer-owed (calls.Pend pipe) Done r es owed = owed
answer-owed (calls.Pend pipe) (Number n) r es owed = owed
answer-owed (calls.Pend pipe) (Name name) r es owed = owed
answer-owed (calls.Pend pipe) (Sent number reached) r es owed = owed
answer-owed (calls.Pend pipe) (Got number) r es owed = owed
answer-owed (calls.Pend pipe) TimeOut r es owed = owed
answer-owed (calls.Pend pipe) Pending r [] owed = owed
answer-owed (calls.Pend pipe) Pending r (e ∷ es) owed = owed
answer-owed (calls.Pend pipe) (Pool figures) r es owed = owed
answer-owed (calls.Pend pipe) (Bus figures) r es owed = owed
answer-owed (calls.Pend pipe) (Sb status) r es owed = owed
answer-owed (calls.Pend pipe) (Es status) r es owed = owed
answer-owed (calls.Pend pipe) (Evs status) r es owed = owed
answer-owed (calls.Look pipe) answer r es owed = owed
answer-owed (calls.Allocate size) answer r es owed = owed
answer-owed (calls.TransmitBuffer buf bytes inc) answer r es owed = owed
answer-owed (calls.Release buf) answer r es owed = owed
answer-owed (calls.PoolCreate bytes) answer r es owed = owed
answer-owed (calls.PoolGet pool size) answer r es owed = owed
answer-owed (calls.PoolPut pool grant) answer r es owed = owed
answer-owed (calls.PoolFigures pool) answer r es owed = owed
answer-owed (calls.Register filters) answer r es owed = owed
answer-owed (calls.SendEvent id kind text) answer r es owed = owed
answer-owed (calls.ResetFilter id) answer r es owed = owed
answer-owed (calls.LogMode mode) answer r es owed = owed
answer-owed calls.ClearLog answer r es owed = owed
answer-owed calls.Housekeeping answer r es owed = owed
answer-owed calls.Figures answer r es owed = owed
answer-owed calls.End answer r es owed = owed

now-facts : (call : Call) (answer : BusAnswer) → (is_ended (now_after call answer) ≡ false) × (waits (now_after call answer) ≤ 1)
now-facts (calls.Create depth name) answer = (refl, omega arith)
now-facts (calls.Delete pipe) answer = (refl, omega arith)
now-facts (calls.SetOpts pipe bits) answer = (refl, omega arith)
now-facts (calls.GetOpts pipe) answer = (refl, omega arith)
now-facts (calls.Find name) answer = (refl, omega arith)
now-facts (calls.PipeName pipe) answer = (refl, omega arith)
now-facts (calls.Subscribe id pipe limit scope) answer = (refl, omega arith)
now-facts (calls.Unsubscribe id pipe) answer = (refl, omega arith)
now-facts (calls.Transmit bytes inc) answer = (refl, omega arith)
now-facts (calls.Receive pipe) answer = (refl, omega arith)
now-facts (calls.Pend pipe) Done = (refl, omega arith)
now-facts (calls.Pend pipe) (Number n) = (refl, omega arith)
now-facts (calls.Pend pipe) (Name name) = (refl, omega arith)
now-facts (calls.Pend pipe) (Sent number reached) = (refl, omega arith)
now-facts (calls.Pend pipe) (Got number) = (refl, omega arith)
now-facts (calls.Pend pipe) TimeOut = (refl, omega arith)
now-facts (calls.Pend pipe) Pending = (refl, omega arith)
now-facts (calls.Pend pipe) (Pool figures) = (refl, omega arith)
now-facts (calls.Pend pipe) (Bus figures) = (refl, omega arith)
now-facts (calls.Pend pipe) (Sb status) = (refl, omega arith)
now-facts (calls.Pend pipe) (Es status) = (refl, omega arith)
now-facts (calls.Pend pipe) (Evs status) = (refl, omega arith)
now-facts (calls.Look pipe) answer = (refl, omega arith)
now-facts (calls.Allocate size) answer = (refl, omega arith)
now-facts (calls.TransmitBuffer buf bytes inc) answer = (refl, omega arith)
now-facts (calls.Release buf) answer = (refl, omega arith)
now-facts (calls.PoolCreate bytes) answer = (refl, omega arith)
now-facts (calls.PoolGet pool size) answer = (refl, omega arith)
now-facts (calls.PoolPut pool grant) answer = (refl, omega arith)
now-facts (calls.PoolFigures pool) answer = (refl, omega arith)
now-facts (calls.Register filters) answer = (refl, omega arith)
now-facts (calls.SendEvent id kind text) answer = (refl, omega arith)
now-facts (calls.ResetFilter id) answer = (refl, omega arith)
now-facts (calls.LogMode mode) answer = (refl, omega arith)
now-facts calls.ClearLog answer = (refl, omega arith)
now-facts calls.Housekeeping answer = (refl, omega arith)
now-facts calls.Figures answer = (refl, omega arith)
now-facts calls.End answer = (refl, omega arith)

-- a line that makes a call
turn-call : (limits : Limits) (apps : ℕ) (sofar : SoFar) (running : Running) (line : Line) (others : List Line) (call : Call) → IsSound limits apps sofar →
    AreWritten sofar.state.unsent running.app running.written →
    standing_of sofar.state running.app ≡ Active → running.lines ≡ line ∷ others → call_of running.registers running.written line ≡ Some call → is_line_call call ≡ true →
    IsTurn limits apps sofar running Active (line_turn limits sofar running line others (Some call))
turn-call limits apps sofar running line others call sound agree is has some ok =
    let answer = answer_to limits sofar running.app call in
    let e : Entry = record { app = running.app; call = call; answer = answer } in
    let may : IsTrue (may_call (standing_of sofar.state running.app) call) = subst (λ st. IsTrue (may_call st call)) (sym is) (line_may call ok) in
    let after = written_after running.written call answer in
    let next = behind running others (registers_after running.registers line answer) after in
    let fewer : length running.lines ≡ suc (length others) = ap length has in
    let facts = now-facts call answer in
    record {
      now = now_after call answer;
      left = Some next;
      sound = sound-call limits apps sofar running.app call sound may (line_enters call answer ok)
          (brings-line sofar.state.unsent running.app running.registers running.written line call agree some);
      lists = refl;
      number = refl;
      stands = decided_stands limits sofar.history sofar.state running.app call (cause limits sofar.state running.app call) ok is;
      others = λ k differ. standing-step limits sofar.history sofar.state running.app k call may differ;
      written = written-call limits apps sofar running call sound (ap is_ended is) agree;
      buffers = λ k first differ. unsent-other limits sofar.history sofar.state running.app k call may differ first;
      fits = ap not (sym facts.0);
      added = e ∷ [];
      history = refl;
      own = (refl, tt);
      owes = λ es owed.
          subst (λ ls. Trace running.registers running.written ls (e ∷ es)) (sym has)
          (subst (λ (c : Option Call). LineEntries c (λ made told rest. Trace (registers_after running.registers line told) (written_after running.written made told) others rest)
          (λ rest. Trace running.registers (written_by running.written running.registers.buffers line) others rest) (e ∷ es)) (sym some)
          (refl, answer-owed call answer next es owed));
      falls = inl (omega (arith, fewer, facts.1));
    }

-- a look that is answered
turn-look : (limits : Limits) (apps : ℕ) (sofar : SoFar) (running : Running) (pipe : ℕ) → IsSound limits apps sofar →
    AreWritten sofar.state.unsent running.app running.written → standing_of sofar.state running.app ≡ Waiting pipe →
    is_pending (pended_answer sofar.state running.app pipe) ≡ false → IsTrue (makes_entry (calls.Look pipe) (pended_answer sofar.state running.app pipe)) →
    IsTurn limits apps sofar running (Waiting pipe) (after_call limits sofar running.app (calls.Look pipe), running ∷ [])
turn-look limits apps sofar running pipe sound agree is answered enters =
    let look = calls.Look pipe in
    let e : Entry = record { app = running.app; call = look; answer = answer_to limits sofar running.app look } in
    let may : IsTrue (may_call (standing_of sofar.state running.app) look) = subst (λ st. IsTrue (may_call st look)) (sym is) (Rattle.bus_words.proofs.Finds.same-self pipe) in
    record {
      now = Active;
      left = Some running;
      sound = sound-call limits apps sofar running.app look sound may enters refl;
      lists = refl;
      number = refl;
      stands =
          ap (λ (s : State). standing_of s running.app) (look-active sofar.state running.app pipe answered)
          ∙ standing-here (received sofar.state pipe) running.app Active (ap is_ended is);
      others = λ k differ. standing-step limits sofar.history sofar.state running.app k look may differ;
      written = written-call limits apps sofar running look sound (ap is_ended is) agree;
      buffers = λ k first differ. unsent-other limits sofar.history sofar.state running.app k look may differ first;
      fits = refl;
      added = e ∷ [];
      history = refl;
      own = (refl, tt);
      owes = λ es owed. (refl, owed);
      falls = inl (omega arith);
    }

-- a look that finds nothing
turn-stay : (limits : Limits) (apps : ℕ) (sofar : SoFar) (running : Running) (pipe : ℕ) → IsSound limits apps sofar →
    AreWritten sofar.state.unsent running.app running.written → standing_of sofar.state running.app ≡ Waiting pipe →
    pended_answer sofar.state running.app pipe ≡ Pending → IsTurn limits apps sofar running (Waiting pipe) (sofar, running ∷ [])
turn-stay limits apps sofar running pipe sound agree is nothing = record {
  now = Waiting pipe;
  left = Some running;
  sound = sound;
  lists = refl;
  number = refl;
  stands = is;
  others = λ k differ. refl;
  written = agree;
  buffers = λ k first differ. refl;
  fits = refl;
  added = [];
  history = sym (append-nil sofar.history);
  own = tt;
  owes = λ es owed. owed;
  falls = inr (refl, record { pipe = pipe; waits = is; nothing = nothing });
}

turn-waiting : (limits : Limits) (apps : ℕ) (sofar : SoFar) (running : Running) (pipe : ℕ) (answer : BusAnswer) → IsSound limits apps sofar →
    AreWritten sofar.state.unsent running.app running.written →
    standing_of sofar.state running.app ≡ Waiting pipe → pended_answer sofar.state running.app pipe ≡ answer →
    IsTurn limits apps sofar running (Waiting pipe) (after_look limits sofar running.app pipe answer, running ∷ [])
turn-waiting limits apps sofar running pipe Pending sound agree is answers = turn-stay limits apps sofar running pipe sound agree is answers
turn-waiting limits apps sofar running pipe Done sound agree is answers = turn-look limits apps sofar running pipe sound agree is (ap is_pending answers) (ap (makes_entry (calls.Look pipe)) answers)
turn-waiting limits apps sofar running pipe (Number n) sound agree is answers = turn-look limits apps sofar running pipe sound agree is (ap is_pending answers) (ap (makes_entry (calls.Look pipe)) answers)
turn-waiting limits apps sofar running pipe (Name name) sound agree is answers = turn-look limits apps sofar running pipe sound agree is (ap is_pending answers) (ap (makes_entry (calls.Look pipe)) answers)
turn-waiting limits apps sofar running pipe (Sent number reached) sound agree is answers = turn-look limits apps sofar running pipe sound agree is (ap is_pending answers) (ap (makes_entry (calls.Look pipe)) answers)
turn-waiting limits apps sofar running pipe (Got number) sound agree is answers = turn-look limits apps sofar running pipe sound agree is (ap is_pending answers) (ap (makes_entry (calls.Look pipe)) answers)
turn-waiting limits apps sofar running pipe TimeOut sound agree is answers = turn-look limits apps sofar running pipe sound agree is (ap is_pending answers) (ap (makes_entry (calls.Look pipe)) answers)
turn-waiting limits apps sofar running pipe (Pool figures) sound agree is answers = turn-look limits apps sofar running pipe sound agree is (ap is_pending answers) (ap (makes_entry (calls.Look pipe)) answers)
turn-waiting limits apps sofar running pipe (Bus figures) sound agree is answers = turn-look limits apps sofar running pipe sound agree is (ap is_pending answers) (ap (makes_entry (calls.Look pipe)) answers)
turn-waiting limits apps sofar running pipe (Sb status) sound agree is answers = turn-look limits apps sofar running pipe sound agree is (ap is_pending answers) (ap (makes_entry (calls.Look pipe)) answers)
turn-waiting limits apps sofar running pipe (Es status) sound agree is answers = turn-look limits apps sofar running pipe sound agree is (ap is_pending answers) (ap (makes_entry (calls.Look pipe)) answers)
turn-waiting limits apps sofar running pipe (Evs status) sound agree is answers = turn-look limits apps sofar running pipe sound agree is (ap is_pending answers) (ap (makes_entry (calls.Look pipe)) answers)

turn-other : (limits : Limits) (apps : ℕ) (sofar : SoFar) (running : Running) (line : Line) (others : List Line) (made : Option TableCall) → IsSound limits apps sofar →
    AreWritten sofar.state.unsent running.app running.written →
    standing_of sofar.state running.app ≡ Active → running.lines ≡ line ∷ others → call_of running.registers running.written line ≡ None → table_call_of running.handles line ≡ made →
    IsTurn limits apps sofar running Active (other_turn limits sofar running line others made)
turn-other limits apps sofar running line others None sound agree is has none makes = turn-local limits apps sofar running line others sound agree is has none
turn-other limits apps sofar running line others (Some call) sound agree is has none makes = turn-table limits apps sofar running line others call sound agree is has none makes

turn-line : (limits : Limits) (apps : ℕ) (sofar : SoFar) (running : Running) (line : Line) (others : List Line) (made : Option Call) → IsSound limits apps sofar →
    AreWritten sofar.state.unsent running.app running.written →
    standing_of sofar.state running.app ≡ Active → running.lines ≡ line ∷ others → call_of running.registers running.written line ≡ made →
    IsTurn limits apps sofar running Active (line_turn limits sofar running line others made)
turn-line limits apps sofar running line others None sound agree is has makes =
    turn-other limits apps sofar running line others (table_call_of running.handles line) sound agree is has makes refl
turn-line limits apps sofar running line others (Some call) sound agree is has makes =
    turn-call limits apps sofar running line others call sound agree is has makes (ap is_line_option (sym makes) ∙ line_calls running.registers running.written line)

turn-active : (limits : Limits) (apps : ℕ) (sofar : SoFar) (running : Running) (lines : List Line) → IsSound limits apps sofar →
    AreWritten sofar.state.unsent running.app running.written →
    standing_of sofar.state running.app ≡ Active → running.lines ≡ lines → IsTurn limits apps sofar running Active (active_turn limits sofar running lines)
turn-active limits apps sofar running [] sound agree is has = turn-end limits apps sofar running sound is has
turn-active limits apps sofar running (line ∷ others) sound agree is has =
    turn-line limits apps sofar running line others (call_of running.registers running.written line) sound agree is has refl

-- a turn of an application that hasn't ended
pub turn-in : (limits : Limits) (apps : ℕ) (sofar : SoFar) (running : Running) (standing : Standing) → IsSound limits apps sofar →
    AreWritten sofar.state.unsent running.app running.written →
    standing_of sofar.state running.app ≡ standing → is_ended standing ≡ false → IsTurn limits apps sofar running standing (turn_in limits sofar running standing)
turn-in limits apps sofar running Active sound agree is live = turn-active limits apps sofar running running.lines sound agree is refl
turn-in limits apps sofar running (Waiting pipe) sound agree is live =
    turn-waiting limits apps sofar running pipe (pended_answer sofar.state running.app pipe) sound agree is refl
turn-in limits apps sofar running Ended sound agree is live = absurd (true≢false live)
