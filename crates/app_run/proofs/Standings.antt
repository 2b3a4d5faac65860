-- What the call of a line leaves of its application's standing: it waits if and only if a receive that may wait was told so.
use Rattle.std.proofs.Common.{◌≡◌, ℕ, zero, suc, ◌-◌, ◌==◌, ◌&&◌, not, Bool, true, false, cond, List, [], ◌∷◌, slice_index_or, slice_set, slice_index, Option, Some, None, refl, ap, sym, ◌∙◌}
use Rattle.std.specs.Option.{is_some}
use Rattle.ccsds_msg.specs.Message.{message_id}
use Rattle.fsw_base.specs.Limits.{Limits}
use Rattle.fsw_base.specs.declared.statuses.SbStatus.TheVariants.{BadArgument, MaxPipesMet, PipeCrErr, MaxMsgsMet, MaxDestsMet, MsgTooBig, BufAlocErr, NoMessage, BufferInvalid}
use Rattle.bus_words.specs.declared.calls.BusAnswer.{BusAnswer}
use Rattle.bus_words.specs.declared.calls.BusAnswer.TheVariants.{Pending, Got, TimeOut}
use Rattle.bus_words.specs.declared.history.Call.{Call}
use Rattle.bus_words.specs.declared.history.Call.TheVariants as calls
use Rattle.bus_words.specs.declared.history.Entry.{Entry}
use Rattle.bus_words.specs.Bus.{State, Standing, Active, Waiting, Ended, Sending, Subscription, standing_of, with_standing, is_empty, others_idle, is_subscribed, route}
use Rattle.bus_words.specs.Refusals.{Refusal, OfBus, OfPools, OfEvents}
use Rattle.bus_words.specs.Machine.{step, cause, decided, recorded, refused_state, buffer_gone, sent_along, passed_along, packet_in, received}
use Rattle.script_lines.specs.declared.line.Line.{Line}
use Rattle.script_lines.specs.declared.line.Line.TheVariants.{Create, Delete, SetOpts, GetOpts, Find, PipeName, Subscribe, Unsubscribe, Send, SendRaw, Receive, Pend, Allocate, TransmitBuffer, Release, PoolCreate, PoolGet, PoolPut, PoolFigures, Register, SendEvent, ResetFilter, LogMode, ClearLog, Housekeeping, Figures}
use Rattle.script_runs.specs.LineCalls.{line_call_of}
use Rattle.script_runs.specs.Trace.{Registers, call_of}
use Rattle.script_runs.specs.Written.{Written, bytes_in}
use Rattle.app_run.specs.Lines.{pipe_waited_for}
use Rattle.app_run.specs.Runners.{standing_for}

-- whether the application was told to wait
abbrev pub is_pending : BusAnswer → Bool
is_pending Pending = true
is_pending answer = false

-- what an answer and the bus after it say of the application's standing
pub record Settles (app : ℕ) (answer : BusAnswer) (after : State) (waits : Option ℕ) : Type 0 where
  pub standing : standing_of after app ≡ standing_for waits
  pub pending : is_pending answer ≡ is_some waits

abbrev pub SettlesLine : Limits → List Entry → State → ℕ → Registers → Line → Option Call → Type 0
SettlesLine limits history s app registers line None = Unit {0}
SettlesLine limits history s app registers line (Some call) =
    Settles app (step limits history s app call).0 (step limits history s app call).1 (pipe_waited_for registers line (step limits history s app call).0)

-- the same standings
kept : (s t : State) (app : ℕ) (standing : Standing) → t.standings ≡ s.standings → standing_of s app ≡ standing → standing_of t app ≡ standing
kept s t app standing same is =
    ap (λ ss. cond {A = Standing} (app == 0) Ended (slice_index_or ss (app - 1) Ended)) same ∙ is

-- a standing that is set
set_at : (xs : List Standing) (i : ℕ) (old new : Standing) → slice_index_or xs i Ended ≡ old → (old ≡ Ended → ⊥) → slice_index_or (slice_set xs i new) i Ended ≡ new
set_at [] i old new is live = absurd (live (sym is))
set_at (x ∷ xs) zero old new is live = refl
set_at (x ∷ xs) (suc i) old new is live = set_at xs i old new is live

set_if : (b : Bool) (xs : List Standing) (i : ℕ) (old new : Standing) → cond {A = Standing} b Ended (slice_index_or xs i Ended) ≡ old → (old ≡ Ended → ⊥) →
    cond {A = Standing} b Ended (slice_index_or (slice_set xs i new) i Ended) ≡ new
set_if true xs i old new is live = absurd (live (sym is))
set_if false xs i old new is live = set_at xs i old new is live

pub standing-set : (s t : State) (app : ℕ) (old new : Standing) → t.standings ≡ s.standings → standing_of s app ≡ old → (old ≡ Ended → ⊥) →
    standing_of (with_standing t app new) app ≡ new
standing-set s t app old new same is live =
    ap (λ ss. cond {A = Standing} (app == 0) Ended (slice_index_or (slice_set ss (app - 1) new) (app - 1) Ended)) same
    ∙ set_if (app == 0) s.standings (app - 1) old new is live

not_ended : Active ≡ Ended → ⊥
not_ended h = cc h

waiting_not_ended : (pipe : ℕ) → Waiting pipe ≡ Ended → ⊥
waiting_not_ended pipe h = cc h

-- the bus once a call so answered is told and counted
abbrev after_it : Limits → List Entry → State → ℕ → Call → BusAnswer × State → State
after_it limits history s app call made = (recorded limits s app call made).1

-- what is told and counted is no matter here
settles-recorded : (limits : Limits) (history : List Entry) (s : State) (app : ℕ) (call : Call) (made : BusAnswer × State) (waits : Option ℕ) → Settles app made.0 made.1 waits →
    Settles app made.0 (after_it limits history s app call made) waits
settles-recorded limits history s app call made waits settles = record { standing = settles.standing; pending = settles.pending }

-- a step that is decided either way
settles-decided : (limits : Limits) (history : List Entry) (s : State) (app : ℕ) (call : Call) (why : Option Refusal) →
    ((why : Refusal) → (refused_state s call why).standings ≡ s.standings) →
    ((decided limits history s app call None).1).standings ≡ s.standings → is_pending (decided limits history s app call None).0 ≡ false →
    standing_of s app ≡ Active →
    Settles app (decided limits history s app call why).0 (after_it limits history s app call (decided limits history s app call why)) None
settles-decided limits history s app call (Some (OfBus status)) refused accepted told active = record {
  standing = kept s (refused_state s call (OfBus status)) app Active (refused (OfBus status)) active;
  pending = refl;
}
settles-decided limits history s app call (Some (OfPools status)) refused accepted told active = record {
  standing = kept s (refused_state s call (OfPools status)) app Active (refused (OfPools status)) active;
  pending = refl;
}
settles-decided limits history s app call (Some (OfEvents status)) refused accepted told active = record {
  standing = kept s (refused_state s call (OfEvents status)) app Active (refused (OfEvents status)) active;
  pending = refl;
}
settles-decided limits history s app call None refused accepted told active = record {
  standing = kept s (decided limits history s app call None).1 app Active accepted active;
  pending = told;
}

refused-receive : (s : State) (pipe : ℕ) (why : Refusal) → (refused_state s (calls.Receive pipe) why).standings ≡ s.standings
refused-receive s pipe (OfBus BadArgument) = refl
refused-receive s pipe (OfBus MaxPipesMet) = refl
refused-receive s pipe (OfBus PipeCrErr) = refl
refused-receive s pipe (OfBus MaxMsgsMet) = refl
refused-receive s pipe (OfBus MaxDestsMet) = refl
refused-receive s pipe (OfBus MsgTooBig) = refl
refused-receive s pipe (OfBus BufAlocErr) = refl
refused-receive s pipe (OfBus NoMessage) = refl
refused-receive s pipe (OfBus BufferInvalid) = refl
refused-receive s pipe (OfPools status) = refl
refused-receive s pipe (OfEvents status) = refl

either : (b : Bool) (s t : State) → t.standings ≡ s.standings → (cond {A = State} b s t).standings ≡ s.standings
either true s t same = refl
either false s t same = same

along : (limits : Limits) (subs : List Subscription) (sending : Sending) (s : State) → ((sent_along limits subs sending s).1).standings ≡ s.standings
along limits [] sending s = refl
along limits (sub ∷ subs) sending s = refl

along-told : (limits : Limits) (subs : List Subscription) (sending : Sending) (s : State) → is_pending (sent_along limits subs sending s).0 ≡ false
along-told limits [] sending s = refl
along-told limits (sub ∷ subs) sending s = refl

passed : (subs : List Subscription) (sending : Sending) (s : State) → ((passed_along subs sending s).1).standings ≡ s.standings
passed [] sending s = refl
passed (sub ∷ subs) sending s = refl

passed-told : (subs : List Subscription) (sending : Sending) (s : State) → is_pending (passed_along subs sending s).0 ≡ false
passed-told [] sending s = refl
passed-told (sub ∷ subs) sending s = refl

settles-transmit : (limits : Limits) (history : List Entry) (s : State) (app : ℕ) (bytes : List ℕ) (inc : Bool) → standing_of s app ≡ Active →
    Settles app (step limits history s app (calls.Transmit bytes inc)).0 (step limits history s app (calls.Transmit bytes inc)).1 None
settles-transmit limits history s app bytes inc active =
    settles-decided limits history s app (calls.Transmit bytes inc) (cause limits s app (calls.Transmit bytes inc)) (λ why. refl)
    (along limits (route s.subscriptions (message_id bytes)) _ s) (along-told limits (route s.subscriptions (message_id bytes)) _ s) active

-- a receive that may wait
settles-pended : (e o : Bool) (n : ℕ) (s t : State) (app r : ℕ) (registers : Registers) → t.standings ≡ s.standings → standing_of s app ≡ Active →
    let answer : BusAnswer = cond {A = BusAnswer} (not e) (Got n) (cond {A = BusAnswer} o TimeOut Pending) in
    Settles app answer (cond {A = State} (e && not o) (with_standing t app (Waiting (slice_index registers.pipes r))) t) (pipe_waited_for registers (Pend r) answer)
unfolding pipe_waited_for
settles-pended false o n s t app r registers same active = record { standing = kept s t app Active same active; pending = refl }
settles-pended true true n s t app r registers same active = record { standing = kept s t app Active same active; pending = refl }
settles-pended true false n s t app r registers same active = record {
  standing = standing-set s t app Active (Waiting (slice_index registers.pipes r)) same active not_ended;
  pending = refl;
}

settles-pend : (limits : Limits) (history : List Entry) (s : State) (app r : ℕ) (registers : Registers) (why : Option Refusal) → standing_of s app ≡ Active →
    Settles app (decided limits history s app (calls.Pend (slice_index registers.pipes r)) why).0
    (after_it limits history s app (calls.Pend (slice_index registers.pipes r)) (decided limits history s app (calls.Pend (slice_index registers.pipes r)) why))
    (pipe_waited_for registers (Pend r) (decided limits history s app (calls.Pend (slice_index registers.pipes r)) why).0)
unfolding pipe_waited_for
settles-pend limits history s app r registers (Some (OfBus status)) active = record { standing = active; pending = refl }
settles-pend limits history s app r registers (Some (OfPools status)) active = record { standing = active; pending = refl }
settles-pend limits history s app r registers (Some (OfEvents status)) active = record { standing = active; pending = refl }
settles-pend limits history s app r registers None active =
    let pipe = slice_index registers.pipes r in
    let made = decided limits history s app (calls.Pend pipe) None in
    settles-recorded limits history s app (calls.Pend pipe) made (pipe_waited_for registers (Pend r) made.0)
    (settles-pended (is_empty s.pipes pipe) (others_idle s app) _ s (received s pipe) app r registers refl active)

-- the call of an active application's line
pub settles-line : (limits : Limits) (history : List Entry) (s : State) (app : ℕ) (registers : Registers) (written : Written) (line : Line) → standing_of s app ≡ Active →
    SettlesLine limits history s app registers line (call_of registers written line)
unfolding call_of line_call_of pipe_waited_for
settles-line limits history s app registers written (Create pipe depth name) active =
    settles-decided limits history s app (calls.Create depth name) (cause limits s app (calls.Create depth name)) (λ why. refl) refl refl active
settles-line limits history s app registers written (Delete pipe) active =
    settles-decided limits history s app (calls.Delete _) (cause limits s app (calls.Delete (slice_index registers.pipes pipe))) (λ why. refl) refl refl active
settles-line limits history s app registers written (SetOpts pipe bits) active =
    settles-decided limits history s app (calls.SetOpts _ bits) (cause limits s app (calls.SetOpts (slice_index registers.pipes pipe) bits)) (λ why. refl) refl refl active
settles-line limits history s app registers written (GetOpts pipe) active =
    settles-decided limits history s app (calls.GetOpts _) (cause limits s app (calls.GetOpts (slice_index registers.pipes pipe))) (λ why. refl) refl refl active
settles-line limits history s app registers written (Find pipe name) active =
    settles-decided limits history s app (calls.Find name) (cause limits s app (calls.Find name)) (λ why. refl) refl refl active
settles-line limits history s app registers written (PipeName pipe) active =
    settles-decided limits history s app (calls.PipeName _) (cause limits s app (calls.PipeName (slice_index registers.pipes pipe))) (λ why. refl) refl refl active
settles-line limits history s app registers written (Subscribe id pipe limit scope) active =
    let at = slice_index registers.pipes pipe in
    settles-decided limits history s app (calls.Subscribe id at limit scope) (cause limits s app (calls.Subscribe id at limit scope)) (λ why. refl)
    (either (is_subscribed s.subscriptions id at) s _ refl) refl active
settles-line limits history s app registers written (Unsubscribe id pipe) active =
    settles-decided limits history s app (calls.Unsubscribe id _) (cause limits s app (calls.Unsubscribe id (slice_index registers.pipes pipe))) (λ why. refl) refl refl active
settles-line limits history s app registers written (Send id size fill inc) active = settles-transmit limits history s app _ inc active
settles-line limits history s app registers written (SendRaw bytes inc) active = settles-transmit limits history s app bytes inc active
settles-line limits history s app registers written (Receive pipe) active =
    let at = slice_index registers.pipes pipe in
    settles-decided limits history s app (calls.Receive at) (cause limits s app (calls.Receive at)) (refused-receive s at) refl refl active
settles-line limits history s app registers written (Pend pipe) active =
    settles-pend limits history s app pipe registers (cause limits s app (calls.Pend (slice_index registers.pipes pipe))) active
settles-line limits history s app registers written (Allocate buf size) active =
    settles-decided limits history s app (calls.Allocate size) (cause limits s app (calls.Allocate size)) (λ why. refl) refl refl active
settles-line limits history s app registers written (TransmitBuffer buf inc) active =
    let call = calls.TransmitBuffer (slice_index registers.buffers buf) (bytes_in written (slice_index registers.buffers buf)) inc in
    settles-decided limits history s app call (cause limits s app call) (λ why. refl)
    (passed _ _ (buffer_gone s app _)) (passed-told _ _ (buffer_gone s app _)) active
settles-line limits history s app registers written (Release buf) active =
    settles-decided limits history s app (calls.Release _) (cause limits s app (calls.Release (slice_index registers.buffers buf))) (λ why. refl) refl refl active
settles-line limits history s app registers written (PoolCreate pool bytes) active =
    settles-decided limits history s app (calls.PoolCreate bytes) (cause limits s app (calls.PoolCreate bytes)) (λ why. refl) refl refl active
settles-line limits history s app registers written (PoolGet grant pool size) active =
    let call = calls.PoolGet (slice_index registers.pools pool) size in
    settles-decided limits history s app call (cause limits s app call) (λ why. refl) refl refl active
settles-line limits history s app registers written (PoolPut pool grant) active =
    let call = calls.PoolPut (slice_index registers.pools pool) (slice_index registers.grants grant) in
    settles-decided limits history s app call (cause limits s app call) (λ why. refl) refl refl active
settles-line limits history s app registers written (PoolFigures pool) active =
    let call = calls.PoolFigures (slice_index registers.pools pool) in
    settles-decided limits history s app call (cause limits s app call) (λ why. refl) refl refl active
settles-line limits history s app registers written (Register filters) active =
    settles-decided limits history s app (calls.Register filters) (cause limits s app (calls.Register filters)) (λ why. refl) refl refl active
settles-line limits history s app registers written (SendEvent id kind text) active =
    settles-decided limits history s app (calls.SendEvent id kind text) (cause limits s app (calls.SendEvent id kind text)) (λ why. refl) refl refl active
settles-line limits history s app registers written (ResetFilter id) active =
    settles-decided limits history s app (calls.ResetFilter id) (cause limits s app (calls.ResetFilter id)) (λ why. refl) refl refl active
settles-line limits history s app registers written (LogMode mode) active =
    settles-decided limits history s app (calls.LogMode mode) (cause limits s app (calls.LogMode mode)) (λ why. refl) refl refl active
settles-line limits history s app registers written ClearLog active =
    settles-decided limits history s app calls.ClearLog (cause limits s app calls.ClearLog) (λ why. refl) refl refl active
settles-line limits history s app registers written Housekeeping active =
    settles-decided limits history s app calls.Housekeeping (cause limits s app calls.Housekeeping) (λ why. refl)
    (along limits (route s.subscriptions (message_id (packet_in limits s))) _ s) (along-told limits (route s.subscriptions (message_id (packet_in limits s))) _ s) active
settles-line limits history s app registers written Figures active =
    settles-decided limits history s app calls.Figures (cause limits s app calls.Figures) (λ why. refl) refl refl active
settles-line limits history s app registers written line active = tt

-- a look that finds a message, or that none can come
looked-active : (e o : Bool) (n : ℕ) (s t : State) (app : ℕ) (standing : Standing) → t.standings ≡ s.standings → standing_of s app ≡ standing → (standing ≡ Ended → ⊥) →
    is_pending (cond {A = BusAnswer} (not e) (Got n) (cond {A = BusAnswer} o TimeOut Pending)) ≡ false →
    standing_of (cond {A = State} (e && not o) s (with_standing t app Active)) app ≡ Active
looked-active false o n s t app standing same is live told = standing-set s t app standing Active same is live
looked-active true true n s t app standing same is live told = standing-set s t app standing Active same is live
looked-active true false n s t app standing same is live told = absurd cc

pub settles-look : (limits : Limits) (history : List Entry) (s : State) (app pipe : ℕ) → standing_of s app ≡ Waiting pipe →
    is_pending (step limits history s app (calls.Look pipe)).0 ≡ false → standing_of ((step limits history s app (calls.Look pipe)).1) app ≡ Active
settles-look limits history s app pipe waits told =
    looked-active (is_empty s.pipes pipe) (others_idle s app) _ s (received s pipe) app (Waiting pipe) refl waits (waiting_not_ended pipe) told
