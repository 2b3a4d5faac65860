-- The bus as a machine: why a call is refused, what it answers and what it changes, and which
-- histories are legal.
use Rattle.std.specs.Prelude.{◌≡◌, ℕ, ◌+◌, ◌-◌, ◌%◌, ◌==◌, ◌&&◌, ◌||◌, not, nat_le, nat_lt, Bool, true, false, List, [], ◌∷◌, ◌++◌, length, filter, count_by, slice_set, Option, Some, None, is_some, IsTrue, if◌then◌else◌}
use Rattle.std.specs.Option.{option_map, option_map_or}
use Rattle.fsw_base.specs.declared.config.Scope.{Scope}
use Rattle.fsw_base.specs.Limits.{Limits}
use Rattle.fsw_base.specs.Starts.{start_of}
use Rattle.fsw_base.specs.declared.statuses.SbStatus.{SbStatus}
use Rattle.fsw_base.specs.declared.statuses.SbStatus.TheVariants.{BadArgument, MaxPipesMet, PipeCrErr, MaxMsgsMet, MaxDestsMet, MsgTooBig, BufAlocErr, NoMessage, BufferInvalid}
use Rattle.fsw_base.specs.declared.statuses.EsStatus.{EsStatus}
use Rattle.fsw_base.specs.declared.statuses.EsStatus.TheVariants.{ErrMemBlockSize, BufferNotInPool, PoolBlockInvalid, NoPool}
use Rattle.fsw_base.specs.declared.statuses.EvsStatus.{EvsStatus}
use Rattle.fsw_base.specs.EventDesk.{Desk, send_refusal, reset_refusal}
use Rattle.fsw_base.specs.PoolAccounts.{has_room}
use Rattle.fsw_base.specs.Grants.{is_pool, pool_in, pool_account, with_pool, refuses_pool, after_create, was_given, is_among, after_get, after_put, figures_of, all_after_end}
use Rattle.ccsds_msg.specs.Message.{fault, front_fault, message_id, is_valid_id}
use Rattle.housekeeping.specs.Packet.{housekeeping_id}
use Rattle.housekeeping.specs.Statistics.{Statistics}
use Rattle.bus_words.specs.declared.calls.BusAnswer.{BusAnswer}
use Rattle.bus_words.specs.declared.calls.BusAnswer.TheVariants.{Done, Number, Name, Sent, Got, TimeOut, Pending, Pool, Bus}
use Rattle.bus_words.specs.declared.history.Call.{Call}
use Rattle.bus_words.specs.declared.history.Call.TheVariants.{Create, Delete, SetOpts, GetOpts, Find, PipeName, Subscribe, Unsubscribe, Transmit, Receive, Pend, Look, Allocate, TransmitBuffer, Release, PoolCreate, PoolGet, PoolPut, PoolFigures, Register, SendEvent, ResetFilter, LogMode, ClearLog, Housekeeping, Figures, End}
use Rattle.bus_words.specs.declared.history.Entry.{Entry}
use Rattle.bus_words.specs.Refusals.{Refusal, OfBus, OfPools, OfEvents, refusal_answer}
use Rattle.bus_words.specs.Held.{account_of, account_drawn}
use Rattle.bus_words.specs.Events.{Moment, desk_then, desk_told}
use Rattle.bus_words.specs.Counters.{statistics_then, statistics_told, stats_in}
pub use Rattle.bus_words.specs.Sends.{Reads, stamped, front_of, sending_from, sending_in, packet_in}
use Rattle.bus_words.specs.Bus.{Pipe, Subscription, Buffer, State, Standing, Active, Waiting, Ended, Sending, all_bits, opening, standing_of, pipe_at, pipe_named, is_live, is_named, owns, with_pipe, with_bits, with_standing, route, is_subscribed, has_route, is_empty, others_idle, deliver, reached, oldest, after_receive, has_unsent, unsent_size, with_unsent, without_unsent, without_all_unsent, without_pipe, new_pipe}

-- Sequence counts (CCSDS 133.0-B, 4.1.3.4.3). --

-- whether this call, so answered, was an accepted send of the id that moved its count
abbrev pub counts_for : ℕ → Call → BusAnswer → Bool
counts_for id (Transmit bytes inc) (Sent number reached) =
    inc && (message_id bytes == id) && nat_le 1 number
counts_for id (TransmitBuffer buf bytes inc) (Sent number reached) =
    inc && (message_id bytes == id) && nat_le 1 number
counts_for id Housekeeping (Sent number reached) = (housekeeping_id == id) && nat_le 1 number
counts_for id call answer = false

-- the id's next count: its start, one for each accepted send of it that moved it, and one more, in
-- 14 bits
abbrev pub next_count : Limits → List Entry → ℕ → ℕ
next_count limits history id =
    (start_of limits.starts id + count_by (λ e. counts_for id e.call e.answer) history + 1) % 16384

-- what a call sees after a history
abbrev pub reads_after : Limits → List Entry → Reads
reads_after limits history = record { next = next_count limits history }

-- the message as it is delivered after a history
abbrev pub delivered : Limits → List Entry → List ℕ → Bool → List ℕ
delivered limits history bytes inc = stamped (reads_after limits history) bytes inc

-- Refusals. Each call has its own, in the order in which they are tried. --

-- this refusal if the test is true, else the ones that follow
abbrev pub refused_if : {A : Type 0} → Bool → A → Option A → Option A
refused_if test status others = if test then Some status else others

-- if the depth or the name isn't in its range, as many pipes are live as may be, or a live pipe
-- has the name
abbrev pub create_cause : Limits → State → ℕ → List ℕ → Option SbStatus
create_cause limits s depth name =
    refused_if
    (depth == 0 || nat_lt limits.depth depth || length name == 0 || nat_lt 19 (length name))
    BadArgument
    (refused_if (nat_le limits.pipes (length s.pipes)) MaxPipesMet
    (refused_if (is_named s.pipes name) PipeCrErr None))

-- if the pipe isn't a live one of the application's own
abbrev pub unowned_cause : State → ℕ → ℕ → Option SbStatus
unowned_cause s app pipe = refused_if (not (owns s.pipes app pipe)) BadArgument None

-- if the pipe isn't a live one of the application's own, or a bit is set that the version
-- doesn't have
abbrev pub set_opts_cause : Limits → State → ℕ → ℕ → ℕ → Option SbStatus
set_opts_cause limits s app pipe bits =
    refused_if (not (owns s.pipes app pipe) || nat_lt (all_bits limits.version) bits) BadArgument
    None

-- if no pipe of this number is live
abbrev pub dead_cause : State → ℕ → Option SbStatus
dead_cause s pipe = refused_if (not (is_live s.pipes pipe)) BadArgument None

-- if no live pipe has the name
abbrev pub find_cause : State → List ℕ → Option SbStatus
find_cause s name = refused_if (not (is_named s.pipes name)) BadArgument None

-- a duplicate is never refused
abbrev pub subscribe_cause : Limits → State → ℕ → ℕ → ℕ → Option SbStatus
subscribe_cause limits s app id pipe =
    refused_if (not (is_valid_id id) || not (owns s.pipes app pipe)) BadArgument
    (if is_subscribed s.subscriptions id pipe then None
    else refused_if (not (has_route s.routed id) && nat_le limits.msgids (length s.routed))
    MaxMsgsMet
    (refused_if (nat_le limits.dests (length (route s.subscriptions id))) MaxDestsMet None))

-- if no message may have the id, or the pipe isn't a live one of the application's own
abbrev pub unsubscribe_cause : State → ℕ → ℕ → ℕ → Option SbStatus
unsubscribe_cause s app id pipe =
    refused_if (not (is_valid_id id) || not (owns s.pipes app pipe)) BadArgument None

-- a message that nobody subscribes to needs no block of the bus's pool
abbrev pub transmit_cause : Limits → State → List ℕ → Option SbStatus
transmit_cause limits s bytes =
    refused_if (is_some (fault bytes)) BadArgument
    (refused_if (nat_lt limits.msgmax (length bytes)) MsgTooBig
    (if length (route s.subscriptions (message_id bytes)) == 0 then None
    else refused_if (not (has_room (account_of limits s) (length bytes))) BufAlocErr None))

-- if the pipe isn't a live one of the application's own, or no message waits there
abbrev pub receive_cause : State → ℕ → ℕ → Option SbStatus
receive_cause s app pipe =
    refused_if (not (owns s.pipes app pipe)) BadArgument
    (refused_if (is_empty s.pipes pipe) NoMessage None)

-- a buffer of a size that a message may have, if the bus's pool has a block for it
abbrev pub allocate_cause : Limits → State → ℕ → Option SbStatus
allocate_cause limits s size =
    refused_if (nat_lt size 7) BadArgument
    (refused_if (nat_lt limits.msgmax size) MsgTooBig
    (refused_if (not (has_room (account_of limits s) size)) BufAlocErr None))

-- if the buffer isn't an unsent one of the application's own, or doesn't begin with a message
abbrev pub transmit_buffer_cause : State → ℕ → ℕ → List ℕ → Option SbStatus
transmit_buffer_cause s app buf bytes =
    refused_if (not (has_unsent s.unsent app buf)) BufferInvalid
    (refused_if (is_some (front_fault bytes)) BadArgument None)

-- if the buffer isn't an unsent one of the application's own
abbrev pub release_cause : State → ℕ → ℕ → Option SbStatus
release_cause s app buf = refused_if (not (has_unsent s.unsent app buf)) BufferInvalid None

-- if no pool of so many bytes can be made
abbrev pub pool_create_cause : State → ℕ → Option EsStatus
pool_create_cause s bytes = refused_if (refuses_pool s.pools bytes) ErrMemBlockSize None

-- if there is no pool of the number, or it has no block for so many bytes
abbrev pub pool_get_cause : State → ℕ → ℕ → Option EsStatus
pool_get_cause s pool size =
    refused_if (not (is_pool s.pools pool)) NoPool
    (refused_if (not (has_room (pool_account (pool_in s.pools pool)) size)) ErrMemBlockSize None)

-- if the pool wasn't created, never gave the grant, or the grant isn't out any more
abbrev pub pool_put_cause : State → ℕ → ℕ → Option EsStatus
pool_put_cause s pool grant =
    refused_if (not (is_pool s.pools pool)) NoPool
    (refused_if (not (was_given (pool_in s.pools pool) grant)) BufferNotInPool
    (refused_if (not (is_among (pool_in s.pools pool).out grant)) PoolBlockInvalid None))

-- if no pool of this number was created
abbrev pub no_pool_cause : State → ℕ → Option EsStatus
no_pool_cause s pool = refused_if (not (is_pool s.pools pool)) NoPool None

-- a refusal of the bus, if there is one
abbrev pub by_bus : Option SbStatus → Option Refusal
by_bus why = option_map OfBus why

-- a refusal of the memory pools, if there is one
abbrev pub by_pools : Option EsStatus → Option Refusal
by_pools why = option_map OfPools why

-- a refusal of the event services, if there is one
abbrev pub by_events : Option EvsStatus → Option Refusal
by_events why = option_map OfEvents why

-- the first refusal whose condition holds. Housekeeping is a send of its packet.
abbrev pub cause : Limits → State → ℕ → Call → Option Refusal
cause limits s app (Create depth name) = by_bus (create_cause limits s depth name)
cause limits s app (Delete pipe) = by_bus (unowned_cause s app pipe)
cause limits s app (SetOpts pipe bits) = by_bus (set_opts_cause limits s app pipe bits)
cause limits s app (GetOpts pipe) = by_bus (dead_cause s pipe)
cause limits s app (Find name) = by_bus (find_cause s name)
cause limits s app (PipeName pipe) = by_bus (dead_cause s pipe)
cause limits s app (Subscribe id pipe limit scope) = by_bus (subscribe_cause limits s app id pipe)
cause limits s app (Unsubscribe id pipe) = by_bus (unsubscribe_cause s app id pipe)
cause limits s app (Transmit bytes inc) = by_bus (transmit_cause limits s bytes)
cause limits s app (Receive pipe) = by_bus (receive_cause s app pipe)
cause limits s app (Pend pipe) = by_bus (unowned_cause s app pipe)
cause limits s app (Look pipe) = None
cause limits s app (Allocate size) = by_bus (allocate_cause limits s size)
cause limits s app (TransmitBuffer buf bytes inc) = by_bus (transmit_buffer_cause s app buf bytes)
cause limits s app (Release buf) = by_bus (release_cause s app buf)
cause limits s app (PoolCreate bytes) = by_pools (pool_create_cause s bytes)
cause limits s app (PoolGet pool size) = by_pools (pool_get_cause s pool size)
cause limits s app (PoolPut pool grant) = by_pools (pool_put_cause s pool grant)
cause limits s app (PoolFigures pool) = by_pools (no_pool_cause s pool)
cause limits s app (Register filters) = None
cause limits s app (SendEvent id kind text) = by_events (send_refusal s.events app)
cause limits s app (ResetFilter id) = by_events (reset_refusal s.events app id)
cause limits s app (LogMode mode) = None
cause limits s app ClearLog = None
cause limits s app Housekeeping = by_bus (transmit_cause limits s (packet_in limits s))
cause limits s app Figures = None
cause limits s app End = None

-- What a call that isn't refused answers and changes. --

-- a new pipe, numbered one more than were created, stands last
abbrev pub created : State → ℕ → ℕ → List ℕ → BusAnswer × State
created s app depth name = (
  Number (s.pipes_created + 1),
  record s {
    pipes = s.pipes ++ new_pipe (s.pipes_created + 1) name app depth ∷ [];
    pipes_created = s.pipes_created + 1;
  },
)

-- the pipe and its subscriptions leave
abbrev pub deleted : State → ℕ → State
deleted s pipe = record s {
  pipes = without_pipe pipe s.pipes;
  subscriptions = filter (λ sub. not (sub.pipe == pipe)) s.subscriptions;
}

-- the option bits of the pipe
abbrev pub bits_of : List Pipe → ℕ → ℕ
bits_of pipes number = option_map_or (λ pipe. pipe.bits) (pipe_at pipes number) 0

-- the number of the pipe of this name
abbrev pub number_of : List Pipe → List ℕ → ℕ
number_of pipes name = option_map_or (λ pipe. pipe.number) (pipe_named pipes name) 0

-- the name of the pipe
abbrev pub name_of : List Pipe → ℕ → List ℕ
name_of pipes number = option_map_or (λ pipe. pipe.name) (pipe_at pipes number) []

-- a live pair changes nothing
abbrev pub subscribed : State → ℕ → ℕ → ℕ → Scope → BusAnswer × State
subscribed s id pipe limit scope = (
  Done,
  (if is_subscribed s.subscriptions id pipe then s
      else (record s {
        subscriptions =
            s.subscriptions ++
            record {
              number = s.subscriptions_made + 1;
              id = id;
              pipe = pipe;
              limit = limit;
              scope = scope;
            } ∷ [];
        subscriptions_made = s.subscriptions_made + 1;
        routed = (if has_route s.routed id then s.routed else s.routed ++ id ∷ []);
      })),
)

-- the live subscription of the pair leaves, if there is one
abbrev pub unsubscribed : State → ℕ → ℕ → State
unsubscribed s id pipe =
    record s {
      subscriptions = filter (λ sub. not (sub.id == id && sub.pipe == pipe))
          s.subscriptions;
    }

-- without a live subscription of its id a message goes nowhere, and takes no number and no block
abbrev pub sent_along : Limits → List Subscription → Sending → State → BusAnswer × State
sent_along limits [] sending s = (Sent 0 0, s)
sent_along limits (sub ∷ subs) sending s = (
  Sent sending.number (reached sending (sub ∷ subs) s.pipes),
  record s {
    pipes = deliver sending (sub ∷ subs) s.pipes;
    numbers_given = sending.number;
    made = (account_drawn limits s sending.asked).made;
    drawn = (account_drawn limits s sending.asked).requests;
  },
)

-- a message goes to the live subscriptions of its id, in order
abbrev pub transmitted : Reads → Limits → State → ℕ → List ℕ → Bool → BusAnswer × State
transmitted reads limits s app bytes inc =
    sent_along limits (route s.subscriptions (message_id bytes))
    (sending_from reads s app bytes inc) s

-- a buffer, whose number is one more than were given; its block is drawn
abbrev pub allocated : Limits → State → ℕ → ℕ → BusAnswer × State
allocated limits s app size = (
  Number (s.numbers_given + 1),
  record s {
    unsent = with_unsent s.unsent app (record { number = s.numbers_given + 1; size = size });
    numbers_given = s.numbers_given + 1;
    made = (account_drawn limits s size).made;
    drawn = (account_drawn limits s size).requests;
  },
)

-- the bus once the application's buffer left
abbrev pub buffer_gone : State → ℕ → ℕ → State
buffer_gone s app buf = record s { unsent = without_unsent s.unsent app buf }

-- what is sent of a buffer goes under the buffer's number, in the buffer's block; without a live
-- subscription of its id it goes nowhere
abbrev pub passed_along : List Subscription → Sending → State → BusAnswer × State
passed_along [] sending s = (Sent 0 0, s)
passed_along (sub ∷ subs) sending s = (
  Sent sending.number (reached sending (sub ∷ subs) s.pipes),
  record s
      { pipes = deliver sending (sub ∷ subs) s.pipes },
)

-- the buffer leaves, and the message that its bytes begin with is sent
abbrev pub buffer_transmitted : Reads → State → ℕ → ℕ → List ℕ → Bool → BusAnswer × State
buffer_transmitted reads s app buf bytes inc =
    passed_along (route s.subscriptions (message_id bytes)) (sending_in reads s app buf bytes inc)
    (buffer_gone s app buf)

-- the number of the oldest message that is queued on the pipe
abbrev pub oldest_number : List Pipe → ℕ → ℕ
oldest_number pipes number =
    option_map_or (λ pipe. option_map_or (λ item. item.number) (oldest pipe.queue) 0)
    (pipe_at pipes number) 0

-- the bus after a receive on the pipe
abbrev pub received : State → ℕ → State
received s pipe = record s { pipes = with_pipe after_receive pipe s.pipes }

-- what a receive answers that may wait
abbrev pub pended_answer : State → ℕ → ℕ → BusAnswer
pended_answer s app pipe =
    if not (is_empty s.pipes pipe) then Got (oldest_number s.pipes pipe)
    else if others_idle s app then TimeOut
    else Pending

-- the bus after a receive that may wait: after the receive, and if neither a message nor a
-- time-out came the application waits on the pipe
abbrev pub pended : State → ℕ → ℕ → State
pended s app pipe =
    if is_empty s.pipes pipe && not (others_idle s app)
    then with_standing (received s pipe) app (Waiting pipe)
    else received s pipe

-- the bus after a look: as after a receive, with the application active again; as before if it
-- still waits
abbrev pub looked : State → ℕ → ℕ → State
looked s app pipe =
    if is_empty s.pipes pipe && not (others_idle s app) then s
    else with_standing (received s pipe) app Active

-- a new pool; its number is one more than there are
abbrev pub pool_created : State → ℕ → BusAnswer × State
pool_created s bytes =
    (Number (length s.pools.pools + 1), record s { pools = after_create s.pools bytes })

-- a grant of the pool, numbered one more than it gave
abbrev pub pool_given : State → ℕ → ℕ → ℕ → BusAnswer × State
pool_given s app pool size = (
  Number ((pool_in s.pools pool).given + 1),
  record s { pools = with_pool s.pools pool (after_get (pool_in s.pools pool) app size) },
)

-- the bus after a return to the pool, if there is one: the grant is back, or the return is counted
-- as refused
abbrev pub pool_returned : State → ℕ → ℕ → State
pool_returned s pool grant =
    record s { pools = with_pool s.pools pool (after_put (pool_in s.pools pool) grant) }

-- the application's pipes with their subscriptions leave, and its unsent buffers; its grants come
-- back
abbrev pub ended : State → ℕ → State
ended s app = record s {
  pipes = filter (λ pipe. not (pipe.owner == app)) s.pipes;
  subscriptions = filter (λ sub. not (owns s.pipes app sub.pipe)) s.subscriptions;
  unsent = without_all_unsent s.unsent app;
  standings = slice_set s.standings (app - 1) Ended;
  pools = all_after_end app s.pools;
}

-- What a call that isn't refused answers and changes, but for the event desk and the statistics:
-- `recorded` alone changes these.
abbrev pub accept_with : Reads → Limits → State → ℕ → Call → BusAnswer × State
accept_with reads limits s app (Create depth name) = created s app depth name
accept_with reads limits s app (Delete pipe) = (Done, deleted s pipe)
accept_with reads limits s app (SetOpts pipe bits) =
    (Done, record s { pipes = with_pipe (with_bits bits) pipe s.pipes })
accept_with reads limits s app (GetOpts pipe) = (Number (bits_of s.pipes pipe), s)
accept_with reads limits s app (Find name) = (Number (number_of s.pipes name), s)
accept_with reads limits s app (PipeName pipe) = (Name (name_of s.pipes pipe), s)
accept_with reads limits s app (Subscribe id pipe limit scope) = subscribed s id pipe limit scope
accept_with reads limits s app (Unsubscribe id pipe) = (Done, unsubscribed s id pipe)
accept_with reads limits s app (Transmit bytes inc) = transmitted reads limits s app bytes inc
accept_with reads limits s app (Receive pipe) = (Got (oldest_number s.pipes pipe), received s pipe)
accept_with reads limits s app (Pend pipe) = (pended_answer s app pipe, pended s app pipe)
accept_with reads limits s app (Look pipe) = (pended_answer s app pipe, looked s app pipe)
accept_with reads limits s app (Allocate size) = allocated limits s app size
accept_with reads limits s app (TransmitBuffer buf bytes inc) =
    buffer_transmitted reads s app buf bytes inc
accept_with reads limits s app (Release buf) = (Done, buffer_gone s app buf)
accept_with reads limits s app (PoolCreate bytes) = pool_created s bytes
accept_with reads limits s app (PoolGet pool size) = pool_given s app pool size
accept_with reads limits s app (PoolPut pool grant) = (Done, pool_returned s pool grant)
accept_with reads limits s app (PoolFigures pool) = (Pool (figures_of (pool_in s.pools pool)), s)
accept_with reads limits s app (Register filters) = (Done, s)
accept_with reads limits s app (SendEvent id kind text) = (Done, s)
accept_with reads limits s app (ResetFilter id) = (Done, s)
accept_with reads limits s app (LogMode mode) = (Done, s)
accept_with reads limits s app ClearLog = (Done, s)
accept_with reads limits s app Housekeeping =
    transmitted reads limits s app (packet_in limits s) true
accept_with reads limits s app Figures = (Bus (stats_in limits s), s)
accept_with reads limits s app End = (Done, ended s app)

-- what a call that isn't refused answers and changes after a history
abbrev pub accept : Limits → List Entry → State → ℕ → Call → BusAnswer × State
accept limits history s app call = accept_with (reads_after limits history) limits s app call

-- Beside what `recorded` tells and counts, a refused call changes nothing, but that a receive that
-- finds no message has released the last one, and that a pool counts the returns that were refused.
abbrev pub refused_state : State → Call → Refusal → State
refused_state s (Receive pipe) (OfBus NoMessage) = received s pipe
refused_state s (PoolPut pool grant) why = pool_returned s pool grant
refused_state s call why = s

-- Steps and histories. --

-- what a call answers and leaves that is refused for this cause, or isn't refused
abbrev pub decided_with : Reads → Limits → State → ℕ → Call → Option Refusal → BusAnswer × State
decided_with reads limits s app call (Some why) = (refusal_answer why, refused_state s call why)
decided_with reads limits s app call None = accept_with reads limits s app call

-- the same after a history
abbrev pub decided : Limits → List Entry → State → ℕ → Call → Option Refusal → BusAnswer × State
decided limits history s app call why =
    decided_with (reads_after limits history) limits s app call why

-- a call so answered at its moment
abbrev pub moment_of : State → ℕ → Call → BusAnswer × State → Moment
moment_of s app call made =
    record {
      before = s;
      entry = record { app = app; call = call; answer = made.0 };
      after = made.1;
    }

-- what a call so answered leaves, refused or not, with what the event desk is told and what is
-- counted
abbrev pub recorded : Limits → State → ℕ → Call → BusAnswer × State → BusAnswer × State
recorded limits s app call made = (
  made.0,
  record made.1 {
    events = desk_then s.events (moment_of s app call made);
    statistics = statistics_then limits s.statistics (moment_of s app call made);
  },
)

-- what the call answers if it sees this beside the bus, and the bus afterwards
abbrev pub step_with : Reads → Limits → State → ℕ → Call → BusAnswer × State
step_with reads limits s app call =
    recorded limits s app call
    (decided_with reads limits s app call (cause limits s app call))

-- what the call answers after this history, and the bus afterwards
abbrev pub step : Limits → List Entry → State → ℕ → Call → BusAnswer × State
step limits history s app call = step_with (reads_after limits history) limits s app call

-- the bus after the entries that follow a history
abbrev pub state_from : Limits → List Entry → State → List Entry → State
state_from limits history s [] = s
state_from limits history s (e ∷ es) =
    state_from limits (history ++ e ∷ []) ((step limits history s e.app e.call).1) es

-- the bus after a history of so many applications
abbrev pub state_after : Limits → ℕ → List Entry → State
state_after limits apps history = state_from limits [] (opening limits apps) history

-- whether an application may make this call: a look while it waits on that pipe, its end while it
-- hasn't ended, every other call while it is active
abbrev pub may_call : Standing → Call → Bool
may_call Active (Look pipe) = false
may_call Active call = true
may_call (Waiting pipe) (Look other) = pipe == other
may_call (Waiting pipe) End = true
may_call (Waiting pipe) call = false
may_call Ended call = false

-- whether a call so answered makes an entry: a look that finds the application still waiting makes
-- none
abbrev pub makes_entry : Call → BusAnswer → Bool
makes_entry (Look pipe) Pending = false
makes_entry call answer = true

-- whether a call brings the bytes that it is about: the transmission of a buffer as many as the
-- application's buffer has, and none if the application has no such buffer
abbrev pub brings : List (List Buffer) → ℕ → Call → Bool
brings unsent app (TransmitBuffer buf bytes inc) = length bytes == unsent_size unsent app buf
brings unsent app call = true

-- each entry's application may make its call, with the bytes that it is about, and is answered what
-- the machine answers; no look stands there that found nothing
abbrev pub LegalFrom : Limits → List Entry → State → List Entry → Type 0
LegalFrom limits history s [] = Unit {0}
LegalFrom limits history s (e ∷ es) =
    IsTrue (may_call (standing_of s e.app) e.call)
    × (e.answer ≡ (step limits history s e.app e.call).0)
    × IsTrue (makes_entry e.call e.answer)
    × IsTrue (brings s.unsent e.app e.call)
    × LegalFrom limits (history ++ e ∷ []) ((step limits history s e.app e.call).1) es

-- a history that the bus can have
abbrev pub IsLegal : Limits → ℕ → List Entry → Type 0
IsLegal limits apps history = LegalFrom limits [] (opening limits apps) history

-- Read off a history. --

-- the entries that follow a history, each at its moment
abbrev pub moments_from : Limits → List Entry → State → List Entry → List Moment
moments_from limits history s [] = []
moments_from limits history s (e ∷ es) =
    let after = (step limits history s e.app e.call).1 in
    record { before = s; entry = e; after = after } ∷
    moments_from limits (history ++ e ∷ []) after es

-- the entries of a history of so many applications, each at its moment
abbrev pub moments : Limits → ℕ → List Entry → List Moment
moments limits apps history = moments_from limits [] (opening limits apps) history

-- the event desk of a history
abbrev pub desk_after : Limits → ℕ → List Entry → Desk
desk_after limits apps history = desk_told (moments limits apps history)

-- the statistics of a history
abbrev pub statistics_after : Limits → ℕ → List Entry → Statistics
statistics_after limits apps history = statistics_told limits (moments limits apps history)
