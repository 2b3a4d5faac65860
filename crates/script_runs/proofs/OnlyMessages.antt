-- What pipes hold are messages, after every history: nothing else is delivered.
use Rattle.std.proofs.Common.{◌≡◌, ℕ, ◌==◌, ◌&&◌, not, Bool, true, false, cond, List, [], ◌∷◌, drop, Option, Some, None, IfSome, refl}
use Rattle.std.specs.Option.{is_some, option_and_then}
use Rattle.ccsds_msg.specs.Message.{IsMessage, fault, front_fault, message_id}
use Rattle.ccsds_msg.specs.declared.packet.MsgFault.{MsgFault}
use Rattle.ccsds_msg.proofs.MessageLemmas.{IsMessage-front, IsMessage-with_count}
use Rattle.fsw_base.specs.declared.statuses.SbStatus.TheVariants.{BadArgument, BufferInvalid}
use Rattle.fsw_base.specs.Limits.{Limits}
use Rattle.bus_words.specs.declared.history.Call.{Call}
use Rattle.bus_words.specs.declared.history.Call.TheVariants as calls
use Rattle.bus_words.specs.declared.history.Entry.{Entry}
use Rattle.bus_words.specs.Pipes.{queue_after}
use Rattle.bus_words.specs.declared.verdict.Verdict.{Verdict}
use Rattle.bus_words.specs.declared.verdict.Verdict.TheVariants.{Skip, OverLimit, In, Oldest, Full}
use Rattle.bus_words.specs.Bus.{Item, Pipe, Subscription, State, Active, Waiting, Sending, opening, owns, pipe_at, with_pipe, with_bits, with_standing, is_empty, others_idle, is_subscribed, route, has_unsent, verdict, item_for, offered, deliver, oldest, after_receive}
use Rattle.bus_words.specs.Refusals.{Refusal}
use Rattle.bus_words.specs.Machine.{cause, decided, transmit_cause, transmit_buffer_cause, front_of, buffer_gone, sent_along, passed_along, received, packet_in, next_count, delivered, state_after}
use Rattle.bus_words.proofs.Finds.{Each, Each-push, Each-filter}
use Rattle.bus_words.proofs.Steps.{by_bus-none, refused_if-none, after_refusal, state_from-keeps}
use Rattle.script_runs.specs.Told.{own_last}

-- an item that is a message
abbrev pub IsItem : Item → Type 0
IsItem item = IsMessage item.message

-- a pipe that holds nothing else
pub record HoldsMessages (pipe : Pipe) : Type 0 where
  pub queue : Each IsItem pipe.queue
  pub last : IfSome pipe.last IsItem

abbrev pub OnlyMessages : State → Type 0
OnlyMessages s = Each HoldsMessages s.pipes

-- Changes of pipes. --

each-with_pipe : (change : Pipe → Pipe) → ((pipe : Pipe) → HoldsMessages pipe → HoldsMessages (change pipe)) → (at : ℕ) (pipes : List Pipe) →
    Each HoldsMessages pipes → Each HoldsMessages (with_pipe change at pipes)
each-with_pipe change keeps at [] each = tt
each-with_pipe change keeps at (pipe ∷ pipes) each = (
  elim (pipe.number == at) as (λ b. HoldsMessages (cond {A = Pipe} b (change pipe) pipe)) [ true ↦ keeps pipe each.0 | false ↦ each.0 ],
  each-with_pipe change keeps at pipes each.1,
)

after_first : (items : List Item) → Each IsItem items → Each IsItem (drop 1 items)
after_first [] each = tt
after_first (item ∷ items) each = each.1

first_of : (items : List Item) → Each IsItem items → IfSome (oldest items) IsItem
first_of [] each = tt
first_of (item ∷ items) each = each.0

holds-receive : (pipe : Pipe) → HoldsMessages pipe → HoldsMessages (after_receive pipe)
holds-receive pipe holds = record { queue = after_first pipe.queue holds.queue; last = first_of pipe.queue holds.queue }

holds-bits : (bits : ℕ) (pipe : Pipe) → HoldsMessages pipe → HoldsMessages (with_bits bits pipe)
holds-bits bits pipe holds = record { queue = holds.queue; last = holds.last }

holds-offered : (sending : Sending) (sub : Subscription) → IsMessage sending.message → (pipe : Pipe) → HoldsMessages pipe → HoldsMessages (offered sending sub pipe)
holds-offered sending sub message pipe holds =
    record { queue = queued (verdict pipe sub sending.sender); last = holds.last }
  where
    queued : (told : Verdict) → Each IsItem (queue_after told (item_for sending sub) pipe.queue)
    queued Skip = holds.queue
    queued OverLimit = holds.queue
    queued In = Each-push IsItem pipe.queue (item_for sending sub) holds.queue message
    queued Oldest = Each-push IsItem (drop 1 pipe.queue) (item_for sending sub) (after_first pipe.queue holds.queue) message
    queued Full = holds.queue

each-deliver : (sending : Sending) → IsMessage sending.message → (subs : List Subscription) (pipes : List Pipe) → Each HoldsMessages pipes → Each HoldsMessages (deliver sending subs pipes)
each-deliver sending message [] pipes each = each
each-deliver sending message (sub ∷ subs) pipes each =
    each-deliver sending message subs (with_pipe (offered sending sub) sub.pipe pipes)
    (each-with_pipe (offered sending sub) (holds-offered sending sub message) sub.pipe pipes each)

-- Steps. --

-- what a send that isn't refused delivers
fault-none : (why : Option MsgFault) → is_some why ≡ false → why ≡ None
fault-none None none = refl
fault-none (Some other) none = absurd cc

delivers : (limits : Limits) (history : List Entry) (s : State) (bytes : List ℕ) (inc : Bool) → transmit_cause limits s bytes ≡ None → IsMessage (delivered limits history bytes inc)
delivers limits history s bytes inc none =
    let message : IsMessage bytes = fault-none (fault bytes) (refused_if-none (is_some (fault bytes)) BadArgument _ none).0 in
    by_mode inc message
  where
    by_mode : (counts : Bool) → IsMessage bytes → IsMessage (delivered limits history bytes counts)
    by_mode true message = IsMessage-with_count bytes (next_count limits history (message_id bytes)) message
    by_mode false message = message

sends : (limits : Limits) (subs : List Subscription) (sending : Sending) (s : State) → IsMessage sending.message → OnlyMessages s → OnlyMessages (sent_along limits subs sending s).1
sends limits [] sending s message only = only
sends limits (sub ∷ subs) sending s message only = each-deliver sending message (sub ∷ subs) s.pipes only

-- what a buffer's send that isn't refused delivers
fronts : (limits : Limits) (history : List Entry) (s : State) (app buf : ℕ) (bytes : List ℕ) (inc : Bool) → transmit_buffer_cause s app buf bytes ≡ None →
    IsMessage (delivered limits history (front_of bytes) inc)
fronts limits history s app buf bytes inc none =
    let first = (refused_if-none (not (has_unsent s.unsent app buf)) BufferInvalid _ none).1 in
    by_mode inc (IsMessage-front bytes (fault-none (front_fault bytes) (refused_if-none (is_some (front_fault bytes)) BadArgument _ first).0))
  where
    by_mode : (counts : Bool) → IsMessage (front_of bytes) → IsMessage (delivered limits history (front_of bytes) counts)
    by_mode true message = IsMessage-with_count (front_of bytes) (next_count limits history (message_id (front_of bytes))) message
    by_mode false message = message

passes : (subs : List Subscription) (sending : Sending) (s : State) → IsMessage sending.message → OnlyMessages s → OnlyMessages (passed_along subs sending s).1
passes [] sending s message only = only
passes (sub ∷ subs) sending s message only = each-deliver sending message (sub ∷ subs) s.pipes only

choice : (test : Bool) (one other : State) → OnlyMessages one → OnlyMessages other → OnlyMessages (cond {A = State} test one other)
choice true one other first second = first
choice false one other first second = second

only-decided : (limits : Limits) (history : List Entry) (s : State) (app : ℕ) (call : Call) (why : Option Refusal) → cause limits s app call ≡ why → OnlyMessages s →
    OnlyMessages (decided limits history s app call why).1
only-decided limits history s app call (Some why) is only =
    after_refusal OnlyMessages s call why only (λ at. each-with_pipe after_receive holds-receive at s.pipes only) (λ next follows. only)
only-decided limits history s app (calls.Create depth name) None is only = Each-push HoldsMessages s.pipes _ only (record { queue = tt; last = tt })
only-decided limits history s app (calls.Delete at) None is only = Each-filter HoldsMessages _ s.pipes only
only-decided limits history s app (calls.SetOpts at bits) None is only = each-with_pipe (with_bits bits) (holds-bits bits) at s.pipes only
only-decided limits history s app (calls.GetOpts at) None is only = only
only-decided limits history s app (calls.Find name) None is only = only
only-decided limits history s app (calls.PipeName at) None is only = only
only-decided limits history s app (calls.Subscribe id at limit scope) None is only = choice (is_subscribed s.subscriptions id at) s _ only only
only-decided limits history s app (calls.Unsubscribe id at) None is only = only
only-decided limits history s app (calls.Transmit bytes inc) None is only =
    sends limits (route s.subscriptions (message_id bytes)) _ s (delivers limits history s bytes inc (by_bus-none (transmit_cause limits s bytes) is)) only
only-decided limits history s app (calls.Receive at) None is only = each-with_pipe after_receive holds-receive at s.pipes only
only-decided limits history s app (calls.Pend at) None is only =
    let taken = each-with_pipe after_receive holds-receive at s.pipes only in
    choice (is_empty s.pipes at && not (others_idle s app)) (with_standing (received s at) app (Waiting at)) (received s at) taken taken
only-decided limits history s app (calls.Look at) None is only =
    choice (is_empty s.pipes at && not (others_idle s app)) s (with_standing (received s at) app Active) only (each-with_pipe after_receive holds-receive at s.pipes only)
only-decided limits history s app (calls.Allocate size) None is only = only
only-decided limits history s app (calls.TransmitBuffer buf bytes inc) None is only =
    passes (route s.subscriptions (message_id bytes)) _ (buffer_gone s app buf) (fronts limits history s app buf bytes inc (by_bus-none (transmit_buffer_cause s app buf bytes) is)) only
only-decided limits history s app (calls.Release buf) None is only = only
only-decided limits history s app (calls.PoolCreate bytes) None is only = only
only-decided limits history s app (calls.PoolGet pool size) None is only = only
only-decided limits history s app (calls.PoolPut pool grant) None is only = only
only-decided limits history s app (calls.PoolFigures pool) None is only = only
only-decided limits history s app (calls.Register filters) None is only = only
only-decided limits history s app (calls.SendEvent id kind text) None is only = only
only-decided limits history s app (calls.ResetFilter id) None is only = only
only-decided limits history s app (calls.LogMode mode) None is only = only
only-decided limits history s app calls.ClearLog None is only = only
only-decided limits history s app calls.Housekeeping None is only =
    sends limits (route s.subscriptions (message_id (packet_in limits s))) _ s
    (delivers limits history s (packet_in limits s) true (by_bus-none (transmit_cause limits s (packet_in limits s)) is)) only
only-decided limits history s app calls.Figures None is only = only
only-decided limits history s app calls.End None is only = Each-filter HoldsMessages _ s.pipes only

-- after every history
pub OnlyMessages-after : (limits : Limits) (apps : ℕ) (history : List Entry) → OnlyMessages (state_after limits apps history)
OnlyMessages-after limits apps history =
    state_from-keeps OnlyMessages limits (λ before s app call only. only-decided limits before s app call (cause limits s app call) refl only)
    [] (opening limits apps) history tt

-- an application's last message is one
last-found : (pipes : List Pipe) (number : ℕ) → Each HoldsMessages pipes → IfSome (option_and_then (λ pipe. pipe.last) (pipe_at pipes number)) IsItem
last-found [] number each = tt
last-found (pipe ∷ pipes) number each =
    elim (pipe.number == number) as (λ b. IfSome (option_and_then (λ (p : Pipe). p.last) (cond {A = Option Pipe} b (Some pipe) (pipe_at pipes number))) IsItem) [
      | true ↦ each.0.last
      | false ↦ last-found pipes number each.1
    ]

pub own_last-message : (limits : Limits) (apps : ℕ) (history : List Entry) (app number : ℕ) →
    IfSome (own_last (state_after limits apps history).pipes app number) (λ item. IsMessage item.message)
own_last-message limits apps history app number =
    let pipes = (state_after limits apps history).pipes in
    elim (owns pipes app number) as (λ b. IfSome (cond {A = Option Item} b (option_and_then (λ (pipe : Pipe). pipe.last) (pipe_at pipes number)) None) IsItem) [
      | true ↦ last-found pipes number (OnlyMessages-after limits apps history)
      | false ↦ tt
    ]
