-- What a call of the bus does to the core behind a handle, and the status that it answers.
use Rattle.std.specs.Prelude.{◌≡◌, ℕ, Bool, true, false, [], Option, Some, None}
use Rattle.std.specs.Option.{option_map_or}
use Rattle.fsw_base.specs.declared.statuses.SbStatus.TheVariants.{BufAlocErr}
use Rattle.fsw_base.specs.declared.statuses.EsStatus.TheVariants.{ErrMemBlockSize}
use Rattle.housekeeping.specs.declared.names.CounterName.TheVariants.{Send}
use Rattle.fsw_base.specs.Grants.{has_numbers}
use Rattle.bus_words.specs.declared.calls.BusAnswer.{BusAnswer}
use Rattle.bus_words.specs.declared.history.Call.{Call}
use Rattle.bus_words.specs.declared.history.Call.TheVariants.{Delete, Transmit, Receive, Pend, Look, Allocate, TransmitBuffer, Release, PoolGet, Housekeeping, End}
use Rattle.bus_words.specs.Bus.{standing_of, waited_on}
use Rattle.bus_core.specs.Core.{Acts, with_tick, has_send_number}
use Rattle.bus_core.specs.Bags.{KeepsLoans}
use Rattle.checked_bus.specs.declared.refusal.Refusal.{Refusal}
use Rattle.checked_bus.specs.Box.{Boxed, KeepsOtherBags, KeepsOwnBuffers, KeepsOwnViews, bag_of}
use Rattle.fsw_core.specs.declared.Core.{Core}
use Rattle.fsw_c.specs.Codes.{closed_code}
use Rattle.fsw_c.specs.BusCodes.{unasked_code, bus_code, sb_code, es_code}

-- the call gives a number to a message or a buffer
abbrev pub takes_send_number : Call → Bool
takes_send_number (Transmit bytes inc) = true
takes_send_number (Allocate size) = true
takes_send_number Housekeeping = true
takes_send_number call = false

-- What an asked call leaves of the bags: all of them, or those of all other applications and of the
-- caller's own one the unsent buffers, with the loans of messages of all other pipes, or the views
-- of messages. An application that ends has none.
abbrev pub KeepsBagsBut : Boxed → Boxed → ℕ → Call → Type 0
KeepsBagsBut old new app (Delete pipe) =
    KeepsOtherBags old new app × KeepsOwnBuffers old new app × KeepsLoans old.core new.core pipe
KeepsBagsBut old new app (Receive pipe) =
    KeepsOtherBags old new app × KeepsOwnBuffers old new app × KeepsLoans old.core new.core pipe
KeepsBagsBut old new app (Pend pipe) =
    KeepsOtherBags old new app × KeepsOwnBuffers old new app × KeepsLoans old.core new.core pipe
KeepsBagsBut old new app (Look pipe) =
    KeepsOtherBags old new app × KeepsOwnBuffers old new app × KeepsLoans old.core new.core pipe
KeepsBagsBut old new app (Allocate size) = KeepsOtherBags old new app × KeepsOwnViews old new app
KeepsBagsBut old new app (TransmitBuffer number bytes inc) =
    KeepsOtherBags old new app × KeepsOwnViews old new app
KeepsBagsBut old new app (Release number) = KeepsOtherBags old new app × KeepsOwnViews old new app
KeepsBagsBut old new app End =
    KeepsOtherBags old new app ×
    (bag_of new app ≡ record (bag_of old app) { views = []; buffers = [] })
KeepsBagsBut old new app call = new.bags ≡ old.bags

-- The handle is closed; or the bus isn't asked, for this reason; or it takes one step of its
-- machine; or no number is left for the message, the buffer or the grant. The status is the number
-- of the answer. In the first two cases nothing changes, and the tables never change.
pub data BusCall (old new : Option Core) (app : ℕ) (call : Call)
    (reason : Boxed → Option Refusal) (status : ℕ) : Type 0 where
  Closed : old ≡ None → new ≡ None → status ≡ closed_code → BusCall old new app call reason status
  Unasked : (o : Core) (why : Refusal) → old ≡ Some o → new ≡ Some o → reason o.bus ≡ Some why →
      status ≡ unasked_code why → BusCall old new app call reason status
  Asked : (o n : Core) (answer : BusAnswer) → old ≡ Some o → new ≡ Some n →
      n.tables ≡ o.tables → KeepsBagsBut o.bus n.bus app call → reason o.bus ≡ None →
      Acts o.bus.core n.bus.core app call answer → status ≡ bus_code answer →
      BusCall old new app call reason status
  Spent : (o n : Core) → takes_send_number call ≡ true → old ≡ Some o → new ≡ Some n →
      n.tables ≡ o.tables → KeepsBagsBut o.bus n.bus app call → reason o.bus ≡ None →
      has_send_number o.bus.core.whole.bus ≡ false →
      n.bus.core ≡ with_tick o.bus.core Send → status ≡ sb_code BufAlocErr →
      BusCall old new app call reason status
  SpentGrants : (o : Core) (pool size : ℕ) → call ≡ PoolGet pool size → old ≡ Some o →
      new ≡ Some o → reason o.bus ≡ None →
      has_numbers o.bus.core.whole.bus.pools pool ≡ false → status ≡ es_code ErrMemBlockSize →
      BusCall old new app call reason status

-- A call that any application may make, and that is refused before for this reason, if there is
-- one.
abbrev pub AnyonesCall : Option Core → Option Core → Call → Option Refusal → ℕ → Type 0
AnyonesCall old new call reason status =
    (app : ℕ) → BusCall old new app call (λ bus. reason) status

-- the pipe that the application waits on; 0 if it doesn't wait, and if the handle is closed
abbrev pub pipe_waited_on : Option Core → ℕ → ℕ
pipe_waited_on old app =
    option_map_or (λ (o : Core). waited_on (standing_of o.bus.core.whole.bus app)) old 0

-- The answer of an accepted call of the bus.
abbrev pub AnswersBus : Option Core → Option Core → ℕ → Call → BusAnswer → Type 0
AnswersBus old new app call answer =
    (o n : Core) → old ≡ Some o → new ≡ Some n → Acts o.bus.core n.bus.core app call answer

-- this is so of the cores before and behind an open handle's call
abbrev pub AtCores : Option Core → Option Core → (Core → Core → Type 0) → Type 0
AtCores old new P = (o n : Core) → old ≡ Some o → new ≡ Some n → P o n
