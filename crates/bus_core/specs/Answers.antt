-- The answers of the calls, as entries of a history have them.
use Rattle.std.specs.Prelude.{ℕ, Bool, true, false, List, Result, Ok, Err}
use Rattle.fsw_base.specs.declared.config.PoolStats.{PoolStats}
use Rattle.fsw_base.specs.declared.statuses.SbStatus.{SbStatus}
use Rattle.fsw_base.specs.declared.statuses.EsStatus.{EsStatus}
use Rattle.fsw_base.specs.declared.statuses.EvsStatus.{EvsStatus}
use Rattle.bus_words.specs.declared.calls.BusAnswer.{BusAnswer}
use Rattle.bus_words.specs.declared.calls.BusAnswer.TheVariants as answers
use Rattle.bus_core.specs.declared.sending.Sent.{Sent}
use Rattle.bus_core.specs.declared.receiving.Pended.{Pended}
use Rattle.bus_core.specs.declared.receiving.Pended.TheVariants as waits

-- the number of a pipe or of a buffer, or the option bits; or the refusal
abbrev pub numbered : Result ℕ SbStatus → BusAnswer
numbered (Ok number) = answers.Number number
numbered (Err status) = answers.Sb status

-- the name, or the refusal
abbrev pub named : Result (List ℕ) SbStatus → BusAnswer
named (Ok name) = answers.Name name
named (Err status) = answers.Sb status

-- done, or the refusal
abbrev pub done : Result (Unit {0}) SbStatus → BusAnswer
done (Ok nothing) = answers.Done
done (Err status) = answers.Sb status

-- what a send was answered
abbrev pub sent : Result Sent SbStatus → BusAnswer
sent (Ok it) = answers.Sent it.number it.reached
sent (Err status) = answers.Sb status

-- the number of a message, or the refusal
abbrev pub got : Result ℕ SbStatus → BusAnswer
got (Ok number) = answers.Got number
got (Err status) = answers.Sb status

-- what a receive that may wait was answered
abbrev pub waited : Pended → BusAnswer
waited (waits.Got number) = answers.Got number
waited waits.TimeOut = answers.TimeOut
waited waits.Pending = answers.Pending

-- what a receive that may wait was answered, or its refusal
abbrev pub pended : Result Pended SbStatus → BusAnswer
pended (Ok it) = waited it
pended (Err status) = answers.Sb status

-- whether the application is to wait
abbrev pub is_pending : Pended → Bool
is_pending (waits.Got number) = false
is_pending waits.TimeOut = false
is_pending waits.Pending = true

-- the number of a memory pool or of a grant, or the refusal
abbrev pub pool_told : Result ℕ EsStatus → BusAnswer
pool_told (Ok number) = answers.Number number
pool_told (Err status) = answers.Es status

-- the grant is back, or the refusal
abbrev pub grant_back : Result (Unit {0}) EsStatus → BusAnswer
grant_back (Ok nothing) = answers.Done
grant_back (Err status) = answers.Es status

-- done, or the refusal of the event services
abbrev pub event_told : Result (Unit {0}) EvsStatus → BusAnswer
event_told (Ok nothing) = answers.Done
event_told (Err status) = answers.Evs status

-- the figures of a memory pool, or the refusal
abbrev pub figures_told : Result PoolStats EsStatus → BusAnswer
figures_told (Ok figures) = answers.Pool figures
figures_told (Err status) = answers.Es status
