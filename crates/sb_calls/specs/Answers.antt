-- The answers of sends and receives, as entries of a history have them. Those of the other calls
-- are those of `bus_core`.
use Rattle.std.specs.Prelude.{Bool, true, false, Result, Ok, Err}
use Rattle.fsw_base.specs.declared.statuses.SbStatus.{SbStatus}
use Rattle.bus_words.specs.declared.calls.BusAnswer.{BusAnswer}
use Rattle.bus_words.specs.declared.calls.BusAnswer.TheVariants as answers
use Rattle.sb_calls.specs.declared.results.Sent.{Sent}
use Rattle.sb_calls.specs.declared.results.Pended.{Pended}
use Rattle.sb_calls.specs.declared.results.Pended.TheVariants as waits

-- what a send was answered
abbrev pub sent : Result Sent SbStatus → BusAnswer
sent (Ok it) = answers.Sent it.number it.reached
sent (Err status) = answers.Sb status

-- what a receive that may wait was answered
abbrev pub waited : Pended → BusAnswer
waited (waits.Got number) = answers.Got number
waited waits.TimeOut = answers.TimeOut
waited waits.Pending = answers.Pending

-- what a receive that may wait was answered, or its refusal
abbrev pub pended : Result Pended SbStatus → BusAnswer
pended (Ok it) = waited it
pended (Err status) = answers.Sb status

-- whether the application is to wait
abbrev pub is_pending : Pended → Bool
is_pending (waits.Got number) = false
is_pending waits.TimeOut = false
is_pending waits.Pending = true
