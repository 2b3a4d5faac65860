-- What a receive is answered, as an entry of a history has it.
use Rattle.std.specs.Prelude.{Result, Ok, Err}
use Rattle.fsw_base.specs.declared.statuses.SbStatus.{SbStatus}
use Rattle.bus_words.specs.declared.calls.BusAnswer.{BusAnswer}
use Rattle.bus_words.specs.declared.calls.BusAnswer.TheVariants.{Got, Sb}
use Rattle.checked_bus.specs.declared.received_message.ReceivedMessage.{ReceivedMessage}

-- the number of the message received, or the refusal
abbrev pub received : Result ReceivedMessage SbStatus → BusAnswer
received (Ok it) = Got it.number
received (Err status) = Sb status
