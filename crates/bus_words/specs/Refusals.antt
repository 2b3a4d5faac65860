-- Refusals of all services in one form: each names a status of the service that refuses.
use Rattle.fsw_base.specs.declared.statuses.SbStatus.{SbStatus}
use Rattle.fsw_base.specs.declared.statuses.EsStatus.{EsStatus}
use Rattle.fsw_base.specs.declared.statuses.EvsStatus.{EvsStatus}
use Rattle.bus_words.specs.declared.calls.BusAnswer.{BusAnswer}
use Rattle.bus_words.specs.declared.calls.BusAnswer.TheVariants.{Sb, Es, Evs}

-- Why a call is refused, by the service that refuses it.
pub data Refusal : Type 0 where
  -- the software bus
  OfBus : SbStatus → Refusal
  -- the memory pools
  OfPools : EsStatus → Refusal
  -- the event services
  OfEvents : EvsStatus → Refusal

-- what a refused call answers: the status
abbrev pub refusal_answer : Refusal → BusAnswer
refusal_answer (OfBus status) = Sb status
refusal_answer (OfPools status) = Es status
refusal_answer (OfEvents status) = Evs status
