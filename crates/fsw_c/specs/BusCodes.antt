-- The numbers of statuses of the bus: those of cFE if cFE has one, else one with service number
-- 0, which cFE leaves free.
use Rattle.std.specs.Prelude.{ℕ, Result, Ok, Err}
use Rattle.fsw_base.specs.declared.statuses.SbStatus.{SbStatus}
use Rattle.fsw_base.specs.declared.statuses.SbStatus.TheVariants as sb
use Rattle.fsw_base.specs.declared.statuses.EsStatus.{EsStatus}
use Rattle.fsw_base.specs.declared.statuses.EsStatus.TheVariants as es
use Rattle.fsw_base.specs.declared.statuses.EvsStatus.{EvsStatus}
use Rattle.fsw_base.specs.declared.statuses.EvsStatus.TheVariants as evs
use Rattle.bus_words.specs.declared.calls.BusAnswer.{BusAnswer}
use Rattle.bus_words.specs.declared.calls.BusAnswer.TheVariants as bus
use Rattle.bus_core.specs.Answers.{waited}
use Rattle.bus_core.specs.declared.receiving.Pended.{Pended}
use Rattle.checked_bus.specs.declared.waits.LookAnswer.{LookAnswer}
use Rattle.checked_bus.specs.declared.refusal.Refusal.{Refusal}
use Rattle.checked_bus.specs.declared.refusal.Refusal.TheVariants as why

abbrev pub sb_code : SbStatus → ℕ
sb_code sb.NoMessage = 3388997634
sb_code sb.BadArgument = 3388997635
sb_code sb.MaxPipesMet = 3388997636
sb_code sb.PipeCrErr = 3388997637
sb_code sb.MsgTooBig = 3388997639
sb_code sb.BufAlocErr = 3388997640
sb_code sb.MaxMsgsMet = 3388997641
sb_code sb.MaxDestsMet = 3388997642
sb_code sb.BufferInvalid = 3388997646

abbrev pub es_code : EsStatus → ℕ
es_code es.NoPool = 3288334337
es_code es.ErrMemBlockSize = 3288334344
es_code es.BufferNotInPool = 3288334373
es_code es.PoolBlockInvalid = 3288334380

abbrev pub evs_code : EvsStatus → ℕ
evs_code evs.AppNotRegistered = 3254779906
evs_code evs.EvtNotRegistered = 3254779910

-- what the bus answered
abbrev pub bus_code : BusAnswer → ℕ
bus_code (bus.Sb status) = sb_code status
bus_code (bus.Es status) = es_code status
bus_code (bus.Evs status) = evs_code status
bus_code bus.TimeOut = 3388997633
bus_code bus.Pending = 1073741825
bus_code answer = 0

-- why the bus wasn't asked
abbrev pub unasked_code : Refusal → ℕ
unasked_code why.NoApplication = 3221225477
unasked_code why.TooLong = 3221225478
unasked_code why.NotActive = 3221225479
unasked_code why.NoNumbers = 3221225480
unasked_code why.NoRoom = 3221225481
unasked_code why.BufferOut = 3221225482
unasked_code why.NotItsBlock = 3388997646
unasked_code why.NoScope = 3388997635
unasked_code why.NoKind = 3254779912
unasked_code why.NoMode = 3254779912
unasked_code why.SameFilter = 3254779912

-- what a call of the bus answered, of which an accepted one answers 0
abbrev pub answer_code : {T E : Type 0} → (E → ℕ) → Result T E → ℕ
answer_code code (Ok answer) = 0
answer_code code (Err status) = code status

-- the same of a call of the box
abbrev pub call_code : {T E : Type 0} → (E → ℕ) → Result (Result T E) Refusal → ℕ
call_code code (Ok answer) = answer_code code answer
call_code code (Err refusal) = unasked_code refusal

-- of one that is never refused, if it is asked
abbrev pub plain_code : {T : Type 0} → Result T Refusal → ℕ
plain_code (Ok nothing) = 0
plain_code (Err refusal) = unasked_code refusal

-- of a receive that may wait
abbrev pub pend_code : Result (Result Pended SbStatus) Refusal → ℕ
pend_code (Ok (Ok answer)) = bus_code (waited answer)
pend_code (Ok (Err status)) = sb_code status
pend_code (Err refusal) = unasked_code refusal

-- of a look
abbrev pub look_code : Result LookAnswer Refusal → ℕ
look_code (Ok looked) = bus_code (waited looked.answer)
look_code (Err refusal) = unasked_code refusal
