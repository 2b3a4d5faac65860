use Rattle.std.proofs.Common.{refl}
use Rattle.bus_words.specs.declared.history.Call.TheVariants.{TransmitBuffer, Release, PoolPut}
use Rattle.bus_core.proofs.Actives.{of_active}
use Rattle.bus_core.proofs.plain.PlainBus.is_active.Goals as goal

pub returns-clause-transmit : goal.returns-clause-transmit
returns-clause-transmit c = λ is buf bytes inc. of_active c.args.self.now c.args.app (TransmitBuffer buf bytes inc) refl refl (c.may_make.ensures.0 is)

pub returns-clause-release : goal.returns-clause-release
returns-clause-release c = λ is buf. of_active c.args.self.now c.args.app (Release buf) refl refl (c.may_make.ensures.0 is)

pub returns-clause-put : goal.returns-clause-put
returns-clause-put c = λ is pool grant. of_active c.args.self.now c.args.app (PoolPut pool grant) refl refl (c.may_make.ensures.0 is)
