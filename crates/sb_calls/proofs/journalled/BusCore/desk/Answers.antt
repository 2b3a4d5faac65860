use Rattle.std.proofs.Common.{subst}
use Rattle.es_pool.specs.Account.{IsAccountOf}
use Rattle.bus_words.specs.Bus.{State}
use Rattle.bus_words.specs.Held.{account_of}
use Rattle.bus_messages.specs.Blocks.{AreBlocks}
use Rattle.sb_calls.specs.Bags.{loans_of, descs_of}
use Rattle.sb_calls.specs.Core.{Core, state_of}
use Rattle.sb_calls.proofs.CoreBlocks.{blocks_over}
use Rattle.sb_calls.proofs.EntryLemma.{bus_is}
use Rattle.sb_calls.proofs.journalled.BusCore.desk.Goals as goal

pub returns-clause-blocks : goal.returns-clause-blocks
returns-clause-blocks c =
    let P : Core → Type 0 = λ core. AreBlocks c.desk.result.now (state_of core).pipes (loans_of core) (state_of core).unsent (descs_of core) in
    subst P c.self.view_is (blocks_over c.self.inside c.desk.result.now c.self.invariant c.desk.ensures.blocks)

pub returns-clause-account : goal.returns-clause-account
returns-clause-account c =
    let P : Core → Type 0 = λ core. IsAccountOf c.desk.result.now.pool (account_of core.limits (state_of core)) in
    subst P c.self.view_is
    (subst (λ (s : State). IsAccountOf c.desk.result.now.pool (account_of c.self.inside.core.limits s)) (bus_is c.self.inside c.self.invariant) c.desk.ensures.account)
