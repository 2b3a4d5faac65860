use Rattle.std.proofs.Common.{◌≡◌, sum_by, subst}
use Rattle.es_pool.specs.Account.{IsAccountOf}
use Rattle.es_pool.specs.Pool.{in_use_by}
use Rattle.bus_words.specs.Bus.{State}
use Rattle.bus_words.specs.Held.{account_of, held, block_of}
use Rattle.bus_messages.specs.Blocks.{IsBlockPool}
use Rattle.sb_calls.specs.Bags.{loans_of, descs_of}
use Rattle.sb_calls.specs.Core.{Core, state_of}
use Rattle.sb_calls.proofs.CoreBlocks.{pool_over}
use Rattle.sb_calls.proofs.EntryLemma.{bus_is}
use Rattle.sb_calls.proofs.journalled.BusCore.pool.Goals as goal

pub returns-clause-blocks : goal.returns-clause-blocks
returns-clause-blocks c =
    let P : Core → Type 0 = λ core. IsBlockPool c.pool.result.now (state_of core).pipes (loans_of core) (state_of core).unsent (descs_of core) in
    subst P c.self.view_is (pool_over c.self.inside c.pool.result.now c.self.invariant c.pool.ensures.blocks)

pub returns-clause-account : goal.returns-clause-account
returns-clause-account c =
    let P : Core → Type 0 = λ core. IsAccountOf c.pool.result.now (account_of core.limits (state_of core)) in
    subst P c.self.view_is
    (subst (λ (s : State). IsAccountOf c.pool.result.now (account_of c.self.inside.core.limits s)) (bus_is c.self.inside c.self.invariant) c.pool.ensures.account)

pub returns-clause-in_use : goal.returns-clause-in_use
returns-clause-in_use c =
    let pool = c.pool.result.now in
    let P : Core → Type 0 = λ core. in_use_by pool.sizes pool.blocks ≡ sum_by (block_of core.limits.sizes (state_of core).pipes (state_of core).unsent) (held (state_of core).pipes (state_of core).unsent (state_of core).numbers_given) in
    subst P c.self.view_is
    (subst (λ (s : State). in_use_by pool.sizes pool.blocks ≡ sum_by (block_of c.self.inside.core.limits.sizes s.pipes s.unsent) (held s.pipes s.unsent s.numbers_given)) (bus_is c.self.inside c.self.invariant) c.pool.ensures.in_use)
