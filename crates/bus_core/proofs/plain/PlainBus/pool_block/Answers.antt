-- Where the block of a grant of a pool lies.
use Rattle.std.proofs.Common.{◌≡◌, ◌+◌, ◌≤◌, IfOk, get_or, subst}
use Rattle.std.specs.Result.{result_err}
use Rattle.app_pools.specs.declared.pool.GrantBlock.{GrantBlock}
use Rattle.fsw_base.specs.Grants.{pool_in, answer_in, put_answer, class_under}
use Rattle.bus_core.specs.Core.{Plain}
use Rattle.bus_core.proofs.plain.PlainBus.pool_block.Goals as goal

pub returns-clause-refused : goal.returns-clause-refused
returns-clause-refused c =
    subst (λ (o : Plain). result_err c.block.result ≡ result_err (answer_in o.whole.bus.pools c.args.pool (put_answer (pool_in o.whole.bus.pools c.args.pool) c.args.grant)))
    c.self.view_is c.block.ensures.refused

pub returns-clause-within : goal.returns-clause-within
returns-clause-within c =
    subst (λ (o : Plain). IfOk c.block.result (λ (block : GrantBlock). block.offset + block.size ≤ (pool_in o.whole.bus.pools c.args.pool).bytes))
    c.self.view_is c.block.ensures.within

pub returns-clause-size : goal.returns-clause-size
returns-clause-size c =
    subst (λ (o : Plain). IfOk c.block.result (λ (block : GrantBlock). block.size ≡ get_or (pool_in o.whole.bus.pools c.args.pool).sizes (class_under (pool_in o.whole.bus.pools c.args.pool).out c.args.grant) 0))
    c.self.view_is c.block.ensures.size
