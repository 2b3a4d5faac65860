use Rattle.std.proofs.Common.{◌≡◌, true, ap, sym, ◌∙◌, subst}
use Rattle.fsw_base.specs.Blocks.{are_block_sizes}
use Rattle.es_pool.specs.Account.{IsAccountOf}
use Rattle.es_pool.specs.Pool.{PoolState}
use Rattle.tbl_words.specs.Tables.{account_of}
use Rattle.table_core.proofs.InUse.{in_use_is}
use Rattle.table_core.proofs.plain.PlainTables.pool.Goals as goal

pub returns-clause-blocks : goal.returns-clause-blocks
returns-clause-blocks c = record { blocks = c.blocks-tables.result.now; are = c.blocks-tables.ensures.blocks; is = c.pool-pool.ensures }

pub returns-clause-account : goal.returns-clause-account
returns-clause-account c =
    let core = c.args.self.now in
    subst (λ (p : PoolState). IsAccountOf p (account_of core.limits core.state)) (sym c.pool-pool.ensures) c.blocks-tables.ensures.account

pub returns-clause-in_use : goal.returns-clause-in_use
returns-clause-in_use c =
    let core = c.args.self.now in
    let account = returns-clause-account c in
    let fit : are_block_sizes core.limits.sizes ≡ true = ap are_block_sizes account.sizes ∙ c.recall_whole.ensures.sizes_fit in
    in_use_is core.limits core.state c.pool-pool.result.now fit account
