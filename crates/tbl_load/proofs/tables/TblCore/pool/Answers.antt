use Rattle.std.proofs.Common.{◌≡◌, subst}
use Rattle.es_pool.specs.Account.{IsAccountOf}
use Rattle.es_pool.specs.Pool.{in_use_by}
use Rattle.tbl_words.specs.Tables.{State, account_of, bytes_in_use}
use Rattle.table_core.specs.Blocks.{IsTablePool}
use Rattle.tbl_load.specs.Bags.{lent_tables}
use Rattle.tbl_load.specs.Core.{Core, state_of}
use Rattle.tbl_load.proofs.TablePlaces.{pool_of_history}
use Rattle.tbl_load.proofs.tables.TblCore.pool.Goals as goal

pub returns-clause-blocks : goal.returns-clause-blocks
returns-clause-blocks c =
    let P : Core → Type 0 = λ core. IsTablePool (lent_tables core) c.pool.result.now in
    subst P c.self.view_is (pool_of_history c.self.inside c.self.invariant c.pool.result.now c.pool.ensures.blocks)

pub returns-clause-account : goal.returns-clause-account
returns-clause-account c =
    let P : Core → Type 0 = λ core. IsAccountOf c.pool.result.now (account_of core.limits (state_of core)) in
    subst P c.self.view_is
    (subst (λ (s : State). IsAccountOf c.pool.result.now (account_of c.self.inside.core.limits s)) c.self.invariant.state c.pool.ensures.account)

pub returns-clause-in_use : goal.returns-clause-in_use
returns-clause-in_use c =
    let pool = c.pool.result.now in
    let P : Core → Type 0 = λ core. in_use_by pool.sizes pool.blocks ≡ bytes_in_use core.limits.sizes (state_of core).tables in
    subst P c.self.view_is
    (subst (λ (s : State). in_use_by pool.sizes pool.blocks ≡ bytes_in_use c.self.inside.core.limits.sizes s.tables) c.self.invariant.state c.pool.ensures.in_use)
