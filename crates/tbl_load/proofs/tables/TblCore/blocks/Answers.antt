use Rattle.std.proofs.Common.{subst}
use Rattle.es_pool.specs.Account.{IsAccountOf}
use Rattle.tbl_words.specs.Tables.{State, account_of}
use Rattle.table_core.specs.Blocks.{AreTableBlocks}
use Rattle.tbl_load.specs.Bags.{lent_tables}
use Rattle.tbl_load.specs.Core.{Core, state_of}
use Rattle.tbl_load.proofs.TablePlaces.{blocks_of_history}
use Rattle.tbl_load.proofs.tables.TblCore.blocks.Goals as goal

pub returns-clause-blocks : goal.returns-clause-blocks
returns-clause-blocks c =
    let P : Core → Type 0 = λ core. AreTableBlocks c.blocks-tables.result.now (lent_tables core) in
    subst P c.self.view_is (blocks_of_history c.self.inside c.self.invariant c.blocks-tables.result.now c.blocks-tables.ensures.blocks)

pub returns-clause-account : goal.returns-clause-account
returns-clause-account c =
    let P : Core → Type 0 = λ core. IsAccountOf c.blocks-tables.result.now.pool (account_of core.limits (state_of core)) in
    subst P c.self.view_is
    (subst (λ (s : State). IsAccountOf c.blocks-tables.result.now.pool (account_of c.self.inside.core.limits s)) c.self.invariant.state c.blocks-tables.ensures.account)
