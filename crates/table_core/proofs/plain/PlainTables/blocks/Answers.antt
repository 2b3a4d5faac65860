use Rattle.std.proofs.Common.{subst}
use Rattle.es_pool.specs.Account.{IsAccountOf}
use Rattle.tbl_words.specs.Tables.{account_of}
use Rattle.table_core.specs.Blocks.{AreTableBlocks}
use Rattle.table_core.specs.Core.{Plain}
use Rattle.table_core.proofs.TablePlaces.{are_table_blocks}
use Rattle.table_core.proofs.plain.PlainTables.blocks.Goals as goal

pub returns-clause-blocks : goal.returns-clause-blocks
returns-clause-blocks c =
    let P : Plain → Type 0 = λ core. AreTableBlocks c.self.inside.blocks core in
    subst P c.self.view_is (are_table_blocks c.self.inside c.self.invariant c.recall_ties.ensures c.recall_blocks.ensures.placed c.recall_blocks.ensures.own c.recall_buffers.ensures)

pub returns-clause-account : goal.returns-clause-account
returns-clause-account c =
    subst (λ (p : Plain). IsAccountOf c.self.inside.blocks.pool (account_of p.limits p.state)) c.self.view_is c.self.invariant.account
