use Rattle.std.proofs.Common.{subst}
use Rattle.table_core.specs.Core.{Plain, AreOneLoan}
use Rattle.table_core.proofs.OneLoan.{one_loan}
use Rattle.table_core.proofs.plain.PlainTables.recall_loans.Goals as goal

pub returns : goal.returns
returns c =
    let P : Plain → Type 0 = λ core. AreOneLoan core in
    subst P c.self.view_is (one_loan c.self.inside c.recall_ties.ensures)
