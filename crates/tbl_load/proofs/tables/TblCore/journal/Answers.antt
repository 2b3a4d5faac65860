use Rattle.std.proofs.Common.{subst}
use Rattle.tbl_load.specs.Bags.{AreOneLoan}
use Rattle.tbl_load.specs.Core.{Core, IsLegalCore}
use Rattle.tbl_load.proofs.CoreBags.{one_loan}
use Rattle.tbl_load.proofs.tables.TblCore.journal.Goals as goal

pub returns-clause-legal : goal.returns-clause-legal
returns-clause-legal c = subst (λ (core : Core). IsLegalCore core) c.self.view_is c.self.invariant.legal

pub returns-clause-loans : goal.returns-clause-loans
returns-clause-loans c =
    let P : Core → Type 0 = λ core. AreOneLoan core in
    subst P c.self.view_is (one_loan c.self.inside c.self.invariant c.recall_loans.ensures)
