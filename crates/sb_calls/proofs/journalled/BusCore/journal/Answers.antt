use Rattle.std.proofs.Common.{subst}
use Rattle.sb_calls.specs.Bags.{AreOneLoan}
use Rattle.sb_calls.specs.Core.{Core, StandAlone, IsNoted}
use Rattle.sb_calls.specs.Inside.{core_of}
use Rattle.sb_calls.proofs.PipeMessages.{all_alone}
use Rattle.sb_calls.proofs.CoreBags.{one_loan}
use Rattle.sb_calls.proofs.journalled.BusCore.journal.Goals as goal

pub returns-clause-alone : goal.returns-clause-alone
returns-clause-alone c =
    let P : Core → Type 0 = λ core. StandAlone core in
    subst P c.self.view_is (all_alone (core_of c.self.inside) c.self.invariant.legal)

pub returns-clause-noted : goal.returns-clause-noted
returns-clause-noted c =
    let P : Core → Type 0 = λ core. IsNoted core in
    subst P c.self.view_is c.self.invariant.due

pub returns-clause-loans : goal.returns-clause-loans
returns-clause-loans c =
    let P : Core → Type 0 = λ core. AreOneLoan core in
    subst P c.self.view_is (one_loan c.self.inside c.self.invariant c.recall_loans.ensures)
