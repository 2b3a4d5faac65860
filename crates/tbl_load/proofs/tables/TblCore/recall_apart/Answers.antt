use Rattle.std.proofs.Common.{subst, sym}
use Rattle.table_core.specs.Core.{Plain}
use Rattle.tbl_load.specs.declared.tables.TblCore.TheInside.{Inside}
use Rattle.tbl_load.specs.Bags.{AreTwoLoans}
use Rattle.tbl_load.specs.Core.{Core}
use Rattle.tbl_load.specs.Inside.{Stands}
use Rattle.tbl_load.proofs.CoreBags.{two_loans}
use Rattle.tbl_load.proofs.tables.TblCore.recall_apart.Goals as goal

pub invariant_of-self : goal.invariant_of-self
invariant_of-self c =
    subst (λ (core : Plain). let a : Inside = record c.self.inside { core = core } in Stands a) (sym c.recall_apart.ensures.same) c.self.invariant

pub returns-clause-apart : goal.returns-clause-apart
returns-clause-apart c =
    let P : Core → Type 0 = λ core. AreTwoLoans core c.args.handle c.args.other in
    subst P c.self.view_is (two_loans c.self.inside c.self.invariant c.args.handle c.args.other c.recall_apart.ensures.apart)
