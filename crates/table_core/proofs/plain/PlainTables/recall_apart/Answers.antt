use Rattle.std.proofs.Common.{sym, ◌∙◌, subst, arith}
use Rattle.table_core.specs.Core.{Plain, AreTwoLoans}
use Rattle.table_core.proofs.Figures.{has_content}
use Rattle.table_core.proofs.TwoLoans.{none_held, none_held_too, two_versions, two_tables}
use Rattle.table_core.proofs.plain.PlainTables.recall_apart.Goals as goal

pub returns-in_default-clause-apart : goal.returns-in_default-clause-apart
returns-in_default-clause-apart c =
    subst (λ (core : Plain). AreTwoLoans core c.args.handle c.args.other) c.self.view_is
    (none_held c.self.inside c.args.handle c.args.other (sym c.find.ensures ∙ c.in_default.is))

pub returns-in_default-find-clause-apart : goal.returns-in_default-find-clause-apart
returns-in_default-find-clause-apart c =
    subst (λ (core : Plain). AreTwoLoans core c.args.handle c.args.other) c.self.view_is
    (none_held_too c.self.inside c.args.handle c.args.other (sym c.find-2.ensures ∙ c.in_default-find.is))

pub overflow_cast-row : goal.overflow_cast-row
overflow_cast-row c = omega (arith, (has_content c.self.inside c.self.invariant c.recall_ties.ensures c.args.handle c.in-Some.row (sym c.find.ensures ∙ c.in-Some.is)).small)

pub recall_versions-requires : goal.recall_versions-requires
recall_versions-requires c = (has_content c.self.inside c.self.invariant c.recall_ties.ensures c.args.handle c.in-Some.row (sym c.find.ensures ∙ c.in-Some.is)).present

pub returns-then-row-other_row-clause-apart : goal.returns-then-row-other_row-clause-apart
returns-then-row-other_row-clause-apart c =
    subst (λ (core : Plain). AreTwoLoans core c.args.handle c.args.other) c.self.view_is
    (two_versions c.self.inside c.self.invariant c.recall_ties.ensures c.args.handle c.args.other c.in-Some.row c.in-Some-find.other_row (sym c.find.ensures ∙ c.in-Some.is) (sym c.find-2.ensures ∙ c.in-Some-find.is)
    c.if-row-other_row.true c.recall_versions.ensures.apart)

pub overflow_cast-row-2 : goal.overflow_cast-row-2
overflow_cast-row-2 c = omega (arith, (has_content c.self.inside c.self.invariant c.recall_ties.ensures c.args.handle c.in-Some.row (sym c.find.ensures ∙ c.in-Some.is)).small)

pub overflow_cast-other_row : goal.overflow_cast-other_row
overflow_cast-other_row c = omega (arith, (has_content c.self.inside c.self.invariant c.recall_ties.ensures c.args.other c.in-Some-find.other_row (sym c.find-2.ensures ∙ c.in-Some-find.is)).small)

pub recall_apart-requires-clause-open : goal.recall_apart-requires-clause-open
recall_apart-requires-clause-open c = (has_content c.self.inside c.self.invariant c.recall_ties.ensures c.args.handle c.in-Some.row (sym c.find.ensures ∙ c.in-Some.is)).present

pub recall_apart-requires-clause-other_open : goal.recall_apart-requires-clause-other_open
recall_apart-requires-clause-other_open c = (has_content c.self.inside c.self.invariant c.recall_ties.ensures c.args.other c.in-Some-find.other_row (sym c.find-2.ensures ∙ c.in-Some-find.is)).present

pub returns-clause-apart : goal.returns-clause-apart
returns-clause-apart c =
    subst (λ (core : Plain). AreTwoLoans core c.args.handle c.args.other) c.self.view_is
    (two_tables c.self.inside c.self.invariant c.recall_ties.ensures c.args.handle c.args.other c.in-Some.row c.in-Some-find.other_row (sym c.find.ensures ∙ c.in-Some.is) (sym c.find-2.ensures ∙ c.in-Some-find.is)
    c.recall_apart.ensures.apart)
