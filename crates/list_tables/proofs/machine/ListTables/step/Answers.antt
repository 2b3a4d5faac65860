use Rattle.std.proofs.Common.{◌≡◌, IfOk, sym, ◌∙◌, subst}
use Rattle.std.specs.Result.{OnOk}
use Rattle.tbl_words.specs.declared.calls.TblAnswer.{TblAnswer}
use Rattle.tbl_words.specs.Entries.{call_of}
use Rattle.list_tables.specs.Kept.{Kept}
use Rattle.list_tables.proofs.Calls.{refused_answer, refused_leaves, accepted_answer, accepted_leaves}
use Rattle.list_tables.proofs.machine.ListTables.step.Goals as goal

pub returns-in-Some-clause-answer : goal.returns-in-Some-clause-answer
returns-in-Some-clause-answer c =
    refused_answer c.args.self.now c.args.app (call_of c.args.call.now) c.in-Some.why (sym c.in_ok-why.ensures ∙ c.in-Some.is)

pub returns-in-Some-clause-after : goal.returns-in-Some-clause-after
returns-in-Some-clause-after c =
    refused_leaves c.args.self.now c.args.app (call_of c.args.call.now) c.in-Some.why (sym c.in_ok-why.ensures ∙ c.in-Some.is)

pub returns-in-None-clause-answer : goal.returns-in-None-clause-answer
returns-in-None-clause-answer c =
    subst (λ (x : TblAnswer). IfOk c.accept.result (λ answer. answer ≡ x))
    (accepted_answer c.args.self.now c.args.app (call_of c.args.call.now) (sym c.in_ok-why.ensures ∙ c.in-None.is))
    c.accept.ensures.answer

pub returns-in-None-clause-after : goal.returns-in-None-clause-after
returns-in-None-clause-after c =
    subst (λ (x : Kept). OnOk c.accept.result (c.accept.new.self ≡ x))
    (accepted_leaves c.args.self.now c.args.app (call_of c.args.call.now) (sym c.in_ok-why.ensures ∙ c.in-None.is))
    c.accept.ensures.after
