use Rattle.std.proofs.Common.{List, replicate, Some, refl, ap, sym, ◌∙◌, subst, arith}
use Rattle.tbl_rules.specs.declared.rules.Rule.{Rule}
use Rattle.tbl_words.specs.declared.history.Call.TheVariants.{Register}
use Rattle.table_core.specs.Answers.{registered}
use Rattle.fsw_c.specs.Rules.{rules_in}
use Rattle.fsw_c.specs.TableAnswers.{TableCall}
use Rattle.fsw_c.specs.TableCodes.{registration_code}
use Rattle.fsw_c.proofs.Many.{refused-many, too-long}
use Rattle.fsw_c.proofs.TableSteps.{called-as, if_ok}
use Rattle.fsw_c.proofs.registering.fsw_raw_table_register.Goals as goal

pub returns-clause-call : goal.returns-clause-call
returns-clause-call c =
    let call = Register c.args.name.now c.args.size c.args.option c.as_slice.result.now in
    let e = c.register-answer-2 in
    subst (λ (rules : List Rule). TableCall c.args.core.now.held.value c.open-2.result.held.value c.args.app (Register c.args.name.now c.args.size c.args.option rules) c.code_of_registration-2.result) (c.as_slice.ensures.rules ∙ c.in-Some-rules_of.ensures.value)
    (called-as registered _ _ c.deref_mut-2.result.now _ c.args.app call (c.in-Some.ensures.taken ∙ ap Some (sym c.deref_mut-2.ensures.value)) c.open-2.ensures refl registration_code (λ answer. refl) (λ why. refl)
    e.result _ c.code_of_registration-2.ensures e.ensures.unasked e.ensures.nothing e.ensures.does (if_ok e.result e.ensures.bags))

pub returns-in_default-rules_of-clause-call : goal.returns-in_default-rules_of-clause-call
returns-in_default-rules_of-clause-call c =
    let e = c.register-answer in
    refused-many _ _ c.deref_mut.result.now _ c.args.app c.args.size c.args.option c.args.name.now (rules_in c.args.rules.now) (replicate 9 (record { offset = 0; low = 0; high = 0 })) (c.in-Some.ensures.taken ∙ ap Some (sym c.deref_mut.ensures.value)) c.open.ensures refl
    (too-long c.rules_of.result c.args.rules.now c.rules_of.ensures.valid.1 c.in_default-rules_of.is) (omega arith) e.result _ c.code_of_registration.ensures e.ensures.unasked e.ensures.nothing
