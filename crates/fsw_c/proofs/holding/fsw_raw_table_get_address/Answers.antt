use Rattle.std.proofs.Common.{Some, refl, ap, sym, ◌∙◌}
use Rattle.tbl_words.specs.declared.history.Call.TheVariants.{GetAddress}
use Rattle.table_core.specs.Answers.{plain_addressed}
use Rattle.fsw_c.specs.TableCodes.{address_code}
use Rattle.fsw_c.proofs.TableSteps.{called-as, both}
use Rattle.fsw_c.proofs.holding.fsw_raw_table_get_address.Goals as goal

pub returns-clause-call : goal.returns-clause-call
returns-clause-call c =
    let e = c.get_address-answer in
    called-as plain_addressed _ _ c.deref_mut.result.now _ c.args.app (GetAddress c.args.handle) (c.in-Some.ensures.taken ∙ ap Some (sym c.deref_mut.ensures.value)) c.open.ensures refl address_code (λ answer. refl) (λ why. refl)
    e.result _ c.code_of_address.ensures e.ensures.unasked e.ensures.nothing e.ensures.does (both _ _ e.result e.ensures.others e.ensures.own)
