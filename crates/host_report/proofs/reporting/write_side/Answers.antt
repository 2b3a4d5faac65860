use Rattle.std.proofs.Common.{◌++◌, subst, sym}
use Rattle.std.proofs.lemmas.Result.{on_err_weaker, on_ok_weaker}
use Rattle.text_page.specs.Pieces.{CutShort, Grew}
use Rattle.host_report.specs.Parts.{part_shown}
use Rattle.host_report.specs.declared.reporting.Part.TheVariants.{Whole}
use Rattle.host_report.proofs.TwoTexts.{cut_first, cut_second, grew_both, on_err_any, side_is}
use Rattle.host_report.proofs.reporting.write_side.Goals as goal

pub returns-in_err-write_text-clause-err : goal.returns-in_err-write_text-clause-err
returns-in_err-write_text-clause-err g c =
    let side = c.args.side.now in
    on_err_any c.from_residual.result
    (subst (CutShort c.args.sink.now.written c.write_text.new.sink.written) (sym (side_is c.args.line.now side))
    (cut_first c.args.sink.now.written c.write_text.new.sink.written c.args.line.now (part_shown Whole side.bus side.tables side.receipts.items) c.in_err-write_text.ensures.err))

pub returns-clause-ok : goal.returns-clause-ok
returns-clause-ok g c =
    let side = c.args.side.now in
    let old = c.args.sink.now.written in
    let new = c.write_part.new.sink.written in
    on_ok_weaker c.write_part.result
    (λ grew. subst (Grew old new) (sym (side_is c.args.line.now side))
    (subst (λ l. Grew old new (c.args.line.now ++ part_shown Whole side.bus side.tables l)) c.as_slice-receipts.ensures.value
    (grew_both old c.write_text.new.sink.written new c.args.line.now (part_shown Whole side.bus side.tables c.as_slice-receipts.result.now) c.in_ok-write_text.ensures.ok grew)))
    c.write_part.ensures.ok

pub returns-clause-err : goal.returns-clause-err
returns-clause-err g c =
    let side = c.args.side.now in
    let old = c.args.sink.now.written in
    let new = c.write_part.new.sink.written in
    on_err_weaker c.write_part.result
    (λ cut. subst (CutShort old new) (sym (side_is c.args.line.now side))
    (subst (λ l. CutShort old new (c.args.line.now ++ part_shown Whole side.bus side.tables l)) c.as_slice-receipts.ensures.value
    (cut_second old c.write_text.new.sink.written new c.args.line.now (part_shown Whole side.bus side.tables c.as_slice-receipts.result.now) c.in_ok-write_text.ensures.ok cut)))
    c.write_part.ensures.err
