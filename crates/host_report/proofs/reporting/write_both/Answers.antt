use Rattle.std.proofs.Common.{codes, subst, sym}
use Rattle.std.proofs.lemmas.Result.{on_err_weaker, on_ok_weaker}
use Rattle.text_page.specs.Pieces.{CutShort, Grew}
use Rattle.host_report.specs.Parts.{side_shown}
use Rattle.host_report.proofs.TwoTexts.{both_are, cut_first, cut_second, grew_both, on_err_any}
use Rattle.host_report.proofs.reporting.write_both.Goals as goal

pub returns-in_err-write_side-clause-err : goal.returns-in_err-write_side-clause-err
returns-in_err-write_side-clause-err g c =
    on_err_any c.from_residual.result
    (subst (CutShort c.args.sink.now.written c.write_side.new.sink.written) (sym (both_are c.args.one.now c.args.two.now))
    (cut_first c.args.sink.now.written c.write_side.new.sink.written (side_shown (codes "side 1\n") c.args.one.now) (side_shown (codes "side 2\n") c.args.two.now) c.in_err-write_side.ensures.err))

pub returns-clause-ok : goal.returns-clause-ok
returns-clause-ok g c =
    let old = c.args.sink.now.written in
    on_ok_weaker c.write_side-2.result
    (λ grew. subst (Grew old c.write_side-2.new.sink.written) (sym (both_are c.args.one.now c.args.two.now))
    (grew_both old c.write_side.new.sink.written c.write_side-2.new.sink.written (side_shown (codes "side 1\n") c.args.one.now) (side_shown (codes "side 2\n") c.args.two.now) c.in_ok-write_side.ensures.ok grew))
    c.write_side-2.ensures.ok

pub returns-clause-err : goal.returns-clause-err
returns-clause-err g c =
    let old = c.args.sink.now.written in
    let new = c.write_side-2.new.sink.written in
    on_err_weaker c.write_side-2.result
    (λ cut. subst (CutShort old new) (sym (both_are c.args.one.now c.args.two.now))
    (cut_second old c.write_side.new.sink.written new (side_shown (codes "side 1\n") c.args.one.now) (side_shown (codes "side 2\n") c.args.two.now) c.in_ok-write_side.ensures.ok cut))
    c.write_side-2.ensures.err
