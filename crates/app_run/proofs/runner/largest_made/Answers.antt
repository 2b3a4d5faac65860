use Rattle.std.proofs.Common.{◌≤◌, All, take, subst, sym, arith}
use Rattle.std.proofs.lemmas.List.{take_all}
use Rattle.std.proofs.lemmas.List.Elements.{All-more, All-weaker}
use Rattle.std.proofs.lemmas.Option.{slice_get_within, get_or_from_slice_get}
use Rattle.script_lines.specs.declared.line.Line.{Line}
use Rattle.app_script.specs.Script.{app_at}
use Rattle.app_run.specs.Lines.{made_size}
use Rattle.app_run.proofs.runner.largest_made.Goals as goal

pub loop-i-preserved : goal.loop-i-preserved
loop-i-preserved c =
    let all = (app_at c.args.script.now c.args.app).lines in
    let line = c.line.result.now in
    let P : Line → Type 0 = λ l. made_size l ≤ c.larger-largest.result in
    All-more P all c.loop-i.i line (slice_get_within all c.loop-i.i line c.line.ensures)
    (All-weaker (λ l. made_size l ≤ c.loop-i.largest) P (λ l h. omega (arith, h, c.larger-largest.ensures.one)) (take c.loop-i.i all) c.loop-i.invariant)
    (subst P (sym (get_or_from_slice_get all c.loop-i.i line line c.line.ensures)) (omega (arith, c.larger-largest.ensures.other, c.made_size-size.ensures)))

pub returns : goal.returns
returns c =
    let all = (app_at c.args.script.now c.args.app).lines in
    subst (λ ls. All (λ l. made_size l ≤ c.loop-i.largest) ls)
    (take_all c.loop-i.i all (omega (arith, c.loop-i-test.false, c.lines-i-end.ensures.count))) c.loop-i.invariant
