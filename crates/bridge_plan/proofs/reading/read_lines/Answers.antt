use Rattle.std.proofs.Common.{◌≡◌, length, sym, subst, arith}
use Rattle.std.proofs.lemmas.Bool.Decides.{nat_tests}
use Rattle.app_script.specs.declared.fail.ReadFail.{ReadFail}
use Rattle.script_words.specs.Text.{lines_of}
use Rattle.bridge_plan.specs.Inside.{after_plan_lines}
use Rattle.app_script.specs.Whole.{FailsAs}
use Rattle.app_script.proofs.ReadLemmas.{first_text, others_text}
use Rattle.bridge_plan.proofs.PlanLines.{lines_more, lines_fault, lines_end}
use Rattle.bridge_plan.proofs.reading.read_lines.Goals as goal

pub returns-in-Err : goal.returns-in-Err
returns-in-Err c =
    subst (λ (f : ReadFail). FailsAs f (after_plan_lines 1 c.args.reading.now (lines_of c.args.bytes.now))) (sym c.located_failure.ensures)
    (lines_fault c.loop-rest.number c.loop-rest.reading (lines_of c.loop-rest.rest.now) (lines_of c.first_line.result.1.now) c.first_line.result.0.now c.in-Err.failure
    (after_plan_lines 1 c.args.reading.now (lines_of c.args.bytes.now)) c.in-Err.ensures c.first_line.ensures.lines c.loop-rest.invariant.read)

pub line-requires : goal.line-requires
line-requires c = λ plain. first_text (lines_of c.loop-rest.rest.now) (lines_of c.first_line.result.1.now) c.first_line.result.0.now c.first_line.ensures.lines (c.loop-rest.invariant.text plain)

pub loop-rest-preserved : goal.loop-rest-preserved
loop-rest-preserved c = record {
  read = lines_more c.loop-rest.number c.loop-rest.reading c.line.new.self (lines_of c.loop-rest.rest.now) (lines_of c.first_line.result.1.now) c.first_line.result.0.now
      (after_plan_lines 1 c.args.reading.now (lines_of c.args.bytes.now)) c.in-Ok.ensures c.first_line.ensures.lines c.loop-rest.invariant.read;
  count = omega (arith, c.first_line.ensures.shorter, c.loop-rest.invariant.count);
  text = λ plain. others_text (lines_of c.loop-rest.rest.now) (lines_of c.first_line.result.1.now) c.first_line.result.0.now c.first_line.ensures.lines (c.loop-rest.invariant.text plain);
}

pub returns : goal.returns
returns c =
    let none : length c.loop-rest.rest.now ≡ 0 = grind (arith, nat_tests) in
    lines_end c.loop-rest.number c.loop-rest.reading c.loop-rest.rest.now (after_plan_lines 1 c.args.reading.now (lines_of c.args.bytes.now)) none c.loop-rest.invariant.read
