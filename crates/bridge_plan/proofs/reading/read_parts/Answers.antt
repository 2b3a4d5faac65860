use Rattle.std.proofs.Common.{sym, ap, ◌∙◌, subst}
use Rattle.std.proofs.lemmas.Result.{err_from_is_err_and}
use Rattle.script_words.specs.Text.{lines_of}
use Rattle.app_script.specs.Whole.{FailsAs, GivesScript}
use Rattle.bridge_plan.specs.Inside.{after_plan_lines}
use Rattle.bridge_plan.proofs.PartLaws.{plan_from, plan_fault}
use Rattle.bridge_plan.proofs.PlanRanges.{plan_is}
use Rattle.bridge_plan.proofs.reading.read_parts.Goals as goal

pub returns-in_err-read_lines : goal.returns-in_err-read_lines
returns-in_err-read_lines c =
    let p = err_from_is_err_and c.from_residual-in_err-read_lines.result c.from_residual-in_err-read_lines.ensures.1 in
    let fails = subst (λ s. FailsAs c.in_err-read_lines.field-0.0 (after_plan_lines 1 s (lines_of c.args.bytes.now))) c.in_ok-reading.ensures c.in_err-read_lines.ensures in
    rw (p.1, p.2) (plan_fault (lines_of c.args.bytes.now) c.in_err-read_lines.field-0.0 c.requires.parts fails)

pub into_plan-requires : goal.into_plan-requires
into_plan-requires c =
    let read = ap (λ s. after_plan_lines 1 s (lines_of c.args.bytes.now)) (sym c.in_ok-reading.ensures) ∙ c.in_ok-read_lines.ensures in
    λ started. plan_is (lines_of c.args.bytes.now) c.read_lines.new.reading c.requires.parts read started

pub returns : goal.returns
returns c =
    let read = ap (λ s. after_plan_lines 1 s (lines_of c.args.bytes.now)) (sym c.in_ok-reading.ensures) ∙ c.in_ok-read_lines.ensures in
    subst (GivesScript c.into_plan.result) (plan_from (lines_of c.args.bytes.now) c.read_lines.new.reading c.requires.parts read) c.into_plan.ensures
