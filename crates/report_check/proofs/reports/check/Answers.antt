use Rattle.std.proofs.Common.{rules, subst}
use Rattle.bus_replay.specs.declared.all_lines.BusReplayed.{BusReplayed}
use Rattle.bus_replay.specs.Replayed.{AreReplayed, AreFirstWrong}
use Rattle.report_check.proofs.Judging.{head_missing, head_there, if_ok_more, past_bus, wrong_on_bus}
use Rattle.report_check.proofs.reports.check.Goals as goal

pub returns-then-not-take : goal.returns-then-not-take
returns-then-not-take c =
    head_missing c.args.script.now c.args.report.now c.new-text.result c.take.new.self c.head_of-head.result.now c.take.result c.in_ok-wrong_line.field-0
    c.recall_ranges.ensures.text c.new-text.ensures c.head_of-head.ensures (search rules) c.take.ensures (search rules)

pub returns-in-Whole : goal.returns-in-Whole
returns-in-Whole c =
    let script = c.args.script.now in
    let bytes = c.args.report.now in
    let head = head_there script bytes c.new-text.result c.take.new.self c.head_of-head.result.now c.take.result c.new-text.ensures c.head_of-head.ensures (search rules) c.take.ensures in
    let lines = subst (λ (r : BusReplayed). AreReplayed script c.take.new.self c.replay_bus.new.text r) c.in-Whole.is c.in_ok-bus.ensures.judged in
    if_ok_more c.check_tables.result (λ verdict answers. answers bytes (past_bus script bytes c.take.new.self c.replay_bus.new.text c.in-Whole.bus head lines)) c.check_tables.ensures

pub returns-in-Wrong : goal.returns-in-Wrong
returns-in-Wrong c =
    let script = c.args.script.now in
    let bytes = c.args.report.now in
    let head = head_there script bytes c.new-text.result c.take.new.self c.head_of-head.result.now c.take.result c.new-text.ensures c.head_of-head.ensures (search rules) c.take.ensures in
    wrong_on_bus script bytes c.take.new.self c.in-Wrong.line head
    (subst (λ (r : BusReplayed). AreFirstWrong script c.take.new.self r) c.in-Wrong.is c.in_ok-bus.ensures.first)
