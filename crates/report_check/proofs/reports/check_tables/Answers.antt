use Rattle.std.proofs.Common.{◌≡◌, ◌≤◌, length, codes, rules, ap, ◌∙◌, subst, arith}
use Rattle.table_replay.specs.declared.all_lines.TablesReplayed.{TablesReplayed}
use Rattle.table_replay.specs.Replayed.{AreReplayed, AreFirstWrong}
use Rattle.report_check.specs.Tails.{tail_kept}
use Rattle.report_check.proofs.Judging.{if_ok_more, judged_at_end, no_heading, not_taken, table_places, taken, wrong_on_tables}
use Rattle.report_check.proofs.reports.check_tables.Goals as goal

pub tail_of-requires-clause-tables : goal.tail_of-requires-clause-tables
tail_of-requires-clause-tables c =
    let script = c.args.script.now in
    let lines = subst (λ (r : TablesReplayed). AreReplayed script c.take.new.self c.replay_tables.new.text r) c.in-Whole.is c.in_ok-tables.ensures.judged in
    let some : 1 ≤ length script.apps = omega (arith, c.apps.ensures.some, c.apps.ensures.count) in
    omega (arith, c.apps.ensures.count, table_places script c.in-Whole.tables lines.history lines.replayed lines.same some)

pub returns-then-not-take : goal.returns-then-not-take
returns-then-not-take c = λ bytes past.
    let missed = not_taken c.take.result c.args.text.now c.take.new.self (codes "tables\n") (search rules) c.take.ensures in
    no_heading c.args.script.now bytes c.args.text.now c.take.new.self c.args.bus.now c.in_ok-wrong_line.field-0 c.recall_ranges.ensures.text past missed.0 missed.1 (search rules)

pub returns-in-Wrong : goal.returns-in-Wrong
returns-in-Wrong c = λ bytes past.
    wrong_on_tables c.args.script.now bytes c.args.text.now c.take.new.self c.args.bus.now c.in-Wrong.line past
    (taken c.take.result c.args.text.now c.take.new.self (codes "tables\n") (search rules) c.take.ensures)
    (subst (λ (r : TablesReplayed). AreFirstWrong c.args.script.now c.take.new.self r) c.in-Wrong.is c.in_ok-tables.ensures.first)

pub returns-in_ok-tail-in-Whole : goal.returns-in_ok-tail-in-Whole
returns-in_ok-tail-in-Whole c =
    let script = c.args.script.now in
    let heading = taken c.take.result c.args.text.now c.take.new.self (codes "tables\n") (search rules) c.take.ensures in
    let lines = subst (λ (r : TablesReplayed). AreReplayed script c.take.new.self c.replay_tables.new.text r) c.in-Whole.is c.in_ok-tables.ensures.judged in
    let kept : c.as_slice.result.now ≡ tail_kept (length script.apps) c.args.bus.now c.in-Whole.tables =
    c.as_slice.ensures ∙ c.in_ok-tail-in-Whole.ensures ∙ ap (λ n. tail_kept n c.args.bus.now c.in-Whole.tables) c.apps.ensures.count in
    if_ok_more c.check_tail.result
    (λ verdict judged bytes past.
    judged_at_end script bytes c.args.text.now c.take.new.self c.replay_tables.new.text c.args.bus.now c.in-Whole.tables c.as_slice.result.now verdict
    c.recall_ranges.ensures.text past heading lines kept judged)
    c.check_tail.ensures
