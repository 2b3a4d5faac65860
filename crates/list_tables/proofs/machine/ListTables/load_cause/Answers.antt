use Rattle.std.proofs.Common.{None, sym, ◌∙◌}
use Rattle.tbl_words.specs.declared.statuses.TblStatus.TheVariants.{InfoTableLocked}
use Rattle.tbl_words.specs.Machine.{bars_of, is_locked, refused_if, rules_cause, with_range}
use Rattle.list_tables.proofs.LoadBars.{barred_more}
use Rattle.list_tables.proofs.machine.ListTables.load_cause.Goals as goal

pub returns-in-Some : goal.returns-in-Some
returns-in-Some c =
    let s = c.args.self.now.state in
    let t = c.args.table.now in
    sym (barred_more (bars_of s c.args.offset c.args.bytes.now t) (rules_cause t.rules (with_range t.value c.args.offset c.args.bytes.now) (refused_if (is_locked s t) InfoTableLocked None)) c.in-Some.why
    (sym c.stage_cause.ensures ∙ c.in-Some.is))
