use Rattle.std.proofs.Common.{OnOk, OnErr, ap, subst}
use Rattle.text_page.specs.Pieces.{Grew, CutShort}
use Rattle.run_report.specs.Report.{figures_read, figures_shown, table_figures_read, table_figures_shown}
use Rattle.sb_calls.specs.Core.{state_of}
use Rattle.tbl_load.specs.Core.{apps_of as table_apps_of}
use Rattle.app_run.specs.Runners.{histories_of}
use Rattle.host_report.proofs.Figures.{ending_is, whole_is}
use Rattle.host_report.proofs.reporting.write_part.Goals as goal

pub returns-in-Whole-clause-ok : goal.returns-in-Whole-clause-ok
returns-in-Whole-clause-ok g c =
    let bus = c.args.bus.now in
    let tables = c.args.tables.now in
    let shown = figures_shown bus.limits (state_of bus) in
    let used = table_figures_shown tables.limits (table_apps_of tables) tables.log.entries in
    let of_bus = c.bus_readings-of_bus.result in
    let of_tables = c.table_readings-of_tables.result in
    subst (λ text. OnOk c.write_report.result (Grew c.args.sink.now.written c.write_report.new.sink.written text))
    (whole_is c.args.part of_bus.journal.now.entries bus.log.entries of_tables.journal.now.entries tables.log.entries c.args.receipts.now
    (figures_read of_bus) shown (table_figures_read of_tables) used c.in-Whole.is
    (ap (λ log. log.entries) c.bus_readings-of_bus.ensures.journal) (ap (λ log. log.entries) c.table_readings-of_tables.ensures.journal)
    c.bus_readings-of_bus.ensures.figures c.table_readings-of_tables.ensures.figures)
    c.write_report.ensures.ok

pub returns-in-Whole-clause-err : goal.returns-in-Whole-clause-err
returns-in-Whole-clause-err g c =
    let bus = c.args.bus.now in
    let tables = c.args.tables.now in
    let shown = figures_shown bus.limits (state_of bus) in
    let used = table_figures_shown tables.limits (table_apps_of tables) tables.log.entries in
    let of_bus = c.bus_readings-of_bus.result in
    let of_tables = c.table_readings-of_tables.result in
    subst (λ text. OnErr c.write_report.result (CutShort c.args.sink.now.written c.write_report.new.sink.written text))
    (whole_is c.args.part of_bus.journal.now.entries bus.log.entries of_tables.journal.now.entries tables.log.entries c.args.receipts.now
    (figures_read of_bus) shown (table_figures_read of_tables) used c.in-Whole.is
    (ap (λ log. log.entries) c.bus_readings-of_bus.ensures.journal) (ap (λ log. log.entries) c.table_readings-of_tables.ensures.journal)
    c.bus_readings-of_bus.ensures.figures c.table_readings-of_tables.ensures.figures)
    c.write_report.ensures.err

pub returns-in-Ending-clause-ok : goal.returns-in-Ending-clause-ok
returns-in-Ending-clause-ok g c =
    let bus = c.args.bus.now in
    let tables = c.args.tables.now in
    let shown = figures_shown bus.limits (state_of bus) in
    let used = table_figures_shown tables.limits (table_apps_of tables) tables.log.entries in
    let of_bus = c.bus_readings-of_bus.result in
    let of_tables = c.table_readings-of_tables.result in
    subst (λ text. OnOk c.write_ending.result (Grew c.args.sink.now.written c.write_ending.new.sink.written text))
    (ending_is c.args.part (histories_of bus tables) c.args.receipts.now (figures_read of_bus) shown (table_figures_read of_tables) used c.in-Ending.is
    c.bus_readings-of_bus.ensures.figures c.table_readings-of_tables.ensures.figures)
    c.write_ending.ensures.ok

pub returns-in-Ending-clause-err : goal.returns-in-Ending-clause-err
returns-in-Ending-clause-err g c =
    let bus = c.args.bus.now in
    let tables = c.args.tables.now in
    let shown = figures_shown bus.limits (state_of bus) in
    let used = table_figures_shown tables.limits (table_apps_of tables) tables.log.entries in
    let of_bus = c.bus_readings-of_bus.result in
    let of_tables = c.table_readings-of_tables.result in
    subst (λ text. OnErr c.write_ending.result (CutShort c.args.sink.now.written c.write_ending.new.sink.written text))
    (ending_is c.args.part (histories_of bus tables) c.args.receipts.now (figures_read of_bus) shown (table_figures_read of_tables) used c.in-Ending.is
    c.bus_readings-of_bus.ensures.figures c.table_readings-of_tables.ensures.figures)
    c.write_ending.ensures.err
