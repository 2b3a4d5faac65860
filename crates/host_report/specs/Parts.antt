-- What a report shows of both services as they are, or its end alone.
use Rattle.std.specs.Prelude.{ℕ, List, ◌++◌, map, codes}
use Rattle.bus_words.specs.ReceiptLists.{Receipts}
use Rattle.sb_calls.specs.Core.{Core, state_of}
use Rattle.tbl_load.specs.Core.{Core as TableCore, apps_of as table_apps_of}
use Rattle.run_report.specs.CounterText.{BusFigures, TableFigures}
use Rattle.run_report.specs.Report.{ending_text, figures_shown, table_figures_shown, report_text}
use Rattle.script_runs.specs.Histories.{Histories}
use Rattle.app_run.specs.declared.rotating.Finished.{Finished}
use Rattle.app_run.specs.Runners.{histories_of}
use Rattle.host_report.specs.declared.reporting.Part.{Part}
use Rattle.host_report.specs.declared.reporting.Part.TheVariants.{Whole, Ending}

-- this much of the report of these histories, of the applications' lists of receipts, and of these
-- figures
abbrev pub part_of : Part → Histories → List Receipts → BusFigures → TableFigures → List ℕ
part_of Whole histories lists figures tables =
    report_text histories.bus histories.tables (map (λ list. list.receipts) lists) figures tables
part_of Ending histories lists figures tables = ending_text figures tables

-- this much of the report of both services as they are, and of the applications' lists of receipts
abbrev pub part_shown : Part → Core → TableCore → List Receipts → List ℕ
part_shown part bus tables lists =
    part_of part (histories_of bus tables) lists (figures_shown bus.limits (state_of bus))
    (table_figures_shown tables.limits (table_apps_of tables) tables.log.entries)

-- a line, and the whole report of what a side of a bridge left
unfoldable pub side_shown : List ℕ → Finished → List ℕ
side_shown line side = line ++ part_shown Whole side.bus side.tables side.receipts.items

-- that of both sides, each behind a line with its side
unfoldable pub both_shown : Finished → Finished → List ℕ
both_shown one two = side_shown (codes "side 1\n") one ++ side_shown (codes "side 2\n") two
