-- The text of a report.
use Rattle.std.specs.Prelude.{ℕ, List, ◌++◌, codes, decimal, map}
use Rattle.fsw_base.specs.Limits.{Limits}
use Rattle.fsw_base.specs.Grants.{pool_account}
use Rattle.bus_words.specs.declared.history.Entry.{Entry}
use Rattle.bus_words.specs.declared.receipts.Receipt.{Receipt}
use Rattle.bus_words.specs.Bus.{State}
use Rattle.bus_words.specs.Held.{account_of, in_use}
use Rattle.bus_words.specs.ReceiptLists.{Receipts}
use Rattle.tbl_words.specs.declared.history.Entry.{Entry as TableEntry}
use Rattle.tbl_words.specs.Machine.{state_after as tables_after}
use Rattle.tbl_words.specs.Tables.{account_of as table_account_of}
use Rattle.tbl_words.specs.Uses.{use_of, peak_after}
use Rattle.run_report.specs.declared.readings.BusReadings.{BusReadings}
use Rattle.run_report.specs.declared.readings.TableReadings.{TableReadings}
use Rattle.run_report.specs.BusText.{entries_text}
use Rattle.run_report.specs.CounterText.{BusFigures, TableFigures, account_read, counters_text}
use Rattle.run_report.specs.EventText.{log_text}
use Rattle.run_report.specs.ReceiptText.{receipts_text}
use Rattle.run_report.specs.TableText.{table_entries_text}

-- what a report shows of a bus that is so
abbrev pub figures_shown : Limits → State → BusFigures
figures_shown limits s = record {
  version = limits.version;
  events = s.events;
  statistics = s.statistics;
  now = in_use limits s;
  pool = account_of limits s;
  pools = map pool_account s.pools.pools;
}

-- what a report shows of the tables after a history of so many applications
abbrev pub table_figures_shown : Limits → ℕ → List TableEntry → TableFigures
table_figures_shown limits apps history = record {
  now = use_of limits (tables_after limits apps history);
  peak = peak_after limits apps history;
  pool = table_account_of limits (tables_after limits apps history);
}

-- what a report shows of what was read off a bus
abbrev pub figures_read : BusReadings → BusFigures
figures_read readings = record {
  version = readings.version;
  events = readings.events.now;
  statistics = readings.counters.now;
  now = readings.in_use;
  pool = account_read readings.pool.now;
  pools = map pool_account readings.pools.now.pools;
}

-- what a report shows of what was read off the tables
abbrev pub table_figures_read : TableReadings → TableFigures
table_figures_read readings =
    record { now = readings.in_use; peak = readings.peak; pool = account_read readings.pool.now }

-- the end of a report: the lines on the counters, and the last line
abbrev pub ending_text : BusFigures → TableFigures → List ℕ
ending_text figures tables = codes "counters\n" ++ counters_text figures tables ++ codes "end\n"

-- the version of the bus, its history and that of the tables, the receipts of the applications 1,
-- 2, 3 and so on, the event log, and the figures of both services
abbrev pub report_text : List Entry → List TableEntry → List (List Receipt) → BusFigures →
    TableFigures → List ℕ
report_text entries table_entries receipts figures tables =
    codes "fsw " ++ decimal figures.version ++ codes "\nbus\n" ++ entries_text entries ++
    codes "tables\n" ++ table_entries_text table_entries
    ++ codes "receipts\n" ++ receipts_text receipts ++ codes "events\n" ++
    log_text figures.events.log ++ ending_text figures tables

-- the report of what was read off both services, and of the applications' lists of receipts
abbrev pub report_of : BusReadings → TableReadings → List Receipts → List ℕ
report_of bus tables lists =
    report_text bus.journal.now.entries tables.journal.now.entries
    (map (λ list. list.receipts) lists) (figures_read bus) (table_figures_read tables)
