-- The end of a report, by what is kept of both services behind the lines of their entries.
use Rattle.std.specs.Prelude.{ℕ, ◌-◌, List, [], ◌++◌, map, codes, slice_get}
use Rattle.std.specs.List.{range_with_len}
use Rattle.std.specs.Option.{option_map_or}
use Rattle.bus_words.specs.declared.receipts.Receipt.{Receipt}
use Rattle.tbl_words.specs.Tables.{account_of}
use Rattle.tbl_words.specs.Uses.{use_of}
use Rattle.run_report.specs.CounterText.{BusFigures, TableFigures}
use Rattle.run_report.specs.EventText.{log_text}
use Rattle.run_report.specs.ReceiptText.{receipts_text}
use Rattle.run_report.specs.Report.{ending_text, figures_shown}
use Rattle.run_check.specs.Merged.{merged}
use Rattle.run_check.specs.Places.{Made}
use Rattle.run_check.specs.TablePlaces.{TablePlace}
use Rattle.bus_replay.specs.Places.{Kept}
use Rattle.bus_replay.specs.Replays.{Replay}
use Rattle.table_replay.specs.Replays.{Replay as TableReplay}
use Rattle.report_check.specs.declared.tail.TablesShown.{TablesShown}

-- what an application's lines made of the bus, if all applications are at these places
abbrev pub made_of_bus : List Kept → ℕ → List Made
made_of_bus places app =
    option_map_or (λ (place : Kept). place.receipts) (slice_get places (app - 1)) []

-- what they made of the tables
abbrev pub made_of_tables : List TablePlace → ℕ → List Made
made_of_tables places app =
    option_map_or (λ (place : TablePlace). place.receipts) (slice_get places (app - 1)) []

-- an application's receipts
abbrev pub receipts_kept : List Kept → List TablePlace → ℕ → List Receipt
receipts_kept places table_places app =
    merged (made_of_bus places app) (made_of_tables table_places app)

-- what a report shows of the tables
abbrev pub table_figures_kept : TableReplay → TableFigures
table_figures_kept r = record {
  now = use_of r.limits r.state;
  peak = r.peak;
  pool = account_of r.limits r.state;
}

-- what is read off the tables, as a report shows it
abbrev pub figures_of : TablesShown → TableFigures
figures_of shown = record { now = shown.in_use; peak = shown.peak; pool = shown.pool }

-- the lines of a report behind those on the tables
abbrev pub tail_text : List (List Receipt) → BusFigures → TableFigures → List ℕ
tail_text receipts figures tables =
    codes "receipts\n" ++ receipts_text receipts ++ codes "events\n" ++
    log_text figures.events.log ++ ending_text figures tables

-- of so many applications, by what is kept
abbrev pub tail_kept : ℕ → Replay → TableReplay → List ℕ
tail_kept apps bus tables =
    tail_text (map (receipts_kept bus.places tables.places) (range_with_len 1 apps))
    (figures_shown bus.played.limits bus.played.whole.bus) (table_figures_kept tables)
