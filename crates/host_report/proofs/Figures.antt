-- What a report shows of both services, put together from what is read off them.
use Rattle.std.proofs.Common.{◌≡◌, ℕ, List, map, ap, sym, ◌∙◌}
use Rattle.bus_words.specs.declared.history.Entry.{Entry}
use Rattle.tbl_words.specs.declared.history.Entry.{Entry as TableEntry}
use Rattle.tbl_words.specs.declared.uses.TblUse.{TblUse}
use Rattle.bus_words.specs.ReceiptLists.{Receipts}
use Rattle.fsw_base.specs.EventDesk.{Desk}
use Rattle.fsw_base.specs.PoolAccounts.{Account}
use Rattle.housekeeping.specs.declared.in_use.InUse.{InUse}
use Rattle.housekeeping.specs.Statistics.{Statistics}
use Rattle.run_report.specs.CounterText.{BusFigures, TableFigures}
use Rattle.run_report.specs.Report.{ending_text, report_text}
use Rattle.script_runs.specs.Histories.{Histories}
use Rattle.host_report.specs.Parts.{part_of}
use Rattle.host_report.specs.declared.reporting.Part.{Part}
use Rattle.host_report.specs.declared.reporting.Part.TheVariants.{Whole, Ending}

abbrev pub the_figures : ℕ → Desk → Statistics → InUse → Account → List Account → BusFigures
the_figures version events statistics now pool pools = record { version = version; events = events; statistics = statistics; now = now; pool = pool; pools = pools }

pub figures-as : {version version' : ℕ} {events events' : Desk} {statistics statistics' : Statistics} {now now' : InUse} {pool pool' : Account} {pools pools' : List Account} →
    version ≡ version' → events ≡ events' → statistics ≡ statistics' → now ≡ now' → pool ≡ pool' → pools ≡ pools' →
    the_figures version events statistics now pool pools ≡ the_figures version' events' statistics' now' pool' pools'
figures-as one two three four five six = cc

abbrev pub the_table_figures : TblUse → TblUse → Account → TableFigures
the_table_figures now peak pool = record { now = now; peak = peak; pool = pool }

pub table-figures-as : {now now' peak peak' : TblUse} {pool pool' : Account} → now ≡ now' → peak ≡ peak' → pool ≡ pool' →
    the_table_figures now peak pool ≡ the_table_figures now' peak' pool'
table-figures-as one two three = cc

-- what is written of a report, all of it or its end
pub whole_is : (part : Part) (bus bus' : List Entry) (tables tables' : List TableEntry) (lists : List Receipts) (figures figures' : BusFigures) (uses uses' : TableFigures) →
    part ≡ Whole → bus ≡ bus' → tables ≡ tables' → figures ≡ figures' → uses ≡ uses' →
    report_text bus tables (map (λ list. list.receipts) lists) figures uses ≡ part_of part (record { bus = bus'; tables = tables' }) lists figures' uses'
whole_is part bus bus' tables tables' lists figures figures' uses uses' whole one two three four =
    let receipts = map (λ list. list.receipts) lists in
    ap (λ b. report_text b tables receipts figures uses) one
    ∙ ap (λ t. report_text bus' t receipts figures uses) two
    ∙ ap (λ f. report_text bus' tables' receipts f uses) three
    ∙ ap (report_text bus' tables' receipts figures') four
    ∙ ap (λ p. part_of p (record { bus = bus'; tables = tables' }) lists figures' uses') (sym whole)

pub ending_is : (part : Part) (histories : Histories) (lists : List Receipts) (figures figures' : BusFigures) (uses uses' : TableFigures) →
    part ≡ Ending → figures ≡ figures' → uses ≡ uses' → ending_text figures uses ≡ part_of part histories lists figures' uses'
ending_is part histories lists figures figures' uses uses' ending shown used =
    ap (λ f. ending_text f uses) shown ∙ ap (ending_text figures') used ∙ ap (λ p. part_of p histories lists figures' uses') (sym ending)
