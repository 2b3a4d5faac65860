-- Two runs of a script have the same report only if they have the same histories.
use Rattle.std.proofs.Common.{◌≡◌, ℕ, ◌≤◌, inr, List, [], ◌∷◌, ◌++◌, length, map, codes, ap, sym, ◌∙◌, subst, append_assoc, append-nil}
use Rattle.std.specs.Fmt.{decimal}
use Rattle.std.specs.List.{range_with_len}
use Rattle.std.proofs.lemmas.List.{append_cancel_left}
use Rattle.bus_words.specs.declared.history.Entry.{Entry}
use Rattle.bus_words.specs.declared.receipts.Receipt.{Receipt}
use Rattle.bus_words.specs.Machine.{state_after}
use Rattle.tbl_words.specs.declared.history.Entry.{Entry as TableEntry}
use Rattle.run_report.specs.BusText.{entries_text}
use Rattle.run_report.specs.CounterText.{BusFigures, TableFigures}
use Rattle.run_report.specs.EventText.{log_text}
use Rattle.run_report.specs.ReceiptText.{receipts_text}
use Rattle.run_report.specs.Report.{ending_text, figures_shown, report_text, table_figures_shown}
use Rattle.run_report.specs.TableText.{table_entries_text}
use Rattle.app_script.specs.Script.{ScriptText}
use Rattle.script_runs.specs.Histories.{Histories}
use Rattle.script_runs.specs.Runs.{IsRunOf}
use Rattle.script_runs.specs.Told.{receipts_told}
use Rattle.script_runs.specs.TableTrace.{own_table_entries}
use Rattle.script_runs.specs.Trace.{own_entries}
use Rattle.run_check.specs.Begun.{AreAllOf, AreAllTablesOf, AreBegunTables, IsBegun}
use Rattle.run_check.specs.Determined.{NextEntriesAreOne, NextTableEntriesAreOne, ReportsTellRuns}
use Rattle.run_check.specs.Openings.{head, report}
use Rattle.run_check.proofs.Entries.{bus_follows, entries_one, none_behind}
use Rattle.run_check.proofs.TableEntries.{no_table_behind, table_entries_one, tables_follow}

-- a run's histories are under way, with nothing missing
pub begun_of : (script : ScriptText) (histories : Histories) → IsRunOf script histories → IsBegun script histories.bus
begun_of script histories run = record {
  legal = run.legal;
  each = λ app first last.
      let P : List Entry → Type 0 = AreAllOf script app in
      ([], subst P (sym (append-nil (own_entries app histories.bus))) (run.merges.each app first last));
  nobody_else = run.merges.nobody_else;
}

pub begun_tables_of : (script : ScriptText) (histories : Histories) → IsRunOf script histories → AreBegunTables script histories.tables
begun_tables_of script histories run = record {
  legal = run.legal_tables;
  each = λ app first last.
      let P : List TableEntry → Type 0 = AreAllTablesOf script app in
      ([], subst P (sym (append-nil (own_table_entries app histories.tables))) (run.merges.each_at_tables app first last));
  nobody_else = run.merges.nobody_else_at_tables;
}

-- the parts of a report: its head, the lines on the bus, a heading, the lines on the tables, and the rest
parts : (a b c d e f g h i : List ℕ) → a ++ b ++ c ++ d ++ e ++ f ++ g ++ h ++ i ≡ a ++ (b ++ (c ++ (d ++ (e ++ f ++ g ++ h ++ i))))
parts a b c d e f g h i = simp append_assoc

abbrev pub behind_tables : List (List Receipt) → BusFigures → TableFigures → List ℕ
behind_tables receipts figures tables =
    codes "receipts\n" ++ receipts_text receipts ++ codes "events\n" ++ log_text figures.events.log ++ ending_text figures tables

-- what a report shows of the applications, of the bus and of the tables
abbrev pub receipts_in : ScriptText → Histories → List (List Receipt)
receipts_in script histories = map (receipts_told script histories) (range_with_len 1 (length script.apps))

abbrev pub figures_in : ScriptText → Histories → BusFigures
figures_in script histories = figures_shown script.limits (state_after script.limits (length script.apps) histories.bus)

abbrev pub uses_in : ScriptText → Histories → TableFigures
uses_in script histories = table_figures_shown script.limits (length script.apps) histories.tables

report_parts : (entries : List Entry) (table_entries : List TableEntry) (receipts : List (List Receipt)) (figures : BusFigures) (tables : TableFigures) →
    report_text entries table_entries receipts figures tables
    ≡ (codes "fsw " ++ decimal figures.version ++ codes "\nbus\n") ++ (entries_text entries ++ (codes "tables\n" ++ (table_entries_text table_entries ++ behind_tables receipts figures tables)))
report_parts entries table_entries receipts figures tables =
    parts (codes "fsw " ++ decimal figures.version ++ codes "\nbus\n") (entries_text entries) (codes "tables\n") (table_entries_text table_entries) (codes "receipts\n") (receipts_text receipts)
    (codes "events\n") (log_text figures.events.log) (ending_text figures tables)

-- two runs whose lines on the bus and on the tables read the same
lines_tell : (script : ScriptText) (one other : Histories) (w z : List ℕ) → length script.apps ≤ 16 → IsRunOf script one → IsRunOf script other →
    entries_text one.bus ++ (codes "tables\n" ++ (table_entries_text one.tables ++ w))
    ≡ entries_text other.bus ++ (codes "tables\n" ++ (table_entries_text other.tables ++ z)) →
    one ≡ other
lines_tell script one other w z few first second same =
    ap (λ (h : List Entry). record { bus = h; tables = one.tables }) bus ∙ ap (λ (h : List TableEntry). record { bus = other.bus; tables = h }) tables
  where
    bus : one.bus ≡ other.bus
    bus =
        let found = bus_follows script few [] other.bus one.bus 1 (codes "tables\n" ++ (table_entries_text other.tables ++ z)) (codes "tables\n" ++ (table_entries_text one.tables ++ w))
        (begun_of script other second) (begun_of script one first) (inr first.merges.each) same in
        none found.0 found.1
      where
        none : (l : List Entry) → one.bus ≡ other.bus ++ l → one.bus ≡ other.bus
        none [] more = more ∙ append-nil other.bus
        none (e ∷ l) more =
            let B : List Entry → Type 0 = IsBegun script in absurd (none_behind script other.bus e l second.merges.each (subst B more (begun_of script one first)))

    behind : table_entries_text one.tables ++ w ≡ table_entries_text other.tables ++ z
    behind = append_cancel_left (codes "tables\n") _ _
        (append_cancel_left (entries_text one.bus) _ _ (same ∙ ap (λ h. entries_text h ++ (codes "tables\n" ++ (table_entries_text other.tables ++ z))) (sym bus)))

    tables : one.tables ≡ other.tables
    tables =
        let found = tables_follow script few [] other.tables one.tables 1 z w
        (begun_tables_of script other second) (begun_tables_of script one first) (inr first.merges.each_at_tables) behind in
        none found.0 found.1
      where
        none : (l : List TableEntry) → one.tables ≡ other.tables ++ l → one.tables ≡ other.tables
        none [] more = more ∙ append-nil other.tables
        none (e ∷ l) more =
            let B : List TableEntry → Type 0 = AreBegunTables script in
            absurd (no_table_behind script other.tables e l second.merges.each_at_tables (subst B more (begun_tables_of script one first)))

-- a report, by its parts
pub report_of : (script : ScriptText) (histories : Histories) →
    report script histories
    ≡ head script ++ (entries_text histories.bus ++ (codes "tables\n" ++ (table_entries_text histories.tables ++ behind_tables (receipts_in script histories) (figures_in script histories) (uses_in script histories))))
report_of script histories = report_parts histories.bus histories.tables (receipts_in script histories) (figures_in script histories) (uses_in script histories)

pub reports_tell_runs : ReportsTellRuns
reports_tell_runs script one other fine first second same =
    let w = behind_tables (receipts_in script one) (figures_in script one) (uses_in script one) in
    let z = behind_tables (receipts_in script other) (figures_in script other) (uses_in script other) in
    lines_tell script one other w z fine.few first second
    (append_cancel_left (head script) _ _ (sym (report_of script one) ∙ same ∙ report_of script other))

pub next_entries : NextEntriesAreOne
next_entries script history e f one other same = entries_one script history e f [] [] one other same

pub next_table_entries : NextTableEntriesAreOne
next_table_entries script history e f one other same = table_entries_one script history e f [] [] one other same
