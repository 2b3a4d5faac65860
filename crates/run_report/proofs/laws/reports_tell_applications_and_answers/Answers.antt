use Rattle.std.proofs.Common.{◌++◌, ◌∷◌, [], codes, decimal, ap, sym, ◌∙◌, arith}
use Rattle.bus_words.specs.Bus.{opening}
use Rattle.tbl_words.specs.Tables.{opening as tables_opening}
use Rattle.run_report.specs.BusText.{entries_text}
use Rattle.run_report.specs.EventText.{log_text}
use Rattle.run_report.specs.ReceiptText.{receipts_text}
use Rattle.run_report.specs.Report.{ending_text}
use Rattle.run_report.specs.TableText.{table_entries_text}
use Rattle.run_report.proofs.LegalAnswers.{legal_answers}
use Rattle.run_report.proofs.LegalTableAnswers.{legal_table_answers}
use Rattle.run_report.proofs.TableLines.{reports_tell, table_lines_tell}
use Rattle.run_report.proofs.ReportLines.{lines_tell}
use Rattle.run_report.proofs.Versions.{behind_version, behind_opening}
use Rattle.run_report.proofs.laws.reports_tell_applications_and_answers.Goals as goal

pub returns-clause-lines : goal.returns-clause-lines
returns-clause-lines c = λ one other plain clear same. (lines_tell 1 114 one other [] [] (omega arith) plain clear (ap (λ text. text ++ 114 ∷ []) same)).same

pub returns-clause-table_lines : goal.returns-clause-table_lines
returns-clause-table_lines c = λ one other plain clear same. table_lines_tell 1 114 one other [] [] (omega arith) plain clear (ap (λ text. text ++ 114 ∷ []) same)

pub returns-clause-reports : goal.returns-clause-reports
returns-clause-reports c = λ one other tables others_tables receipts others figures shown table_figures tables_shown plain clear fine sound same.
    reports_tell one other tables others_tables (receipts_text receipts) (receipts_text others) (log_text figures.events.log) (log_text shown.events.log)
    (ending_text figures table_figures) (ending_text shown tables_shown) plain clear fine sound
    (behind_version figures.version shown.version _ _
    (sym (behind_opening (decimal figures.version) (entries_text one) (codes "tables\n") (table_entries_text tables) (codes "receipts\n") (receipts_text receipts) (codes "events\n") (log_text figures.events.log) (ending_text figures table_figures))
    ∙ same
    ∙ behind_opening (decimal shown.version) (entries_text other) (codes "tables\n") (table_entries_text others_tables) (codes "receipts\n") (receipts_text others) (codes "events\n") (log_text shown.events.log) (ending_text shown tables_shown)))

pub returns-clause-legal : goal.returns-clause-legal
returns-clause-legal c = λ limits apps history legal. legal_answers limits [] (opening limits apps) history legal

pub returns-clause-legal_tables : goal.returns-clause-legal_tables
returns-clause-legal_tables c = λ limits apps history legal. legal_table_answers limits (tables_opening limits apps) history legal
