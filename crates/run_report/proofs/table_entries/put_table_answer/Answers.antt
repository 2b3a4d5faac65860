use Rattle.std.proofs.Common.{◌≡◌, sym, ap}
use Rattle.tbl_words.specs.Statuses.{tbl_name}
use Rattle.run_report.specs.TableText.{table_answer_text}
use Rattle.text_page.proofs.PieceTexts.{◌▸◌, puts_as}
use Rattle.run_report.proofs.table_entries.put_table_answer.Goals as goal

pub returns-in-Address : goal.returns-in-Address
returns-in-Address g c =
    puts_as (table_answer_text c.args.answer.now) (ap table_answer_text (sym c.in-Address.is)) (c.put_told.ensures ▸ c.put-in-Address.ensures ▸ c.put_number.ensures)

pub returns-in-State : goal.returns-in-State
returns-in-State g c =
    puts_as (table_answer_text c.args.answer.now) (ap table_answer_text (sym c.in-State.is)) (c.put-in-State.ensures ▸ c.put_table_figures.ensures)

pub returns-in-Refused : goal.returns-in-Refused
returns-in-Refused g c =
    let name : c.as_bytes.result.now ≡ tbl_name c.in-Refused.status = cc in
    puts_as (table_answer_text c.args.answer.now) (ap table_answer_text (sym c.in-Refused.is)) (puts_as _ name c.put-in-Refused.ensures ▸ c.put_failed_rule.ensures)
