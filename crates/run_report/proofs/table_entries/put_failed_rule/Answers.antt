use Rattle.std.proofs.Common.{sym, ap}
use Rattle.run_report.specs.TableText.{failed_rule_text}
use Rattle.text_page.proofs.PieceTexts.{◌▸◌, puts_as}
use Rattle.run_report.proofs.table_entries.put_failed_rule.Goals as goal

pub returns-in-Validation : goal.returns-in-Validation
returns-in-Validation g c =
    puts_as (failed_rule_text c.args.status) (ap failed_rule_text (sym c.in-Validation.is)) (c.put.ensures ▸ c.put_number.ensures)
