use Rattle.tbl_words.specs.Entries.{entry_of}
use Rattle.run_report.specs.TableText.{table_entry_text}
use Rattle.text_page.proofs.ListTexts.{numbered-next}
use Rattle.text_page.proofs.PieceTexts.{◌▸◌, puts_as}
use Rattle.run_report.proofs.table_entries.put_table_entries.Goals as goal

pub loop-i-preserved : goal.loop-i-preserved
loop-i-preserved g c =
    puts_as _ (numbered-next table_entry_text c.args.journal.now.entries c.loop-i.i (entry_of c.get.result) c.get.ensures)
    (c.loop-i.invariant ▸ c.put_table_entry.ensures)
