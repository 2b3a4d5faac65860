use Rattle.bus_words.specs.Entries.{lent_of}
use Rattle.run_report.specs.BusText.{entry_text}
use Rattle.text_page.proofs.ListTexts.{numbered-next}
use Rattle.text_page.proofs.PieceTexts.{◌▸◌, puts_as}
use Rattle.run_report.proofs.entries.put_entries.Goals as goal

pub loop-i-preserved : goal.loop-i-preserved
loop-i-preserved g c =
    puts_as _ (numbered-next entry_text c.args.journal.now.entries c.loop-i.i (lent_of c.lent.result) c.lent.ensures) (c.loop-i.invariant ▸ c.put_entry.ensures)
