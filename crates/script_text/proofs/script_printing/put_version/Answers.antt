use Rattle.std.proofs.Common.{[], sym, append-nil}
use Rattle.text_page.proofs.PieceTexts.{◌▸◌, puts_as, waits_behind}
use Rattle.script_text.proofs.PrintLemmas.{version_lines_first, version_lines_other}
use Rattle.script_text.proofs.script_printing.put_version.Goals as goal

pub returns-then-version-ne1 : goal.returns-then-version-ne1
returns-then-version-ne1 g c =
    puts_as _ (sym (version_lines_other c.args.version c.if-version-ne1.true)) (c.put.ensures ▸ c.put_number.ensures ▸ c.put-then-version-ne1.ensures)

pub returns-else-version-ne1 : goal.returns-else-version-ne1
returns-else-version-ne1 g c =
    puts_as _ (sym (version_lines_first c.args.version c.if-version-ne1.false)) (waits_behind c.args.sink.now c.args.page.now c.args.page.now [] (sym (append-nil c.args.page.now)))
