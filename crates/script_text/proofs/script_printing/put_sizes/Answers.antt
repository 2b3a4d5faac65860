use Rattle.std.proofs.Common.{◌≡◌, true, false, [], sym, append-nil}
use Rattle.fsw_base.specs.Blocks.{usual_sizes}
use Rattle.script_words.specs.Text.{is_same}
use Rattle.text_page.proofs.PieceTexts.{◌▸◌, puts_as, waits_behind}
use Rattle.script_text.proofs.PrintLemmas.{sizes_lines_usual, sizes_lines_other}
use Rattle.script_text.proofs.script_printing.put_sizes.Goals as goal

pub returns-then-not-are_usual : goal.returns-then-not-are_usual
returns-then-not-are_usual g c =
    let other : false ≡ is_same c.args.sizes.now usual_sizes = c.if-not-are_usual.ensures in
    puts_as _ (sym (sizes_lines_other c.args.sizes.now (sym other))) (c.put.ensures ▸ c.put_each_size.ensures ▸ c.put-then-not-are_usual.ensures)

pub returns-else-not-are_usual : goal.returns-else-not-are_usual
returns-else-not-are_usual g c =
    let same : true ≡ is_same c.args.sizes.now usual_sizes = c.if-not-are_usual.ensures in
    puts_as _ (sym (sizes_lines_usual c.args.sizes.now (sym same))) (waits_behind c.args.sink.now c.args.page.now c.args.page.now [] (sym (append-nil c.args.page.now)))
