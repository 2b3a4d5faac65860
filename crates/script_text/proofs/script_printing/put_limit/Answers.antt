use Rattle.std.proofs.Common.{[], ◌∙◌, sym, append-nil}
use Rattle.text_page.proofs.PieceTexts.{◌▸◌, puts_as, waits_behind}
use Rattle.script_text.proofs.PrintLemmas.{set_lines_usual, set_lines_other}
use Rattle.script_text.proofs.script_printing.put_limit.Goals as goal

pub returns-then-value-usual_limit : goal.returns-then-value-usual_limit
returns-then-value-usual_limit g c =
    puts_as _ (sym (set_lines_other c.args.name c.args.value (λ same. c.if-value-usual_limit.true (same ∙ sym c.usual_limit.ensures))))
    (c.put.ensures ▸ puts_as _ c.limit_word.ensures c.put-then-value-usual_limit.ensures ▸ (c.put-then-value-usual_limit-2.ensures ▸ c.put_number.ensures) ▸ c.put-then-value-usual_limit-3.ensures)

pub returns-else-value-usual_limit : goal.returns-else-value-usual_limit
returns-else-value-usual_limit g c =
    puts_as _ (sym (set_lines_usual c.args.name c.args.value (c.if-value-usual_limit.false ∙ c.usual_limit.ensures)))
    (waits_behind c.args.sink.now c.args.page.now c.args.page.now [] (sym (append-nil c.args.page.now)))
