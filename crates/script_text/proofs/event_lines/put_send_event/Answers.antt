use Rattle.std.proofs.Common.{◌∷◌, ◌++◌, codes, decimal, sym, ap}
use Rattle.text_page.proofs.PieceTexts.{◌▸◌, puts_as}
use Rattle.fsw_base.specs.Events.{kind_number}
use Rattle.script_text.specs.Spelling.{line_words, text_words}
use Rattle.script_text.proofs.PieceLemmas.{spaced_parts}
use Rattle.script_text.proofs.event_lines.put_send_event.Goals as goal

pub returns : goal.returns
unfolding line_words
returns g c =
    puts_as _ (sym (spaced_parts ((codes "event" ++ 32 ∷ decimal c.args.id) ++ 32 ∷ decimal (kind_number c.args.kind)) (text_words c.args.text.now)))
    (c.put.ensures ▸ c.put_figure.ensures ▸ puts_as _ (ap (λ n. 32 ∷ decimal n) c.number.ensures.number) c.put_figure-2.ensures ▸ c.put_event_text.ensures)
