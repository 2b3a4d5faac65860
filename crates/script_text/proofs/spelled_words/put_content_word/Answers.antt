use Rattle.std.proofs.Common.{◌∷◌, sym, ap}
use Rattle.text_page.proofs.PieceTexts.{◌▸◌, puts_as}
use Rattle.script_text.specs.Spelling.{content_text}
use Rattle.script_text.proofs.spelled_words.put_content_word.Goals as goal

pub returns-in-Fill : goal.returns-in-Fill
returns-in-Fill g c =
    puts_as _ (ap (λ content. 32 ∷ content_text content) (sym c.in-Fill.is))
    (c.put.ensures ▸ c.put_number.ensures ▸ c.put-in-Fill.ensures ▸ c.put_number-in-Fill.ensures)
