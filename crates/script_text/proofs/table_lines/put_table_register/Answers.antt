use Rattle.std.proofs.Common.{◌∷◌, ◌++◌, map, codes, decimal, sym}
use Rattle.text_page.specs.Texts.{name_text}
use Rattle.text_page.proofs.PieceTexts.{◌▸◌, puts_as}
use Rattle.script_text.specs.Spelling.{line_words, rule_text}
use Rattle.script_text.proofs.PieceLemmas.{spaced_parts}
use Rattle.script_text.proofs.table_lines.put_table_register.Goals as goal

pub returns : goal.returns
unfolding line_words
returns g c =
    let a = c.args in
    puts_as _ (sym (spaced_parts ((((codes "treg" ++ 32 ∷ 116 ∷ decimal a.handle) ++ 32 ∷ name_text a.name.now) ++ 32 ∷ decimal a.size) ++ 32 ∷ decimal a.option) (map rule_text a.rules.now)))
    (c.put.ensures ▸ c.put_register.ensures ▸ c.put_name_word.ensures ▸ c.put_figure.ensures ▸ c.put_figure-2.ensures ▸ c.put_rules.ensures)
