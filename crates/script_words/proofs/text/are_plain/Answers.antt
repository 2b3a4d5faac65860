use Rattle.std.proofs.Common.{sym, ◌∙◌}
use Rattle.script_words.proofs.TextLemmas.{plain_lines}
use Rattle.script_words.proofs.text.are_plain.Goals as goal

pub returns-clause-lines : goal.returns-clause-lines
returns-clause-lines c = λ plain. plain_lines c.args.bytes.now (sym c.are_plain_bytes.ensures ∙ plain)
