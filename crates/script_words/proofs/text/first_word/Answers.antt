use Rattle.std.proofs.Common.{arith}
use Rattle.std.proofs.lemmas.Bool.Decides.{nat_tests}
use Rattle.script_words.proofs.TextLemmas.{first_of_words, no_first_word, behind_is_shorter}
use Rattle.script_words.proofs.text.first_word.Goals as goal

pub returns-then-is_empty-clause-words : goal.returns-then-is_empty-clause-words
returns-then-is_empty-clause-words c = no_first_word c.args.line.now c.from_word-line.result.now c.from_word-line.ensures (grind (arith, nat_tests))

pub returns-clause-words : goal.returns-clause-words
returns-clause-words c = first_of_words c.args.line.now c.from_word-line.result.now c.split_at.result.0.now c.split_at.result.1.now c.word_len.result c.from_word-line.ensures (grind (arith, nat_tests)) c.word_len.ensures.count c.split_at.ensures.front c.split_at.ensures.back

pub returns-clause-shorter : goal.returns-clause-shorter
returns-clause-shorter c = behind_is_shorter c.args.line.now c.from_word-line.result.now c.split_at.result.1.now c.word_len.result c.from_word-line.ensures (grind (arith, nat_tests)) c.word_len.ensures.count c.split_at.ensures.back
