use Rattle.script_words.proofs.NumberLemmas.{parts_cut, parts_alone}
use Rattle.script_words.proofs.numbers.first_part.Goals as goal

pub returns-in-Some : goal.returns-in-Some
returns-in-Some c = parts_cut c.args.word.now c.split_at.result.0.now c.split_at-in-Some.result.1.now c.in-Some.end c.in-Some.ensures c.split_at.ensures.front c.split_at-in-Some.ensures.back

pub returns-in-None : goal.returns-in-None
returns-in-None c = parts_alone c.args.word.now c.in-None.ensures
