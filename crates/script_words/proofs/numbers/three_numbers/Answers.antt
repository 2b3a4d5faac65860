use Rattle.script_words.proofs.NumberLemmas.{numbers_3-cut}
use Rattle.script_words.proofs.numbers.three_numbers.Goals as goal

pub returns-in-Some : goal.returns-in-Some
returns-in-Some c = rw (numbers_3-cut c.args.word.now c.in-Some.first.now c.in-Some.others.now c.in-Some.ensures) c.number_and_two.ensures
