use Rattle.script_words.proofs.NumberLemmas.{numbers_2-many}
use Rattle.script_words.proofs.numbers.two_numbers.Goals as goal

pub returns-in-Some-first_part : goal.returns-in-Some-first_part
returns-in-Some-first_part c = numbers_2-many c.args.word.now c.in-Some.first.now c.in-Some.second.now c.in-Some-first_part.field-0.0.now c.in-Some-first_part.field-0.1.now c.in-Some.ensures c.in-Some-first_part.ensures
