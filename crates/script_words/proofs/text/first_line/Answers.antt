use Rattle.script_words.proofs.TextLemmas.{first_of_lines, last_of_lines}
use Rattle.script_words.proofs.text.first_line.Goals as goal

pub returns-in-Some-clause-lines : goal.returns-in-Some-clause-lines
returns-in-Some-clause-lines c = first_of_lines c.args.bytes.now c.split_at.result.0.now c.split_at-in-Some.result.1.now c.without_return.result.now c.in-Some.end c.in-Some.ensures c.split_at.ensures.front c.split_at-in-Some.ensures.back c.without_return.ensures

pub returns-in-None-clause-lines : goal.returns-in-None-clause-lines
returns-in-None-clause-lines c = last_of_lines c.args.bytes.now c.split_at-in-None.result.1.now c.without_return-in-None.result.now c.requires c.in-None.ensures c.split_at-in-None.ensures.back c.without_return-in-None.ensures
