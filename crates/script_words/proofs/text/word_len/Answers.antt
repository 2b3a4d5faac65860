use Rattle.std.proofs.Common.{sym}
use Rattle.script_words.specs.Text.{is_blank}
use Rattle.script_words.proofs.TextLemmas.{place_none}
use Rattle.script_words.proofs.text.word_len.Goals as goal

pub returns-in-None-clause-count : goal.returns-in-None-clause-count
returns-in-None-clause-count c = sym (place_none is_blank c.args.line.now (sym c.in-None.ensures))
