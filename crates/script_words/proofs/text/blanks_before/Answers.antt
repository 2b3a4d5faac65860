use Rattle.std.proofs.Common.{sym}
use Rattle.script_words.specs.Text.{is_no_blank}
use Rattle.script_words.proofs.TextLemmas.{place_none}
use Rattle.script_words.proofs.text.blanks_before.Goals as goal

pub returns-in-None-clause-count : goal.returns-in-None-clause-count
returns-in-None-clause-count c = sym (place_none is_no_blank c.args.line.now (sym c.in-None.ensures))
