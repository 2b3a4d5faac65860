use Rattle.std.proofs.Common.{sym, reverse, ◌∙◌}
use Rattle.std.proofs.lemmas.List.{length-reverse}
use Rattle.script_words.specs.Text.{is_no_blank}
use Rattle.script_words.proofs.TextLemmas.{place_none}
use Rattle.script_words.proofs.text.blanks_behind.Goals as goal

pub returns-in-None-clause-count : goal.returns-in-None-clause-count
returns-in-None-clause-count c = sym (place_none is_no_blank (reverse c.args.text.now) (sym c.in-None.ensures) ∙ length-reverse c.args.text.now)
