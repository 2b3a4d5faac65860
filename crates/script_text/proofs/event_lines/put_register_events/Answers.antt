use Rattle.std.proofs.Common.{map, codes, sym}
use Rattle.text_page.proofs.PieceTexts.{◌▸◌, puts_as}
use Rattle.script_text.specs.Spelling.{line_words, filter_text}
use Rattle.script_text.proofs.PieceLemmas.{spaced_parts}
use Rattle.script_text.proofs.event_lines.put_register_events.Goals as goal

pub returns : goal.returns
unfolding line_words
returns g c = puts_as _ (sym (spaced_parts (codes "evreg") (map filter_text c.args.filters.now))) (c.put.ensures ▸ c.put_filters.ensures)
