use Rattle.std.proofs.Common.{Some, None, sym, arith}
use Rattle.script_words.specs.Text.{is_feed}
use Rattle.script_words.proofs.TextLemmas.{first_is_place, place_none, place_some}
use Rattle.report_check.proofs.parts.line_len.Goals as goal

pub returns-in-Some-clause-value : goal.returns-in-Some-clause-value
returns-in-Some-clause-value c =
    let text = c.args.text.now in
    sym (place_some is_feed text c.in-Some.len (sym (first_is_place is_feed text (Some c.in-Some.len) c.in-Some.ensures))).0

pub returns-in-Some-clause-within : goal.returns-in-Some-clause-within
returns-in-Some-clause-within c =
    let text = c.args.text.now in
    let found = place_some is_feed text c.in-Some.len (sym (first_is_place is_feed text (Some c.in-Some.len) c.in-Some.ensures)) in
    omega (arith, found.1)

pub returns-in-None-clause-value : goal.returns-in-None-clause-value
returns-in-None-clause-value c =
    let text = c.args.text.now in
    sym (place_none is_feed text (sym (first_is_place is_feed text None c.in-None.ensures)))
