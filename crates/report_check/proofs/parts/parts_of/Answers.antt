use Rattle.std.proofs.Common.{Some, List, ℕ, ◌+◌, take, drop, ap, sym, ◌∙◌}
use Rattle.std.specs.List.{position_or_len}
use Rattle.script_words.specs.Text.{is_feed}
use Rattle.text_page.proofs.PieceTexts.{rest_of}
use Rattle.report_check.specs.Parts.{is_mark}
use Rattle.report_check.proofs.PartLaws.{line_found, line_passed}
use Rattle.report_check.proofs.parts.parts_of.Goals as goal

pub returns-then-is_mark : goal.returns-then-is_mark
returns-then-is_mark c =
    let input = c.args.input.now in
    let start = c.loop-start.start in
    let line = c.line_len-line.result in
    let rest = rest_of start input in
    ap (λ (t : List ℕ). Some (take start input, t)) (c.behind.ensures ∙ ap (drop (line + 1)) rest)
    ∙ line_found input start line c.loop-start.invariant (c.line_len-line.ensures.value ∙ ap (position_or_len is_feed) rest)
    (sym (ap (λ (l : List ℕ). is_mark (take line l)) rest) ∙ sym c.is_mark.ensures ∙ c.if-is_mark.true)

pub loop-start-preserved : goal.loop-start-preserved
loop-start-preserved c =
    let input = c.args.input.now in
    let start = c.loop-start.start in
    let line = c.line_len-line.result in
    let rest = rest_of start input in
    line_passed input start line c.loop-start.invariant (c.line_len-line.ensures.value ∙ ap (position_or_len is_feed) rest)
    (sym (ap (λ (l : List ℕ). is_mark (take line l)) rest) ∙ sym c.is_mark.ensures ∙ c.if-is_mark.false)
