use Rattle.std.proofs.Common.{◌≡◌, false, true≢false, rules, sym, ◌∙◌}
use Rattle.report_check.proofs.Judging.{line_behind_end, more_behind, taken}
use Rattle.report_check.proofs.reports.check_tail.Goals as goal

pub returns-then-not-is_at_end : goal.returns-then-not-is_at_end
returns-then-not-is_at_end c =
    let at = c.args.text.now in
    let to = c.take.new.self in
    let past = taken c.take.result at to c.args.tail.now (search rules) c.take.ensures in
    let more : c.is_at_end.result ≡ false = search rules in (
      more_behind at to c.args.tail.now past (λ none. true≢false (sym (c.is_at_end.ensures.1 none) ∙ more)),
      c.in_ok-wrong_line-2.ensures.line ∙ line_behind_end at to c.args.tail.now past,
    )
