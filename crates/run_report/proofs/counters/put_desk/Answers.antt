use Rattle.std.proofs.Common.{codes, ap, ◌∙◌}
use Rattle.run_report.specs.CounterText.{field_text}
use Rattle.text_page.proofs.PieceTexts.{◌▸◌, puts_as}
use Rattle.run_report.proofs.counters.put_desk.Goals as goal

pub returns : goal.returns
returns g c =
    let counts = c.counts-counts.ensures.counts in
    c.put.ensures ▸ puts_as _ (ap (λ k. field_text (codes "sent") k.sent) counts) c.put_field.ensures
    ▸ puts_as _ (ap (λ k. field_text (codes "filtered") k.filtered) counts) c.put_field-2.ensures
    ▸ puts_as _ (ap (λ k. field_text (codes "cut") k.cut) counts) c.put_field-3.ensures
    ▸ puts_as _ (ap (λ k. field_text (codes "refused") k.refused) counts) c.put_field-4.ensures
    ▸ puts_as _ (ap (field_text (codes "logged")) c.log_len.ensures.len) c.put_field-5.ensures
    ▸ puts_as _ (ap (λ k. field_text (codes "lost") k.lost) counts) c.put_field-6.ensures
    ▸ puts_as _ (ap (field_text (codes "mode")) (c.from.ensures ∙ ap (λ k. k.mode) counts)) c.put_field-7.ensures ▸ c.put-2.ensures
