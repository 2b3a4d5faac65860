use Rattle.std.proofs.Common.{codes, ap}
use Rattle.run_report.specs.CounterText.{field_text}
use Rattle.text_page.proofs.PieceTexts.{◌▸◌, puts_as}
use Rattle.run_report.proofs.counters.put_counts.Goals as goal

pub returns : goal.returns
returns g c =
    c.put.ensures ▸ puts_as _ (ap (field_text (codes "nosub")) c.at.ensures) c.put_field.ensures
    ▸ puts_as _ (ap (field_text (codes "send")) c.at-2.ensures) c.put_field-2.ensures
    ▸ puts_as _ (ap (field_text (codes "recv")) c.at-3.ensures) c.put_field-3.ensures
    ▸ puts_as _ (ap (field_text (codes "create")) c.at-4.ensures) c.put_field-4.ensures
    ▸ puts_as _ (ap (field_text (codes "sub")) c.at-5.ensures) c.put_field-5.ensures
    ▸ puts_as _ (ap (field_text (codes "opts")) c.at-6.ensures) c.put_field-6.ensures
    ▸ puts_as _ (ap (field_text (codes "find")) c.at-7.ensures) c.put_field-7.ensures
    ▸ puts_as _ (ap (field_text (codes "dup")) c.at-8.ensures) c.put_field-8.ensures
    ▸ puts_as _ (ap (field_text (codes "limit")) c.at-9.ensures) c.put_field-9.ensures
    ▸ puts_as _ (ap (field_text (codes "overflow")) c.at-10.ensures) c.put_field-10.ensures ▸ c.put_oldest.ensures ▸ c.put-2.ensures
