use Rattle.std.proofs.Common.{codes, ap}
use Rattle.run_report.specs.CounterText.{field_text}
use Rattle.text_page.proofs.PieceTexts.{◌▸◌, puts_as}
use Rattle.run_report.proofs.pools.put_pool.Goals as goal

pub returns : goal.returns
returns g c =
    let figures = c.figures-figures.ensures in
    c.put_pool_head.ensures ▸ puts_as _ (ap (λ f. field_text (codes "size") f.size) figures) c.put_field.ensures
    ▸ puts_as _ (ap (λ f. field_text (codes "free") f.free) figures) c.put_field-2.ensures
    ▸ puts_as _ (ap (λ f. field_text (codes "requests") f.requests) figures) c.put_field-3.ensures
    ▸ puts_as _ (ap (λ f. field_text (codes "errors") f.errors) figures) c.put_field-4.ensures ▸ c.put.ensures
