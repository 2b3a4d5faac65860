use Rattle.std.proofs.Common.{[], codes, decimal, ap, sym, ◌∙◌, append-nil}
use Rattle.run_report.specs.CounterText.{field_text}
use Rattle.text_page.proofs.PieceTexts.{◌▸◌, puts_as, waits_behind}
use Rattle.run_report.proofs.Accounts.{class-cut, class-uncut}
use Rattle.run_report.proofs.pools.put_class.Goals as goal

pub returns-then-figures-ne0 : goal.returns-then-figures-ne0
returns-then-figures-ne0 g c =
    let figures = c.class-figures.ensures in
    let account = g.P.HasAccount.account c.args.pool.now in
    let made = ap (λ f. f.made) figures in
    puts_as _ (sym (class-cut c.args.name account c.args.class (λ none. c.if-figures-ne0.true (made ∙ none))))
    (c.put_class_head.ensures ▸ c.put.ensures ▸ puts_as _ (ap (λ f. decimal f.size) figures) c.put_number.ensures
    ▸ puts_as _ (ap (field_text (codes "made")) made) c.put_field.ensures
    ▸ puts_as _ (ap (λ f. field_text (codes "free") f.free) figures) c.put_field-then-figures-ne0.ensures
    ▸ c.put-then-figures-ne0.ensures)

pub returns-else-figures-ne0 : goal.returns-else-figures-ne0
returns-else-figures-ne0 g c =
    let account = g.P.HasAccount.account c.args.pool.now in
    let made = ap (λ f. f.made) c.class-figures.ensures in
    puts_as _ (sym (class-uncut c.args.name account c.args.class (sym made ∙ c.if-figures-ne0.false)))
    (waits_behind c.args.sink.now c.args.page.now c.args.page.now [] (sym (append-nil c.args.page.now)))
