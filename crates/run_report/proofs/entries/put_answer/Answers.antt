use Rattle.std.proofs.Common.{◌++◌, sym, ap, ◌∙◌, codes, inl, inr}
use Rattle.run_report.specs.BusText.{answer_text}
use Rattle.text_page.proofs.PieceTexts.{◌▸◌, puts_as}
use Rattle.run_report.proofs.entries.put_answer.Goals as goal

pub returns-in-Number : goal.returns-in-Number
returns-in-Number g c =
    puts_as (answer_text c.args.answer.now) (elim c.in-Number.is [ inl is ↦ ap answer_text (sym is) | inr is ↦ ap answer_text (sym is) ]) c.put_numbered-in-Number.ensures

pub returns-in-Name : goal.returns-in-Name
returns-in-Name g c =
    puts_as (answer_text c.args.answer.now) (ap (λ name. codes "CFE_SUCCESS " ++ name) c.as_slice.ensures.bytes ∙ ap answer_text (sym c.in-Name.is))
    (c.put-in-Name.ensures ▸ c.put-in-Name-2.ensures)

pub returns-in-Sent : goal.returns-in-Sent
returns-in-Sent g c =
    puts_as (answer_text c.args.answer.now) (ap answer_text (sym c.in-Sent.is)) (c.put_numbered.ensures ▸ c.put-in-Sent.ensures ▸ c.put_number.ensures)

pub returns-in-Pool : goal.returns-in-Pool
returns-in-Pool g c = puts_as (answer_text c.args.answer.now) (ap answer_text (sym c.in-Pool.is)) (c.put-in-Pool.ensures ▸ c.put_figures.ensures)

pub returns-in-Bus : goal.returns-in-Bus
returns-in-Bus g c = puts_as (answer_text c.args.answer.now) (ap answer_text (sym c.in-Bus.is)) (c.put-in-Bus.ensures ▸ c.put_stats.ensures)
