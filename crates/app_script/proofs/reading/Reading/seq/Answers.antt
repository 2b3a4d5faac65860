use Rattle.std.proofs.Common.{eqb, sym, ap, ◌∙◌, arith}
use Rattle.std.specs.List.{list_any}
use Rattle.script_words.specs.Text.{words_of}
use Rattle.app_script.specs.Inside.{progress_in}
use Rattle.app_script.proofs.PartLemmas.{seq_again, seq_more}
use Rattle.app_script.proofs.reading.Reading.seq.Goals as goal

pub returns-then-has_start : goal.returns-then-has_start
returns-then-has_start c =
    rw (← c.self.view_is)
    (seq_again (progress_in c.self.inside) (words_of c.args.rest.now) (c.in_ok-id.id, c.in_ok-id.count) c.in_ok-id.ensures.line (omega (arith, c.len.ensures.value))
    (ap (list_any (λ other. eqb other.0 c.in_ok-id.id)) (sym c.as_slice.ensures.value) ∙ sym c.has_start.ensures ∙ c.if-has_start.true))

pub returns : goal.returns
returns c =
    rw (c.push.ensures.items, ← c.self.view_is)
    (seq_more (progress_in c.self.inside) (words_of c.args.rest.now) (c.in_ok-id.id, c.in_ok-id.count) c.in_ok-id.ensures.line (omega (arith, c.len.ensures.value))
    (ap (list_any (λ other. eqb other.0 c.in_ok-id.id)) (sym c.as_slice.ensures.value) ∙ sym c.has_start.ensures ∙ c.if-has_start.false))
