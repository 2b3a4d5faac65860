use Rattle.std.proofs.Common.{◌-◌, ◌≤◌, length, ap, sym, ◌∙◌, subst, arith}
use Rattle.std.proofs.lemmas.List.{length-map}
use Rattle.bus_words.specs.Log.{Log}
use Rattle.bus_words.specs.Inside.{entry_in}
use Rattle.bus_words.proofs.Journals.{AreWhole-answered, entries-answered}
use Rattle.bus_words.proofs.journal.BusJournal.set_answer.Goals as goal

pub invariant_of-self : goal.invariant_of-self
invariant_of-self c =
    let rows = c.self.inside.store.rows in
    let some : 1 ≤ length rows = subst (λ n. 1 ≤ n) (ap (λ (l : Log). length l.entries) (sym c.self.view_is) ∙ length-map rows entry_in) c.requires in
    AreWhole-answered rows c.replace_last.new.self.rows (c.len.result - 1) c.row.result.now c.with_text-call.result c.args.answer c.self.invariant c.with_text-call.ensures.other
    some (omega (arith, some, c.len.ensures.len)) c.row.ensures c.replace_last.ensures.rows

pub returns-clause-entries : goal.returns-clause-entries
returns-clause-entries c front last is =
    let rows = c.self.inside.store.rows in
    let some : 1 ≤ length rows = subst (λ n. 1 ≤ n) (ap (λ (l : Log). length l.entries) (sym c.self.view_is) ∙ length-map rows entry_in) c.requires in
    entries-answered rows c.replace_last.new.self.rows (c.len.result - 1) c.row.result.now c.with_text-call.result c.args.answer front last c.with_text-call.ensures.other
    some (omega (arith, some, c.len.ensures.len)) c.row.ensures c.replace_last.ensures.rows
    (ap (λ (l : Log). l.entries) c.self.view_is ∙ is)
