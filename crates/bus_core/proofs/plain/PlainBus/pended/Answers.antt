use Rattle.std.proofs.Common.{◌-◌, ◌∙◌, true, false, set, sym, ap, subst, List}
use Rattle.std.specs.List.{list_all}
use Rattle.bus_words.specs.Machine.{pended_answer}
use Rattle.bus_core.specs.declared.activities.Activity.{Activity}
use Rattle.bus_core.specs.declared.activities.Activity.TheVariants as activities
use Rattle.bus_core.specs.Core.{Plain}
use Rattle.bus_core.specs.Rows.{idle_in}
use Rattle.bus_core.proofs.Looks.{pended-some, pended-none}
use Rattle.bus_messages.specs.Blocks.{IsGiven}
use Rattle.bus_core.proofs.Waits.{oldest_given, got_number}
use Rattle.bus_core.proofs.plain.PlainBus.pended.Goals as goal

pub returns-in-Some-clause-answer : goal.returns-in-Some-clause-answer
returns-in-Some-clause-answer c =
    let some = sym c.oldest.ensures ∙ c.in-Some.is in
    sym (pended-some c.self.inside c.args.app c.args.pipe c.in-Some.number some)
    ∙ ap (λ (o : Plain). pended_answer o.whole.bus c.args.app c.args.pipe) c.self.view_is

pub returns-then-are_others_idle-clause-answer : goal.returns-then-are_others_idle-clause-answer
returns-then-are_others_idle-clause-answer c =
    let none = sym c.oldest.ensures ∙ c.in_default.is in
    let idle =
    ap (λ (l : List Activity). list_all (idle_in c.self.inside.store.pipes) (set l (c.args.app - 1) activities.Ended)) (sym c.deref.ensures.value)
    ∙ sym c.are_others_idle.ensures ∙ c.if-are_others_idle.true in
    sym (pended-none c.self.inside c.args.app c.args.pipe true none idle)
    ∙ ap (λ (o : Plain). pended_answer o.whole.bus c.args.app c.args.pipe) c.self.view_is

pub returns-clause-answer : goal.returns-clause-answer
returns-clause-answer c =
    let none = sym c.oldest.ensures ∙ c.in_default.is in
    let idle =
    ap (λ (l : List Activity). list_all (idle_in c.self.inside.store.pipes) (set l (c.args.app - 1) activities.Ended)) (sym c.deref.ensures.value)
    ∙ sym c.are_others_idle.ensures ∙ c.if-are_others_idle.false in
    sym (pended-none c.self.inside c.args.app c.args.pipe false none idle)
    ∙ ap (λ (o : Plain). pended_answer o.whole.bus c.args.app c.args.pipe) c.self.view_is

pub returns-in-Some-clause-given : goal.returns-in-Some-clause-given
returns-in-Some-clause-given c = λ number same.
    let a = c.self.inside in
    subst (λ n. IsGiven c.args.self.now.whole.bus.numbers_given n) (ap got_number same)
    (subst (λ (p : Plain). IsGiven p.whole.bus.numbers_given c.in-Some.number) c.self.view_is
    (oldest_given a.store.numbers_given a.store.pipes c.args.pipe c.in-Some.number c.recall_sends.ensures.given (sym c.oldest.ensures ∙ c.in-Some.is)))
