use Rattle.std.proofs.Common.{None, refl, sym, ap, ◌∙◌}
use Rattle.bus_words.specs.declared.history.Call.TheVariants.{Pend}
use Rattle.bus_words.specs.Machine.{by_bus, unowned_cause, pended_answer}
use Rattle.bus_words.specs.Refusals.{OfBus}
use Rattle.list_bus.specs.Played.{Played}
use Rattle.list_bus.proofs.DecidedCalls.{refused, decides, at_fields, limits_with}
use Rattle.list_bus.proofs.ReceiveCalls.{waits, pended_made}
use Rattle.list_bus.proofs.bus.ListBus.pend.Goals as goal

pub returns-in-Some : goal.returns-in-Some
returns-in-Some c =
    refused c.args.self.now c.args.app (Pend c.args.pipe) (OfBus c.in-Some.why) (ap by_bus (sym c.unowned_cause.ensures ∙ c.in-Some.is)) refl c.requires

pub returns : goal.returns
returns c =
    let a = c.self.inside in
    let now = c.args.self.now in
    let app = c.args.app in
    let pipe = c.args.pipe in
    let m = c.receive.new.self in
    let st = c.wait_if.new.standings in
    let is = c.in_ok-receive.ensures in
    let none = at_fields a now c.self.view_is (λ limits s. unowned_cause s app pipe) None (sym c.unowned_cause.ensures ∙ c.in_default.is) in
    let answers = c.pended_answer-answer.ensures ∙ sym (ap (λ (p : Played). pended_answer p.whole.bus app pipe) c.self.view_is) in
    let musts = c.must_wait-waits.ensures ∙ sym (ap (λ (p : Played). waits p app pipe) c.self.view_is) in
    decides a (record a { messages = m; standings = st }) now c.self.view_is app (Pend pipe) (ap (limits_with a) is.after) refl refl is.kept _
    (pended_made a m app pipe is.after c.pended_answer-answer.result c.must_wait-waits.result _ answers musts none c.wait_if.ensures)
