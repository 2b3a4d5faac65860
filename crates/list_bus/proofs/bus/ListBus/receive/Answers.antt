use Rattle.std.proofs.Common.{None, refl, sym, ap, ◌∙◌}
use Rattle.bus_words.specs.declared.history.Call.TheVariants.{Receive}
use Rattle.bus_words.specs.Machine.{unowned_cause}
use Rattle.list_bus.proofs.DecidedCalls.{decides_still, decides, at_fields, limits_with}
use Rattle.list_bus.proofs.ReceiveCalls.{not_owned, received_made}
use Rattle.list_bus.proofs.bus.ListBus.receive.Goals as goal

pub returns-in-Some : goal.returns-in-Some
returns-in-Some c =
    let now = c.args.self.now in
    decides_still now c.args.app (Receive c.args.pipe) _ (not_owned now c.args.app c.args.pipe c.in-Some.why (sym c.unowned_cause.ensures ∙ c.in-Some.is)) c.requires

pub returns : goal.returns
returns c =
    let a = c.self.inside in
    let now = c.args.self.now in
    let app = c.args.app in
    let pipe = c.args.pipe in
    let m = c.receive.new.self in
    let is = c.in_ok-receive.ensures in
    let none = at_fields a now c.self.view_is (λ limits s. unowned_cause s app pipe) None (sym c.unowned_cause.ensures ∙ c.in_default.is) in
    decides a (record a { messages = m }) now c.self.view_is app (Receive pipe) (ap (limits_with a) is.after) refl refl is.kept _
    (received_made a m app pipe is.after none c.receive_answer-answer.result (rw c.pipes.ensures at c.receive_answer-answer.ensures))
