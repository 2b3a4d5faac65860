use Rattle.std.proofs.Common.{not, eqb, refl, sym, ap, ◌∙◌}
use Rattle.bus_words.specs.Machine.{by_bus}
use Rattle.bus_words.specs.Refusals.{OfBus}
use Rattle.bus_words.specs.declared.history.Call.TheVariants.{Delete}
use Rattle.bus_words.specs.declared.calls.BusAnswer.TheVariants.{Done}
use Rattle.std.specs.List.{filter}
use Rattle.list_pipes.specs.Subscribed.{Subscribed}
use Rattle.list_messages.specs.Messages.{Messages}
use Rattle.list_bus.specs.Inside.{means}
use Rattle.list_bus.proofs.DecidedCalls.{refused, accepted, limits_with, with_part}
use Rattle.list_bus.proofs.bus.ListBus.delete.Goals as goal

pub returns-in-Some : goal.returns-in-Some
returns-in-Some c =
    refused c.args.self.now c.args.app (Delete c.args.pipe) (OfBus c.in-Some.why) (ap by_bus (sym c.unowned_cause.ensures ∙ c.in-Some.is)) refl c.requires

pub returns : goal.returns
returns c =
    let a = c.self.inside in
    let m = c.delete.new.self in
    let is = c.in_ok-delete.ensures in
    accepted a (record a { messages = m; subs = c.leave_pipe.new.self }) c.args.self.now c.self.view_is c.args.app (Delete c.args.pipe)
    (ap (limits_with a) is.after) refl refl is.kept Done (ap by_bus (sym c.unowned_cause.ensures ∙ c.in_default.is))
    (sym
    (ap (λ (subs : Subscribed). (Done, means (record a { messages = m; subs = subs }))) c.leave_pipe.ensures
    ∙ ap (λ (p : Messages). (Done, means (record (with_part a p m.uses) { subs = record a.subs { subscriptions = filter (λ sub. not (eqb sub.pipe c.args.pipe)) a.subs.subscriptions } }))) is.after))
