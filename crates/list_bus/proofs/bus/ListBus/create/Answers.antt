use Rattle.std.proofs.Common.{◌+◌, refl, sym, ap, ◌∙◌}
use Rattle.bus_words.specs.Machine.{by_bus}
use Rattle.bus_words.specs.Refusals.{OfBus}
use Rattle.bus_words.specs.declared.history.Call.TheVariants.{Create}
use Rattle.bus_words.specs.declared.calls.BusAnswer.TheVariants.{Number}
use Rattle.list_messages.specs.Messages.{Messages, with_new_pipe}
use Rattle.list_bus.specs.Inside.{means}
use Rattle.list_bus.proofs.DecidedCalls.{refused, accepted, limits_with, with_part}
use Rattle.list_bus.proofs.bus.ListBus.create.Goals as goal

pub returns-in-Some : goal.returns-in-Some
returns-in-Some c =
    refused c.args.self.now c.args.app (Create c.args.depth c.args.name.now) (OfBus c.in-Some.why) (ap by_bus (sym c.create_cause.ensures ∙ c.in-Some.is)) refl c.requires

pub returns : goal.returns
returns c =
    let a = c.self.inside in
    let m = c.create.new.self in
    let is = c.in_ok-number.ensures in
    accepted a (record a { messages = m }) c.args.self.now c.self.view_is c.args.app (Create c.args.depth c.args.name.now)
    (ap (limits_with a) is.after) refl refl is.kept (Number c.in_ok-number.number) (ap by_bus (sym c.create_cause.ensures ∙ c.in_default.is))
    (sym
    (ap (λ n. (Number n, means (record a { messages = m }))) is.number
    ∙ ap (λ (p : Messages). (Number (a.messages.part.pipes_created + 1), means (with_part a p m.uses))) is.after
    ∙ ap (λ text. (Number (a.messages.part.pipes_created + 1), means (with_part a (with_new_pipe a.messages.part c.args.app c.args.depth text) m.uses))) c.in_ok-text.ensures))
