use Rattle.std.proofs.Common.{◌+◌, None, refl, sym, ap, ◌∙◌}
use Rattle.bus_words.specs.Machine.{by_bus, allocate_cause}
use Rattle.bus_words.specs.Refusals.{OfBus}
use Rattle.bus_words.specs.declared.history.Call.TheVariants.{Allocate}
use Rattle.bus_words.specs.declared.calls.BusAnswer.TheVariants.{Number}
use Rattle.list_messages.specs.Messages.{Messages}
use Rattle.list_bus.specs.Inside.{means, limits_in}
use Rattle.list_bus.proofs.DecidedCalls.{refused, accepted, at_fields, kept_at, limits_with, with_part}
use Rattle.list_bus.proofs.SendCalls.{room_to}
use Rattle.list_bus.proofs.bus.ListBus.allocate.Goals as goal

pub returns-in-Some : goal.returns-in-Some
returns-in-Some c =
    refused c.args.self.now c.args.app (Allocate c.args.size) (OfBus c.in-Some.why) (ap by_bus (sym c.allocate_cause.ensures ∙ c.in-Some.is)) refl c.requires

pub allocate-requires : goal.allocate-requires
allocate-requires c =
    let a = c.self.inside in
    let none = at_fields a c.args.self.now c.self.view_is (λ limits s. allocate_cause limits s c.args.size) None (sym c.allocate_cause.ensures ∙ c.in_default.is) in
    record {
      kept = kept_at a c.args.self.now c.self.view_is c.requires;
      room = room_to (limits_in a) (means a).bus c.args.size none;
    }

pub returns : goal.returns
returns c =
    let a = c.self.inside in
    let m = c.allocate.new.self in
    let is = c.in_ok-number.ensures in
    accepted a (record a { messages = m }) c.args.self.now c.self.view_is c.args.app (Allocate c.args.size)
    (ap (limits_with a) is.after) refl refl is.kept (Number c.in_ok-number.number) (ap by_bus (sym c.allocate_cause.ensures ∙ c.in_default.is))
    (sym
    (ap (λ n. (Number n, means (record a { messages = m }))) is.number
    ∙ ap (λ (p : Messages). (Number (a.messages.part.numbers_given + 1), means (with_part a p m.uses))) is.after))
