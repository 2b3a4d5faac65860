use Rattle.std.proofs.Common.{refl, sym, ap, ◌∙◌}
use Rattle.bus_words.specs.Machine.{by_bus}
use Rattle.bus_words.specs.Refusals.{OfBus}
use Rattle.bus_words.specs.declared.history.Call.TheVariants.{Release}
use Rattle.bus_words.specs.declared.calls.BusAnswer.TheVariants.{Done}
use Rattle.list_messages.specs.Messages.{Messages}
use Rattle.list_bus.specs.Inside.{means}
use Rattle.list_bus.proofs.DecidedCalls.{refused, accepted, limits_with, with_part}
use Rattle.list_bus.proofs.bus.ListBus.release.Goals as goal

pub returns-in-Some : goal.returns-in-Some
returns-in-Some c =
    refused c.args.self.now c.args.app (Release c.args.buf) (OfBus c.in-Some.why) (ap by_bus (sym c.release_cause.ensures ∙ c.in-Some.is)) refl c.requires

pub returns : goal.returns
returns c =
    let a = c.self.inside in
    let m = c.release.new.self in
    let is = c.in_ok-release.ensures in
    accepted a (record a { messages = m }) c.args.self.now c.self.view_is c.args.app (Release c.args.buf)
    (ap (limits_with a) is.after) refl refl is.kept Done (ap by_bus (sym c.release_cause.ensures ∙ c.in_default.is))
    (sym (ap (λ (p : Messages). (Done, means (with_part a p m.uses))) is.after))
