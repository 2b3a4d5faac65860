use Rattle.std.proofs.Common.{refl, sym, ap, ◌∙◌}
use Rattle.bus_words.specs.Machine.{by_bus, number_of}
use Rattle.bus_words.specs.Refusals.{OfBus}
use Rattle.bus_words.specs.declared.history.Call.TheVariants.{Find}
use Rattle.bus_words.specs.declared.calls.BusAnswer.TheVariants.{Number}
use Rattle.list_bus.specs.Played.{Played}
use Rattle.list_bus.proofs.DecidedCalls.{refused, accepted_still}
use Rattle.list_bus.proofs.bus.ListBus.find.Goals as goal

pub returns-in-Some : goal.returns-in-Some
returns-in-Some c =
    refused c.args.self.now c.args.app (Find c.args.name.now) (OfBus c.in-Some.why) (ap by_bus (sym c.find_cause.ensures ∙ c.in-Some.is)) refl c.requires

pub returns : goal.returns
returns c =
    let is = c.number_of.ensures ∙ ap (λ pipes. number_of pipes c.args.name.now) (c.pipes.ensures ∙ ap (λ (p : Played). p.whole.bus.pipes) c.self.view_is) in
    accepted_still c.args.self.now c.args.app (Find c.args.name.now) (Number c.number_of.result) (ap by_bus (sym c.find_cause.ensures ∙ c.in_default.is))
    (ap (λ n. (Number n, c.args.self.now.whole)) (sym is)) c.requires
