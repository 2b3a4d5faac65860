use Rattle.std.proofs.Common.{◌≡◌, ap, sym, ◌∙◌, subst}
use Rattle.bus_words.specs.declared.history.Call.TheVariants.{Look}
use Rattle.bus_words.specs.Bus.{standing_of, waited_on}
use Rattle.sb_calls.specs.Bags.{HasBag}
use Rattle.sb_calls.specs.Core.{MayCall, state_of}
use Rattle.bus_service.specs.Inside.{with_bag}
use Rattle.bus_service.specs.Ports.{PortView, AnswersLook}
use Rattle.bus_service.proofs.Visits.{answered_look}
use Rattle.bus_service.proofs.receiving.BusPort.look.Goals as goal

pub look-requires-clause-service : goal.look-requires-clause-service
look-requires-clause-service g c = ap (λ (p : PortView). p.lock) c.self.view_is ∙ c.requires.bus ∙ sym c.bus.view_is

pub look-requires-clause-may : goal.look-requires-clause-may
look-requires-clause-may g c = subst (λ (p : PortView). MayCall p.seen p.app (Look (waited_on (standing_of (state_of p.seen) p.app)))) (sym c.self.view_is) c.requires.may

pub look-requires-clause-bag : goal.look-requires-clause-bag
look-requires-clause-bag g c = c.self.invariant

pub invariant_of-self : goal.invariant_of-self
invariant_of-self g c = subst (λ n. HasBag c.look.new.self.seen n c.look.new.bag) (sym c.look.ensures.answers.app) c.look.ensures.bag

pub returns-clause-answers : goal.returns-clause-answers
returns-clause-answers g c =
    subst (λ (p : PortView). AnswersLook p (with_bag c.look.new.self c.look.new.bag) (waited_on (standing_of (state_of p.seen) p.app)) c.look.result) c.self.view_is
    (answered_look c.self.inside.port c.look.new.self c.self.inside.bag c.look.new.bag c.look.ensures.bag c.look.result c.recall.ensures.first c.look.ensures.answers)

pub returns-clause-still : goal.returns-clause-still
returns-clause-still g c = λ vain. c.look.ensures.left.0 vain ∙ ap (λ (p : PortView). p.bag) c.self.view_is

pub returns-clause-buffers : goal.returns-clause-buffers
returns-clause-buffers g c = subst (λ (p : PortView). c.look.new.bag ≡ record p.bag { views = c.look.new.bag.views }) c.self.view_is c.look.ensures.left.1
