use Rattle.std.proofs.Common.{ap, sym, ◌∙◌, subst}
use Rattle.sb_calls.specs.Bags.{HasBag}
use Rattle.sb_calls.specs.Core.{MayCall}
use Rattle.bus_service.specs.Inside.{with_bag}
use Rattle.bus_service.specs.Ports.{PortView, Answers, FindsRoom}
use Rattle.bus_service.proofs.Visits.{answered}
use Rattle.bus_service.proofs.ports.BusPort.visit.Goals as goal

pub visit-requires-clause-service : goal.visit-requires-clause-service
visit-requires-clause-service g c = ap (λ (p : PortView). p.lock) c.self.view_is ∙ c.requires.bus ∙ sym c.bus.view_is

pub visit-requires-clause-may : goal.visit-requires-clause-may
visit-requires-clause-may g c = subst (λ (p : PortView). MayCall p.seen p.app (g.C.PortCall.call c.args.call p.bag)) (sym c.self.view_is) c.requires.may

pub visit-requires-clause-bag : goal.visit-requires-clause-bag
visit-requires-clause-bag g c = c.self.invariant

pub visit-requires-clause-room : goal.visit-requires-clause-room
visit-requires-clause-room g c = subst (λ (p : PortView). FindsRoom p.bag (g.C.PortCall.call c.args.call p.bag)) (sym c.self.view_is) c.requires.room

pub invariant_of-self : goal.invariant_of-self
invariant_of-self g c = subst (λ n. HasBag c.visit.new.self.seen n c.visit.new.bag) (sym c.visit.ensures.answers.app) c.visit.ensures.bag

pub returns-clause-answers : goal.returns-clause-answers
returns-clause-answers g c =
    subst (λ (p : PortView). Answers p (with_bag c.visit.new.self c.visit.new.bag) (g.C.PortCall.call c.args.call p.bag) (g.C.PortCall.answer c.visit.result)) c.self.view_is
    (answered c.self.inside.port c.visit.new.self c.self.inside.bag c.visit.new.bag c.visit.ensures.bag (g.C.PortCall.call c.args.call c.self.inside.bag) (g.C.PortCall.answer c.visit.result) c.visit.ensures.answers)

pub returns-clause-left : goal.returns-clause-left
returns-clause-left g c = subst (λ (p : PortView). g.C.PortCall.leaves c.args.call p.bag c.visit.new.bag c.visit.result) c.self.view_is c.visit.ensures.left
