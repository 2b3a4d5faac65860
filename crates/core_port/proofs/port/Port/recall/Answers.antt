use Rattle.std.proofs.Common.{◌≡◌, ◌≤◌, length, All, subst}
use Rattle.core_port.specs.Histories.{own_entries}
use Rattle.core_port.specs.Ports.{PortView}
use Rattle.core_port.proofs.Mains.{port_known, port_called, port_mine}
use Rattle.core_port.proofs.port.Port.recall.Goals as goal

pub returns-clause-first : goal.returns-clause-first
returns-clause-first g c = subst (λ (p : PortView _ _). 1 ≤ p.app) c.self.view_is c.self.invariant.first

pub returns-clause-known : goal.returns-clause-known
returns-clause-known g c =
    subst (λ (p : PortView _ _). p.app ≤ length (g.K.Kind.words.fixed p.seen).budgets) c.self.view_is
    (port_known g.K.Kind.words c.laws.ensures c.self.inside.seat c.self.inside.app c.self.inside.permits c.self.invariant)

pub returns-clause-called : goal.returns-clause-called
returns-clause-called g c =
    subst (λ (p : PortView _ _). All (λ e. 1 ≤ g.K.Kind.words.caller e) (g.K.Kind.words.entries p.seen)) c.self.view_is
    (port_called g.K.Kind.words c.laws.ensures c.self.inside.seat c.self.inside.app c.self.inside.permits c.self.invariant)

pub returns-clause-mine : goal.returns-clause-mine
returns-clause-mine g c =
    subst (λ (p : PortView _ _). own_entries g.K.Kind.words p.app (g.K.Kind.words.entries p.seen) ≡ p.mine) c.self.view_is
    (port_mine g.K.Kind.words c.laws.ensures c.self.inside.seat c.self.inside.app c.self.inside.permits c.self.invariant)
