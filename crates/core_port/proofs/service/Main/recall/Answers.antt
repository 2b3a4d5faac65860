use Rattle.std.proofs.Common.{◌≤◌, All, subst}
use Rattle.core_port.specs.Ports.{MainView}
use Rattle.core_port.proofs.Mains.{main_called}
use Rattle.core_port.proofs.service.Main.recall.Goals as goal

pub returns : goal.returns
returns g c =
    subst (λ (m : MainView _ _). All (λ e. 1 ≤ g.K.Kind.words.caller e) (g.K.Kind.words.entries m.seen)) c.self.view_is
    (main_called g.K.Kind.words c.laws.ensures c.self.inside.seat c.self.inside.budgets.items c.self.inside.view_room c.self.invariant)
