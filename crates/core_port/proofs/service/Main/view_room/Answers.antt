use Rattle.std.proofs.Common.{ap, sym, ◌∙◌}
use Rattle.core_port.specs.Ports.{MainView}
use Rattle.core_port.proofs.Mains.{main_views}
use Rattle.core_port.proofs.service.Main.view_room.Goals as goal

pub returns : goal.returns
returns g c =
    let w = g.K.Kind.words in
    sym (main_views w c.laws.ensures c.self.inside.seat c.self.inside.budgets.items c.self.inside.view_room c.self.invariant)
    ∙ ap (λ (m : MainView _ _). w.view_room (w.fixed m.seen).limits) c.self.view_is
