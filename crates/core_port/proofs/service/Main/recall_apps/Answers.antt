use Rattle.std.proofs.Common.{◌≡◌, ℕ, [], Contains, subst}
use Rattle.core_port.specs.Histories.{own_entries}
use Rattle.core_port.specs.Ports.{MainView}
use Rattle.core_port.proofs.Mains.{main_others}
use Rattle.core_port.proofs.service.Main.recall_apps.Goals as goal

pub returns : goal.returns
returns g c =
    subst (λ (m : MainView _ _). (app : ℕ) → ¬ (Contains m.apps app) → own_entries g.K.Kind.words app (g.K.Kind.words.entries m.seen) ≡ []) c.self.view_is
    (main_others g.K.Kind.words c.laws.ensures c.self.inside.seat c.self.inside.budgets.items c.self.inside.view_room c.self.invariant)
