use Rattle.std.proofs.Common.{sym, ap, ◌∙◌}
use Rattle.std.specs.List.{list_all}
use Rattle.std.proofs.lemmas.List.Folds.{list_all-map}
use Rattle.bus_words.specs.Bus.{has_ended}
use Rattle.list_bus.specs.Played.{Played}
use Rattle.list_bus.specs.Standings.{standing_in}
use Rattle.list_bus.proofs.bus.ListBus.have_all_ended.Goals as goal

pub returns : goal.returns
returns c =
    c.have_all_ended.ensures
    ∙ ap (list_all (λ s. has_ended (standing_in s))) c.deref.ensures.value
    ∙ sym (list_all-map has_ended standing_in c.self.inside.standings.items)
    ∙ ap (λ (p : Played). list_all has_ended p.whole.bus.standings) c.self.view_is
