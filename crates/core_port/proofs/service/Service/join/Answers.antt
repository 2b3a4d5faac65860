use Rattle.std.proofs.Common.{ℕ, map, ◌++◌, ◌∷◌, [], ap, ap₂, ◌∙◌, subst}
use Rattle.turn_lock.specs.Seats.{view_of}
use Rattle.core_port.specs.Histories.{entries_in}
use Rattle.core_port.specs.Inside.{seen_in, ended_in}
use Rattle.core_port.specs.Ports.{MainView, PortView, KeepsLongerOf}
use Rattle.core_port.proofs.Mains.{joins, joined_ended, keeps_longer}
use Rattle.core_port.proofs.service.Service.join.Goals as goal

pub invariant_of-main : goal.invariant_of-main
invariant_of-main g c =
    joins g.K.Kind.words c.laws.ensures c.main.inside.seat c.port.inside.seat c.join.new.main c.join.ensures.opening _ c.main.inside.budgets.items c.main.inside.view_room c.main.invariant c.port.invariant.called c.join.ensures.main c.join.ensures.seen c.join.ensures.apps c.join.ensures.others

pub returns-clause-seen : goal.returns-clause-seen
returns-clause-seen g c =
    let w = g.K.Kind.words in
    subst (λ (m : MainView _ _). KeepsLongerOf w m.seen c.args.port.seen (seen_in w c.join.new.main)) c.main.view_is
    (subst (λ (d : PortView _ _). KeepsLongerOf w (seen_in w c.main.inside.seat) d.seen (seen_in w c.join.new.main)) c.port.view_is
    (keeps_longer w c.laws.ensures c.main.inside.seat c.port.inside.seat c.join.new.main c.join.ensures.opening c.join.ensures.seen))

pub returns-clause-ended : goal.returns-clause-ended
returns-clause-ended g c =
    let w = g.K.Kind.words in
    let ended = (view_of c.main.inside.seat).ended in
    let mine = (view_of c.port.inside.seat).mine in
    joined_ended w c.laws.ensures ended (view_of c.join.new.main).ended (view_of c.port.inside.seat).app mine c.join.ensures.ended
    ∙ ap (λ (n : ℕ). map (ended_in w) ended ++ (n, entries_in w mine) ∷ []) c.port.invariant.own
    ∙ ap₂ (λ (m : MainView _ _) (d : PortView _ _). m.ended ++ (d.app, d.mine) ∷ []) c.main.view_is c.port.view_is
