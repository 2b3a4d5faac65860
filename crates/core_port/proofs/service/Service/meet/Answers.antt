use Rattle.std.proofs.Common.{◌∙◌, ap, sym, subst}
use mathlib.Core.List.{IsPrefix}
use Rattle.turn_lock.specs.Seats.{KeepsLonger, view_of}
use Rattle.turn_lock.specs.Views.{entries_of}
use Rattle.core_port.specs.Histories.{entries_in, own_entries}
use Rattle.core_port.specs.Inside.{seen_in}
use Rattle.core_port.specs.Ports.{MainView, PortView, KeepsLongerOf}
use Rattle.core_port.proofs.Mains.{joins, keeps_longer, entries_are}
use Rattle.core_port.proofs.Meetings.{none_ended, own_begins}
use Rattle.core_port.proofs.service.Service.meet.Goals as goal

pub meet-requires-clause-none : goal.meet-requires-clause-none
meet-requires-clause-none g c =
    none_ended g.K.Kind.words c.laws.ensures (view_of c.main.inside.seat).ended (ap (λ (m : MainView _ _). m.ended) c.main.view_is ∙ c.requires.none)

pub invariant_of-main : goal.invariant_of-main
invariant_of-main g c =
    joins g.K.Kind.words c.laws.ensures c.main.inside.seat c.port.inside.seat c.meet.new.main (ap (λ v. v.fixed) c.meet.ensures.same) _ c.main.inside.budgets.items c.main.inside.view_room c.main.invariant
    c.port.invariant.called c.meet.ensures.main
    (subst (λ v. KeepsLonger (view_of c.main.inside.seat).seen v.seen (view_of c.meet.new.main).seen) c.sleep.ensures.view c.meet.ensures.seen)
    (ap (λ v. v.apps) c.meet.ensures.same) c.meet.ensures.others

pub returns-clause-seen : goal.returns-clause-seen
returns-clause-seen g c =
    let w = g.K.Kind.words in
    let longer = subst (λ v. KeepsLonger (view_of c.main.inside.seat).seen v.seen (view_of c.meet.new.main).seen) c.sleep.ensures.view c.meet.ensures.seen in
    subst (λ (m : MainView _ _). KeepsLongerOf w m.seen c.args.port.now.seen (seen_in w c.meet.new.main)) c.main.view_is
    (subst (λ (p : PortView _ _). KeepsLongerOf w (seen_in w c.main.inside.seat) p.seen (seen_in w c.meet.new.main)) c.port.view_is
    (keeps_longer w c.laws.ensures c.main.inside.seat c.port.inside.seat c.meet.new.main (ap (λ v. v.fixed) c.meet.ensures.same) longer))

pub returns-clause-own : goal.returns-clause-own
returns-clause-own g c =
    let w = g.K.Kind.words in
    let its = view_of c.port.inside.seat in
    let seen = (view_of c.meet.new.main).seen in
    let own = subst (λ v. IsPrefix (entries_of v.app seen) v.mine) c.sleep.ensures.view c.meet.ensures.own in
    subst (λ (p : PortView _ _). IsPrefix (own_entries w p.app (w.entries (seen_in w c.meet.new.main))) p.mine) c.port.view_is
    (subst (λ es. IsPrefix (own_entries w c.port.inside.app es) (entries_in w its.mine)) (sym (entries_are w c.laws.ensures c.meet.new.main))
    (subst (λ app. IsPrefix (own_entries w app (entries_in w seen)) (entries_in w its.mine)) c.port.invariant.own (own_begins w c.laws.ensures its.app seen its.mine own)))
