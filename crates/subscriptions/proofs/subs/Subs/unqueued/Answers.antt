-- The count in the slot changes if the subscription is live, and nothing if it isn't.
use Rattle.std.proofs.Common.{◌≡◌, ◌-◌, set, None, ap, sym, subst, ◌∙◌, vec_capacity, arith}
use Rattle.subscriptions.specs.contracts.subs.Subs.{the_view, the_invariant}
use Rattle.subscriptions.specs.declared.subs.Subs.TheInside.{Inside}
use Rattle.subscriptions.specs.Subs.{live_at, one_fewer, with_change}
use Rattle.subscriptions.specs.Inside.{held_in, recounted}
use Rattle.subscriptions.proofs.Slots.{live_here}
use Rattle.subscriptions.proofs.WaitingCounts.{IsRecounted, recounts, recounts_none, still_kept}
use Rattle.subscriptions.proofs.subs.Subs.unqueued.Goals as goal
use Rattle.subscriptions.proofs.subs.Subs.unqueued.Goals.{in-Some, in_default}

pub count_down-requires : goal.count_down-requires
count_down-requires c = λ p here its.
    let s = c.self.inside in
    let sub = c.args.sub in
    let found = live_here s.slots.items s.free.items s.made sub p c.self.invariant.0 (sym (c.in-Some.ensures.item.3.1 None) ∙ here) its in
    let fits = c.requires (held_in sub.slot p) (sym (ap (λ v. live_at v sub) c.self.view_is) ∙ found) in
    omega (arith, fits)

-- what is left
recount : (c : goal.Joined-get_mut) → IsRecounted c.match-get_mut.self-inside.slots.items c.self.inside.slots.items c.self.inside.free.items c.self.inside.made c.args.sub (λ waiting. waiting - 1)
recount c =
    let s = c.self.inside in
    let sub = c.args.sub in
    elim c.match-get_mut.branch [
      | in-Some w ↦
          recounts c.match-get_mut.self-inside.slots.items s.slots.items s.free.items s.made sub (λ waiting. waiting - 1) c.self.invariant.0
          (ap (λ (i : Inside). i.slots.items) w.self-inside-is
          ∙ ap (set s.slots.items sub.slot) (w.count_down.ensures ∙ ap (recounted sub.number (λ waiting. waiting - 1)) (w.in-Some.ensures.item.3.1 None)))
      | in_default w ↦
          recounts_none c.match-get_mut.self-inside.slots.items s.slots.items s.free.items s.made sub (λ waiting. waiting - 1) c.self.invariant.0
          (ap (λ (i : Inside). i.slots.items) w.self-inside-is) (sym (w.in_default.ensures.item.4 (omega arith) None))
    ]

-- the list has the room that it had
same_room : (c : goal.Joined-get_mut) → vec_capacity c.match-get_mut.self-inside.slots ≡ vec_capacity c.self.inside.slots
same_room c =
    elim c.match-get_mut.branch [
      | in-Some w ↦ ap (λ (i : Inside). vec_capacity i.slots) w.self-inside-is
      | in_default w ↦ ap (λ (i : Inside). vec_capacity i.slots) w.self-inside-is
    ]

-- the rest stays
rest : (c : goal.Joined-get_mut) → c.match-get_mut.self-inside ≡ record c.self.inside { slots = c.match-get_mut.self-inside.slots }
rest c =
    elim c.match-get_mut.branch [
      | in-Some w ↦ w.self-inside-is ∙ ap (λ (i : Inside). let j : Inside = record c.self.inside { slots = i.slots } in j) (sym w.self-inside-is)
      | in_default w ↦ w.self-inside-is ∙ ap (λ (i : Inside). let j : Inside = record c.self.inside { slots = i.slots } in j) (sym w.self-inside-is)
    ]

pub returns : goal.returns
returns c =
    ap the_view (rest c) ∙ ((recount c).live c.self.inside.room ∙ ap (λ v. with_change v c.args.sub one_fewer) c.self.view_is)

pub invariant_of-self : goal.invariant_of-self
invariant_of-self c =
    let s = c.self.inside in
    subst the_invariant (sym (rest c))
    (still_kept c.match-get_mut.self-inside.slots.items s.slots.items s.free.items s.made c.args.sub (λ waiting. waiting - 1) s.room (vec_capacity s.free) (vec_capacity s.slots) (vec_capacity c.match-get_mut.self-inside.slots) (recount c) (same_room c) c.self.invariant)
