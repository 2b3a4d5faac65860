-- The slot of a live subscription holds it, and the count in it is one more.
use Rattle.std.proofs.Common.{◌≡◌, ◌+◌, set, None, Option, Some, IsSome, option_map, ap, sym, subst, ◌∙◌, refl, vec_capacity, arith}
use Rattle.std.proofs.lemmas.List.{get_or_default}
use Rattle.subscriptions.specs.contracts.subs.Subs.{the_view, the_invariant}
use Rattle.subscriptions.specs.declared.place.Place.{Place}
use Rattle.subscriptions.specs.declared.subs.Subs.TheInside.{Inside}
use Rattle.subscriptions.specs.declared.words.SubNo.{SubNo}
use Rattle.subscriptions.specs.Subs.{Subscribed, live_at, one_more, with_change}
use Rattle.subscriptions.specs.Inside.{held_in, recounted}
use Rattle.subscriptions.proofs.Slots.{IsHeld, slot_of_live}
use Rattle.subscriptions.proofs.WaitingCounts.{IsRecounted, recounts, still_kept}
use Rattle.subscriptions.proofs.subs.Subs.add_waiting.Goals as goal

-- if it is
held : (s : Inside) (now : Subscribed) (sub : SubNo) → the_view s ≡ now → the_invariant s → IsSome (live_at now sub) → IsHeld s.slots.items s.made sub
held s now sub is kept live =
    slot_of_live s.slots.items s.free.items s.made sub kept.0 (subst (λ v. IsSome (live_at v sub)) (sym is) live)

pub index_mut-requires : goal.index_mut-requires
index_mut-requires c =
    let h = held c.self.inside c.args.self.now c.args.sub c.self.view_is c.self.invariant c.requires.live in
    omega (arith, h.inside, c.self.inside.slots.ok)

-- what the slot holds
here : (c : goal.After-index_mut) → (h : IsHeld c.self.inside.slots.items c.self.inside.made c.args.sub) → c.index_mut.result.now ≡ Some h.place
here c h =
    c.index_mut.ensures.value
    ∙ (get_or_default c.self.inside.slots.items c.args.sub.slot c.index_mut.result.now None h.inside
    ∙ h.here)

pub count_up_held-requires-clause-held : goal.count_up_held-requires-clause-held
count_up_held-requires-clause-held c =
    let h = held c.self.inside c.args.self.now c.args.sub c.self.view_is c.self.invariant c.requires.live in
    ap (option_map (λ (p : Place). p.number)) (here c h) ∙ ap Some h.its

one : (o : Option Place) (p q : Place) → o ≡ Some p → o ≡ Some q → p.waiting ≡ q.waiting
one o p q is its = cc

pub count_up_held-requires-clause-few : goal.count_up_held-requires-clause-few
count_up_held-requires-clause-few c = λ p is.
    let h = held c.self.inside c.args.self.now c.args.sub c.self.view_is c.self.invariant c.requires.live in
    let few = c.requires.few (held_in c.args.sub.slot h.place) (sym (ap (λ v. live_at v c.args.sub) c.self.view_is) ∙ h.live) in
    let waits = one c.index_mut.result.now p h.place is (here c h) in
    omega (arith, few, waits)

-- what is left
recount : (c : goal.After-self-1) → IsRecounted (set c.self.inside.slots.items c.args.sub.slot c.count_up_held.new.slot) c.self.inside.slots.items c.self.inside.free.items c.self.inside.made c.args.sub (λ waiting. waiting + 1)
recount c =
    let s = c.self.inside in
    let sub = c.args.sub in
    let h = held c.self.inside c.args.self.now c.args.sub c.self.view_is c.self.invariant c.requires.live in
    recounts (set s.slots.items sub.slot c.count_up_held.new.slot) s.slots.items s.free.items s.made sub (λ waiting. waiting + 1) c.self.invariant.0
    (ap (set s.slots.items sub.slot) (c.count_up_held.ensures ∙ ap (recounted sub.number (λ waiting. waiting + 1)) (c.index_mut.ensures.value ∙ get_or_default s.slots.items sub.slot c.index_mut.result.now None h.inside)))

pub invariant_of-self : goal.invariant_of-self
invariant_of-self c =
    let s = c.self.inside in
    still_kept (set s.slots.items c.args.sub.slot c.count_up_held.new.slot) s.slots.items s.free.items s.made c.args.sub (λ waiting. waiting + 1) s.room (vec_capacity s.free) (vec_capacity s.slots) (vec_capacity s.slots) (recount c) refl c.self.invariant

pub returns : goal.returns
returns c =
    (recount c).live c.self.inside.room ∙ ap (λ v. with_change v c.args.sub one_more) c.self.view_is
