-- The slot that was taken holds the new subscription.
use Rattle.std.proofs.Common.{◌≡◌, ◌+◌, ◌++◌, ◌∷◌, [], length, set, ◌<◌, ◌≤◌, nat_eq, Some, refl, sym, ap, subst, ◌∙◌, arith, add-one}
use Rattle.std.specs.List.{list_any}
use Rattle.std.proofs.lemmas.List.{length-set}
use Rattle.subscriptions.specs.declared.place.Place.{Place}
use Rattle.subscriptions.specs.Subs.{Subscribed, LiveSubscription}
use Rattle.subscriptions.specs.Inside.{live_upto, with_slot, AreKept}
use Rattle.subscriptions.proofs.Grown.{kept_grown, live_grown_slots, length_grown}
use Rattle.subscriptions.proofs.Slots.{not_in_use}
use Rattle.subscriptions.proofs.Upkeep.{kept_added, live_grown}
use Rattle.subscriptions.proofs.subs.Subs.add.Goals as goal

-- what is kept of the slots once one was taken
kept : (c : goal.After-self-2-1) → AreKept c.take_slot-slot.new.slots.items (c.take_slot-slot.new.free.items ++ c.take_slot-slot.result ∷ []) c.self.inside.made
kept c =
    let s = c.self.inside in
    subst (λ xs. AreKept xs (c.take_slot-slot.new.free.items ++ c.take_slot-slot.result ∷ []) s.made) (sym c.take_slot-slot.ensures.slots)
    (subst (λ fs. AreKept (with_slot s.slots.items s.free.items) fs s.made) (sym c.take_slot-slot.ensures.taken) (kept_grown s.slots.items s.free.items s.made c.self.invariant.0))

-- the same subscriptions are live then
still_live : (c : goal.After-self-2-1) → live_upto c.take_slot-slot.new.slots.items c.self.inside.made ≡ live_upto c.self.inside.slots.items c.self.inside.made
still_live c =
    let s = c.self.inside in
    ap (λ xs. live_upto xs s.made) c.take_slot-slot.ensures.slots ∙ live_grown_slots s.slots.items s.free.items s.made

pub invariant_of-self : goal.invariant_of-self
invariant_of-self c =
    let s = c.self.inside in
    let slot = c.take_slot-slot.result in
    let p : Place = record { number = s.made + 1; id = c.args.id; pipe = c.args.pipe; place = c.args.place; limit = c.args.limit; scope = c.args.scope; waiting = 0 } in
    let slots = c.take_slot-slot.new.slots.items in
    let free = c.take_slot-slot.new.free.items in
    let few : length (live_upto s.slots.items s.made) < s.room = subst (λ v. length v.live < v.room) (sym c.self.view_is) c.requires.room in
    let all : length (with_slot s.slots.items s.free.items) ≤ s.room = length_grown s.slots.items s.free.items s.made s.room c.self.invariant.0 c.self.invariant.1 few in
    let l : length (set slots slot (Some p)) ≡ length slots = length-set slots slot (Some p) in (
      kept_added slots free s.made (s.made + 1) slot p (kept c) (add-one s.made) refl,
      omega (arith, l, all, ap length c.take_slot-slot.ensures.slots),
      omega (arith, c.self.invariant.2, c.take_slot-slot.ensures.capacities.1),
      omega (arith, c.self.invariant.3, c.take_slot-slot.ensures.capacities.0),
      c.self.invariant.4,
    )

pub returns-clause-free : goal.returns-clause-free
returns-clause-free c =
    let s = c.self.inside in
    let slot = c.take_slot-slot.result in
    sym (ap (λ v. list_any (λ s. nat_eq s.slot slot) v.live) c.self.view_is)
    ∙ (ap (list_any (λ s. nat_eq s.slot slot)) (sym (still_live c))
    ∙ not_in_use c.take_slot-slot.new.slots.items c.take_slot-slot.new.free.items s.made slot (kept c).unused)

pub returns-clause-after : goal.returns-clause-after
returns-clause-after c =
    let s = c.self.inside in
    let slot = c.take_slot-slot.result in
    let p : Place = record { number = s.made + 1; id = c.args.id; pipe = c.args.pipe; place = c.args.place; limit = c.args.limit; scope = c.args.scope; waiting = 0 } in
    let grown = live_grown c.take_slot-slot.new.slots.items c.take_slot-slot.new.free.items s.made (s.made + 1) slot p (kept c) (add-one s.made) refl in
    let new : LiveSubscription = record { slot = slot; number = s.made + 1; id = c.args.id; pipe = c.args.pipe; place = c.args.place; limit = c.args.limit; scope = c.args.scope; waiting = 0 } in
    ap (λ xs. let v : Subscribed = record { room = s.room; made = s.made + 1; live = xs } in v) (grown ∙ ap (λ xs. xs ++ new ∷ []) (still_live c))
    ∙ ap (λ v. let w : Subscribed = record { room = v.room; made = s.made + 1; live = v.live ++ new ∷ [] } in w) c.self.view_is
