-- The slot of a live subscription holds it.
use Rattle.std.proofs.Common.{◌≡◌, ◌<◌, ℕ, List, length, get_or, Option, None, Some, option_map, IsSome, refl, subst, sym, ap, ◌∙◌, arith}
use Rattle.std.proofs.lemmas.List.{get_or_default}
use Rattle.subscriptions.specs.contracts.subs.Subs.{the_view, the_invariant}
use Rattle.subscriptions.specs.declared.place.Place.{Place}
use Rattle.subscriptions.specs.declared.subs.Subs.TheInside.{Inside}
use Rattle.subscriptions.specs.declared.words.SubNo.{SubNo}
use Rattle.subscriptions.specs.Subs.{Subscribed, live_at, row_of}
use Rattle.subscriptions.specs.Inside.{row_in}
use Rattle.subscriptions.proofs.Slots.{IsHeld, slot_of_live}
use Rattle.subscriptions.proofs.subs.Subs.at.Goals as goal

-- if it is
held : (s : Inside) (now : Subscribed) (sub : SubNo) → the_view s ≡ now → the_invariant s → IsSome (live_at now sub) → IsHeld s.slots.items s.made sub
held s now sub is kept live =
    slot_of_live s.slots.items s.free.items s.made sub kept.0 (subst (λ v. IsSome (live_at v sub)) (sym is) live)

pub index-requires : goal.index-requires
index-requires c =
    let h = held c.self.inside c.args.self.now c.args.sub c.self.view_is c.self.invariant c.requires in
    omega (arith, h.inside, c.self.inside.slots.ok)

-- what the slot holds
here : (slots : List (Option Place)) (slot : ℕ) (p : Place) (o : Option Place) → o ≡ get_or slots slot o → slot < length slots → get_or slots slot None ≡ Some p → o ≡ Some p
here slots slot p o read inside is = read ∙ (get_or_default slots slot o None inside ∙ is)

pub surely_some-requires : goal.surely_some-requires
surely_some-requires c =
    let h = held c.self.inside c.args.self.now c.args.sub c.self.view_is c.self.invariant c.requires in
    subst (λ (o : Option Place). IsSome o) (sym (here c.self.inside.slots.items c.args.sub.slot h.place c.index.result.now c.index.ensures h.inside h.here)) refl

pub returns : goal.returns
returns c =
    let h = held c.self.inside c.args.self.now c.args.sub c.self.view_is c.self.invariant c.requires in
    ap (option_map row_of) (sym (ap (λ v. live_at v c.args.sub) c.self.view_is) ∙ h.live)
    ∙ ap (option_map row_in) (sym (here c.self.inside.slots.items c.args.sub.slot h.place c.index.result.now c.index.ensures h.inside h.here) ∙ c.surely_some.ensures)
    ∙ ap Some (sym c.row.ensures)
