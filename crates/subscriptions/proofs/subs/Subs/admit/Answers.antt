-- The admission is that of the subscription in the slot.
use Rattle.std.proofs.Common.{ap, sym, ◌∙◌}
use Rattle.std.specs.Option.{option_map_or}
use Rattle.subscriptions.specs.declared.words.Admission.TheVariants.{Inside}
use Rattle.subscriptions.specs.Subs.{live_at, row_of, admission_of}
use Rattle.subscriptions.specs.Inside.{held_at}
use Rattle.subscriptions.proofs.Slots.{live_found, live_ended}
use Rattle.subscriptions.proofs.subs.Subs.admit.Goals as goal

pub returns-in-Some : goal.returns-in-Some
returns-in-Some c =
    let s = c.self.inside in
    let sub = c.args.sub in
    let held = ap (λ xs. held_at xs sub.slot sub.number) (sym c.deref.ensures.value) ∙ (sym c.held.ensures ∙ c.in-Some.is) in
    let found = sym (ap (λ v. live_at v sub) c.self.view_is) ∙ live_found s.slots.items s.free.items s.made sub c.in-Some.place c.self.invariant.0 held in
    c.admission.ensures ∙ (ap admission_of c.row.ensures ∙ sym (ap (λ o. option_map_or (λ x. admission_of (row_of x)) o Inside) found))

pub returns-in-None : goal.returns-in-None
returns-in-None c =
    let s = c.self.inside in
    let sub = c.args.sub in
    let held = ap (λ xs. held_at xs sub.slot sub.number) (sym c.deref.ensures.value) ∙ (sym c.held.ensures ∙ c.in-None.is) in
    sym (ap (λ o. option_map_or (λ x. admission_of (row_of x)) o Inside) (sym (ap (λ v. live_at v sub) c.self.view_is) ∙ live_ended s.slots.items s.made sub held))
