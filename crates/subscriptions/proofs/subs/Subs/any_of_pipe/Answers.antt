-- What a slot holds is live, and what is live stands in a slot.
use Rattle.std.proofs.Common.{◌<◌, length, nat_eq, Some, None, option_map, refl, sym, ap, ◌∙◌, arith, eq-eqb}
use Rattle.std.specs.List.{list_any}
use Rattle.std.proofs.lemmas.List.{get_or_read}
use Rattle.subscriptions.specs.Subs.{live_at, goes_by}
use Rattle.subscriptions.specs.Inside.{live_upto, held_in}
use Rattle.subscriptions.proofs.Slots.{live_in, none_of_pipe}
use Rattle.subscriptions.proofs.Lists.{any_from_find}
use Rattle.subscriptions.proofs.LiveSubscriptions.{in_range}
use Rattle.subscriptions.proofs.subs.Subs.any_of_pipe.Goals as goal

pub returns-then-place-pipe-clause-some : goal.returns-then-place-pipe-clause-some
returns-then-place-pipe-clause-some c =
    let s = c.self.inside in
    let slot = c.loop-slot.slot in
    let inside : slot < length s.slots.items = omega (arith, c.loop-slot-test.true) in
    let here = sym (get_or_read s.slots.items slot c.index.result.now inside c.index.ensures None) ∙ c.in-Some.is in
    let found = live_in s.slots.items s.free.items s.made slot c.in-Some.place c.self.invariant.0 here in
    let any = any_from_find (goes_by (record { slot = slot; number = c.in-Some.place.number })) (λ s. nat_eq s.pipe c.args.pipe) (live_upto s.slots.items s.made) (held_in slot c.in-Some.place) found (eq-eqb c.in-Some.place.pipe c.args.pipe c.if-place-pipe.true) in
    ((λ _. sym (ap (λ v. list_any (λ s. nat_eq s.pipe c.args.pipe) v.live) c.self.view_is) ∙ any), (λ _. refl))

pub returns-then-place-pipe-clause-own : goal.returns-then-place-pipe-clause-own
returns-then-place-pipe-clause-own c =
    let s = c.self.inside in
    let slot = c.loop-slot.slot in
    let inside : slot < length s.slots.items = omega (arith, c.loop-slot-test.true) in
    let here = sym (get_or_read s.slots.items slot c.index.result.now inside c.index.ensures None) ∙ c.in-Some.is in
    let found = live_in s.slots.items s.free.items s.made slot c.in-Some.place c.self.invariant.0 here in
    ap (option_map (λ s. s.pipe)) (sym (ap (λ v. live_at v (record { slot = slot; number = c.in-Some.place.number })) c.self.view_is) ∙ found) ∙ ap Some c.if-place-pipe.true

pub returns-clause-some : goal.returns-clause-some
returns-clause-some c =
    let s = c.self.inside in
    let none = none_of_pipe s.slots.items s.made c.args.pipe (λ k p here. c.loop-slot.invariant k p (let below = in_range s.slots.items k p here in omega (arith, below, c.loop-slot-test.false)) here) in
    ((λ e. absurd cc), (λ e. sym (sym (ap (λ v. list_any (λ s. nat_eq s.pipe c.args.pipe) v.live) c.self.view_is) ∙ none) ∙ e))
