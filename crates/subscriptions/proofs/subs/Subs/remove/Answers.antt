-- The slot is free then, and the live subscriptions are those of other numbers.
use Rattle.std.proofs.Common.{◌≡◌, length, set, None, IsSome, ap, sym, subst, ◌∙◌, arith}
use Rattle.std.proofs.lemmas.List.{length-set}
use Rattle.subscriptions.specs.Subs.{Subscribed, live_at, without}
use Rattle.subscriptions.specs.Inside.{AreKept}
use Rattle.subscriptions.proofs.Ends.{ended}
use Rattle.subscriptions.proofs.subs.Subs.remove.Goals as goal

pub index_mut-requires : goal.index_mut-requires
index_mut-requires c =
    let s = c.self.inside in
    let end = ended s.slots.items s.free.items s.made c.args.sub c.self.invariant.0 (subst (λ v. IsSome (live_at v c.args.sub)) (sym c.self.view_is) c.requires) in
    omega (arith, end.inside, s.slots.ok)

pub invariant_of-self : goal.invariant_of-self
invariant_of-self c =
    let s = c.self.inside in
    let slot = c.args.sub.slot in
    let end = ended s.slots.items s.free.items s.made c.args.sub c.self.invariant.0 (subst (λ v. IsSome (live_at v c.args.sub)) (sym c.self.view_is) c.requires) in
    let l : length (set s.slots.items slot None) ≡ length s.slots.items = length-set s.slots.items slot None in (
      subst (λ fs. AreKept (set s.slots.items slot None) fs s.made) (sym c.push_reserved.ensures.items) end.kept,
      omega (arith, l, c.self.invariant.1),
      omega (arith, c.self.invariant.2, c.push_reserved.ensures.capacity),
      omega (arith, c.self.invariant.3),
      c.self.invariant.4,
    )

pub returns : goal.returns
returns c =
    let s = c.self.inside in
    let slot = c.args.sub.slot in
    let end = ended s.slots.items s.free.items s.made c.args.sub c.self.invariant.0 (subst (λ v. IsSome (live_at v c.args.sub)) (sym c.self.view_is) c.requires) in
    ap (λ xs. let v : Subscribed = record { room = s.room; made = s.made; live = xs } in v) end.live
    ∙ ap (λ v. without v c.args.sub) c.self.view_is
