-- The pipe lies in the place that it goes by.
use Rattle.std.proofs.Common.{Option, refl, ap, sym, ◌∙◌, subst, arith}
use Rattle.std.specs.Option.{IsSome, option_map, option_and_then}
use Rattle.std.proofs.lemmas.List.{get_or_default, length-set}
use Rattle.bus_words.specs.Pipes.{PipeOf, pipe_at, with_pipe, verdict_over, dropped_at, offered_over}
use Rattle.pipe_queue.specs.declared.item.Item.{Item}
use Rattle.pipe_table.specs.Table.{Pipes, place_of}
use Rattle.pipe_table.specs.Inside.{PlaceState}
use Rattle.pipe_table.proofs.NumberedPipes.{place_seen, stands_under, seen_at, nowhere}
use Rattle.pipe_table.proofs.Changes.{changed_table, changed_kept, same-offered_over}
use Rattle.pipe_table.proofs.table.PipeTable.offer.Goals as goal

pub index_mut-requires : goal.index_mut-requires
index_mut-requires c =
    let a = c.self.inside in
    let number = c.args.pipe.number in
    let p = c.args.pipe.place in
    let kept = c.self.invariant.0 in
    let under = place_seen a.live.items a.at.items number ∙ ap (λ (t : Pipes). place_of t.places number) c.self.view_is ∙ c.requires.live in
    let stands = stands_under 0 a.places.items a.live.items a.at.items number p kept.filed under in
    omega (arith, stands.there, a.places.ok.0)

pub offer-requires : goal.offer-requires
offer-requires c =
    let a = c.self.inside in
    let number = c.args.pipe.number in
    let p = c.args.pipe.place in
    let kept = c.self.invariant.0 in
    let under = place_seen a.live.items a.at.items number ∙ ap (λ (t : Pipes). place_of t.places number) c.self.view_is ∙ c.requires.live in
    let stands = stands_under 0 a.places.items a.live.items a.at.items number p kept.filed under in
    let read = c.index_mut.ensures.value ∙ get_or_default a.places.items p _ nowhere stands.there in
    subst (λ (o : Option (PipeOf Item)). IsSome o) (sym (ap (λ (s : PlaceState). s.pipe) read ∙ stands.has)) refl

pub invariant_of-self : goal.invariant_of-self
invariant_of-self c =
    let a = c.self.inside in
    let number = c.args.pipe.number in
    let p = c.args.pipe.place in
    let kept = c.self.invariant.0 in
    let under = place_seen a.live.items a.at.items number ∙ ap (λ (t : Pipes). place_of t.places number) c.self.view_is ∙ c.requires.live in
    let read = c.index_mut.ensures.value ∙ get_or_default a.places.items p _ nowhere (stands_under 0 a.places.items a.live.items a.at.items number p kept.filed under).there in
    let all = length-set a.places.items p c.offer.new.self in (
      changed_kept a.depth a.places.items a.live.items a.at.items a.free.items a.created number p _ c.offer.new.self (offered_over c.args.is_over c.args.sender c.args.item) kept under read c.offer.ensures.after (same-offered_over c.args.is_over c.args.sender c.args.item),
      omega (arith, c.self.invariant.1, all),
      omega (arith, c.self.invariant.2, all),
      omega (arith, c.self.invariant.3, all),
    )

pub returns-clause-told : goal.returns-clause-told
returns-clause-told c =
    let a = c.self.inside in
    let number = c.args.pipe.number in
    let p = c.args.pipe.place in
    let kept = c.self.invariant.0 in
    let under = place_seen a.live.items a.at.items number ∙ ap (λ (t : Pipes). place_of t.places number) c.self.view_is ∙ c.requires.live in
    let read = c.index_mut.ensures.value ∙ get_or_default a.places.items p _ nowhere (stands_under 0 a.places.items a.live.items a.at.items number p kept.filed under).there in
    let seen = seen_at a.places.items a.live.items a.at.items number p _ kept.filed under read ∙ ap (λ (t : Pipes). pipe_at t.live number) c.self.view_is in
    ap (option_map (λ pipe. verdict_over c.args.is_over pipe c.args.sender)) (sym seen) ∙ c.offer.ensures.told

pub returns-clause-dropped : goal.returns-clause-dropped
returns-clause-dropped c =
    let a = c.self.inside in
    let number = c.args.pipe.number in
    let p = c.args.pipe.place in
    let kept = c.self.invariant.0 in
    let under = place_seen a.live.items a.at.items number ∙ ap (λ (t : Pipes). place_of t.places number) c.self.view_is ∙ c.requires.live in
    let read = c.index_mut.ensures.value ∙ get_or_default a.places.items p _ nowhere (stands_under 0 a.places.items a.live.items a.at.items number p kept.filed under).there in
    let seen = seen_at a.places.items a.live.items a.at.items number p _ kept.filed under read ∙ ap (λ (t : Pipes). pipe_at t.live number) c.self.view_is in
    c.offer.ensures.dropped ∙ ap (option_and_then (λ pipe. dropped_at c.offer.result.verdict pipe.queue)) seen

pub returns-clause-after : goal.returns-clause-after
returns-clause-after c =
    let a = c.self.inside in
    let number = c.args.pipe.number in
    let p = c.args.pipe.place in
    let kept = c.self.invariant.0 in
    let under = place_seen a.live.items a.at.items number ∙ ap (λ (t : Pipes). place_of t.places number) c.self.view_is ∙ c.requires.live in
    let read = c.index_mut.ensures.value ∙ get_or_default a.places.items p _ nowhere (stands_under 0 a.places.items a.live.items a.at.items number p kept.filed under).there in
    changed_table a.depth a.places.items a.live.items a.at.items a.free.items a.created number p _ c.offer.new.self (offered_over c.args.is_over c.args.sender c.args.item) kept under read c.offer.ensures.after (same-offered_over c.args.is_over c.args.sender c.args.item)
    ∙ ap (λ (t : Pipes). record t { live = with_pipe (offered_over c.args.is_over c.args.sender c.args.item) number t.live }) c.self.view_is
