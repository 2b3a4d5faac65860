use Rattle.std.proofs.Common.{refl, ap, sym, ◌∙◌, arith}
use Rattle.std.specs.Option.{option_and_then}
use Rattle.std.proofs.lemmas.List.{get_or_default, length-set}
use Rattle.bus_words.specs.Pipes.{with_pipe, without_last, last_on}
use Rattle.pipe_table.specs.Table.{Pipes}
use Rattle.pipe_table.proofs.NumberedPipes.{ordered, stands_under, nowhere, seen_at, read_none}
use Rattle.pipe_table.proofs.Changes.{changed_table, changed_kept, unchanged}
use Rattle.pipe_table.proofs.table.PipeTable.take_last.Goals as goal

pub at_number-requires : goal.at_number-requires
at_number-requires c = ordered c.self.inside.places.items c.self.inside.live.items c.self.inside.at.items c.self.invariant.0.filed

pub index_mut-requires : goal.index_mut-requires
index_mut-requires c =
    let a = c.self.inside in
    let stands = stands_under 0 a.places.items a.live.items a.at.items c.args.number c.in-Some.at c.self.invariant.0.filed (sym c.at_number.ensures ∙ c.in-Some.is) in
    omega (arith, stands.there, a.places.ok.0)

pub invariant_of-self : goal.invariant_of-self
invariant_of-self c =
    let a = c.self.inside in
    let p = c.in-Some.at in
    let kept = c.self.invariant.0 in
    let under = sym c.at_number.ensures ∙ c.in-Some.is in
    let read = c.index_mut.ensures.value ∙ get_or_default a.places.items p _ nowhere (stands_under 0 a.places.items a.live.items a.at.items c.args.number p kept.filed under).there in
    let all = length-set a.places.items p c.take_last.new.self in (
      changed_kept a.depth a.places.items a.live.items a.at.items a.free.items a.created c.args.number p _ c.take_last.new.self without_last kept under read c.take_last.ensures.after (λ pipe. refl),
      omega (arith, c.self.invariant.1, all),
      omega (arith, c.self.invariant.2, all),
      omega (arith, c.self.invariant.3, all),
    )

pub returns-in-Some-clause-after : goal.returns-in-Some-clause-after
returns-in-Some-clause-after c =
    let a = c.self.inside in
    let p = c.in-Some.at in
    let kept = c.self.invariant.0 in
    let under = sym c.at_number.ensures ∙ c.in-Some.is in
    let read = c.index_mut.ensures.value ∙ get_or_default a.places.items p _ nowhere (stands_under 0 a.places.items a.live.items a.at.items c.args.number p kept.filed under).there in
    changed_table a.depth a.places.items a.live.items a.at.items a.free.items a.created c.args.number p _ c.take_last.new.self without_last kept under read c.take_last.ensures.after (λ pipe. refl)
    ∙ ap (λ (t : Pipes). record t { live = with_pipe without_last c.args.number t.live }) c.self.view_is

pub returns-in-None-clause-after : goal.returns-in-None-clause-after
returns-in-None-clause-after c =
    let a = c.self.inside in
    sym c.self.view_is
    ∙ unchanged without_last a.depth a.places.items a.live.items a.at.items a.created c.args.number c.self.invariant.0.filed (sym c.at_number.ensures ∙ c.in-None.is)
    ∙ ap (λ (t : Pipes). record t { live = with_pipe without_last c.args.number t.live }) c.self.view_is

pub returns-in-Some-clause-last : goal.returns-in-Some-clause-last
returns-in-Some-clause-last c =
    let a = c.self.inside in
    let p = c.in-Some.at in
    let kept = c.self.invariant.0 in
    let under = sym c.at_number.ensures ∙ c.in-Some.is in
    let read = c.index_mut.ensures.value ∙ get_or_default a.places.items p _ nowhere (stands_under 0 a.places.items a.live.items a.at.items c.args.number p kept.filed under).there in
    c.take_last.ensures.last
    ∙ ap (option_and_then (λ pipe. pipe.last)) (seen_at a.places.items a.live.items a.at.items c.args.number p _ kept.filed under read)
    ∙ ap (λ (t : Pipes). last_on t.live c.args.number) c.self.view_is

pub returns-in-None-clause-last : goal.returns-in-None-clause-last
returns-in-None-clause-last c =
    let a = c.self.inside in
    sym (ap (option_and_then (λ pipe. pipe.last)) (read_none a.places.items a.live.items a.at.items c.args.number c.self.invariant.0.filed (sym c.at_number.ensures ∙ c.in-None.is)))
    ∙ ap (λ (t : Pipes). last_on t.live c.args.number) c.self.view_is
