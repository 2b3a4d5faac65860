-- As `take`, if the pipe in the number's place has the owner.
use Rattle.std.proofs.Common.{◌≡◌, ℕ, Bool, false, eqb, Option, Some, refl, ap, sym, subst, ◌∙◌, is_some, get_or, arith}
use Rattle.std.specs.Option.{IsSome, option_map_or, option_and_then}
use Rattle.std.proofs.lemmas.List.{get_or_default, length-set}
use Rattle.bus_words.specs.Pipes.{PipeOf, oldest, with_pipe, after_receive, last_on, oldest_on, owns}
use Rattle.pipe_queue.specs.declared.item.Item.{Item}
use Rattle.pipe_table.specs.Table.{Pipes}
use Rattle.pipe_table.specs.Inside.{PlaceState, place_under}
use Rattle.pipe_table.specs.contracts.table.PipeTable.{the_view, the_invariant}
use Rattle.pipe_table.specs.declared.table.PipeTable.TheInside.{Inside}
use Rattle.pipe_table.proofs.NumberedPipes.{ordered, StandsAt, stands_under, nowhere, seen_at, read_none, passes_here}
use Rattle.pipe_table.proofs.Changes.{changed_table, changed_kept}
use Rattle.pipe_table.proofs.table.PipeTable.take_if_owned.Goals as goal

-- whether the pipe in the number's place is the application's
owner_here : (a : Inside) (app number p : ℕ) (was : PlaceState) → the_invariant a → place_under a.live.items a.at.items number ≡ Some p → was ≡ get_or a.places.items p nowhere
    → option_map_or (λ pipe. eqb pipe.owner app) was.pipe false ≡ owns (the_view a).live app number
owner_here a app number p was kept under read =
    let own : PipeOf Item → Bool = λ pipe. eqb pipe.owner app in
    ap (λ o. option_map_or {U = Bool} own o false) (seen_at a.places.items a.live.items a.at.items number p was kept.0.filed under read)
    ∙ sym (passes_here own a.places.items a.live.items a.at.items number kept.0.filed)

-- the place that is found has a pipe
stands : (a : Inside) (number p : ℕ) → the_invariant a → place_under a.live.items a.at.items number ≡ Some p → StandsAt a.places.items p number
stands a number p kept under = stands_under 0 a.places.items a.live.items a.at.items number p kept.0.filed under

pub at_number-requires : goal.at_number-requires
at_number-requires c = ordered c.self.inside.places.items c.self.inside.live.items c.self.inside.at.items c.self.invariant.0.filed

pub returns-in_err-at-clause-owned : goal.returns-in_err-at-clause-owned
returns-in_err-at-clause-owned c =
    let a = c.self.inside in
    let own : PipeOf Item → Bool = λ pipe. eqb pipe.owner c.args.app in
    ap is_some c.from_residual.ensures
    ∙ ap (λ o. option_map_or {U = Bool} own o false) (sym (read_none a.places.items a.live.items a.at.items c.args.number c.self.invariant.0.filed (sym c.at_number.ensures ∙ c.in_err-at.was)))
    ∙ sym (passes_here own a.places.items a.live.items a.at.items c.args.number c.self.invariant.0.filed)
    ∙ ap (λ (t : Pipes). owns t.live c.args.app c.args.number) c.self.view_is

pub index-requires : goal.index-requires
index-requires c =
    let st = stands c.self.inside c.args.number c.in_ok-at.at c.self.invariant (sym c.at_number.ensures ∙ c.in_ok-at.was) in
    omega (arith, st.there, c.self.inside.places.ok.0)

pub has_owner-requires : goal.has_owner-requires
has_owner-requires c =
    let a = c.self.inside in
    let st = stands a c.args.number c.in_ok-at.at c.self.invariant (sym c.at_number.ensures ∙ c.in_ok-at.was) in
    let read = c.index.ensures ∙ get_or_default a.places.items c.in_ok-at.at _ nowhere st.there in
    subst (λ (o : Option (PipeOf Item)). IsSome o) (sym (ap (λ (s : PlaceState). s.pipe) read ∙ st.has)) refl

pub returns-then-not-has_owner-clause-owned : goal.returns-then-not-has_owner-clause-owned
returns-then-not-has_owner-clause-owned c =
    let a = c.self.inside in
    let under = sym c.at_number.ensures ∙ c.in_ok-at.was in
    let st = stands a c.args.number c.in_ok-at.at c.self.invariant under in
    let read = c.index.ensures ∙ get_or_default a.places.items c.in_ok-at.at _ nowhere st.there in
    sym c.if-not-has_owner.true
    ∙ c.has_owner.ensures
    ∙ owner_here a c.args.app c.args.number c.in_ok-at.at _ c.self.invariant under read
    ∙ ap (λ (t : Pipes). owns t.live c.args.app c.args.number) c.self.view_is

pub index_mut-requires : goal.index_mut-requires
index_mut-requires c =
    let st = stands c.self.inside c.args.number c.in_ok-at.at c.self.invariant (sym c.at_number.ensures ∙ c.in_ok-at.was) in
    omega (arith, st.there, c.self.inside.places.ok.0)

pub returns-clause-owned : goal.returns-clause-owned
returns-clause-owned c =
    let a = c.self.inside in
    let under = sym c.at_number.ensures ∙ c.in_ok-at.was in
    let st = stands a c.args.number c.in_ok-at.at c.self.invariant under in
    let read = c.index.ensures ∙ get_or_default a.places.items c.in_ok-at.at _ nowhere st.there in
    sym c.if-not-has_owner.false
    ∙ c.has_owner.ensures
    ∙ owner_here a c.args.app c.args.number c.in_ok-at.at _ c.self.invariant under read
    ∙ ap (λ (t : Pipes). owns t.live c.args.app c.args.number) c.self.view_is

pub invariant_of-self : goal.invariant_of-self
invariant_of-self c =
    let a = c.self.inside in
    let p = c.in_ok-at.at in
    let kept = c.self.invariant.0 in
    let under = sym c.at_number.ensures ∙ c.in_ok-at.was in
    let st = stands a c.args.number p c.self.invariant under in
    let read = c.index_mut.ensures.value ∙ get_or_default a.places.items p _ nowhere st.there in
    let all = length-set a.places.items p c.take.new.self in (
      changed_kept a.depth a.places.items a.live.items a.at.items a.free.items a.created c.args.number p _ c.take.new.self after_receive kept under read c.take.ensures.after (λ pipe. refl),
      omega (arith, c.self.invariant.1, all),
      omega (arith, c.self.invariant.2, all),
      omega (arith, c.self.invariant.3, all),
    )

pub returns-clause-after : goal.returns-clause-after
returns-clause-after c =
    let a = c.self.inside in
    let p = c.in_ok-at.at in
    let kept = c.self.invariant.0 in
    let under = sym c.at_number.ensures ∙ c.in_ok-at.was in
    let st = stands a c.args.number p c.self.invariant under in
    let read = c.index_mut.ensures.value ∙ get_or_default a.places.items p _ nowhere st.there in
    changed_table a.depth a.places.items a.live.items a.at.items a.free.items a.created c.args.number p _ c.take.new.self after_receive kept under read c.take.ensures.after (λ pipe. refl)
    ∙ ap (λ (t : Pipes). record t { live = with_pipe after_receive c.args.number t.live }) c.self.view_is

pub returns-clause-last : goal.returns-clause-last
returns-clause-last c =
    let a = c.self.inside in
    let p = c.in_ok-at.at in
    let under = sym c.at_number.ensures ∙ c.in_ok-at.was in
    let st = stands a c.args.number p c.self.invariant under in
    let read = c.index_mut.ensures.value ∙ get_or_default a.places.items p _ nowhere st.there in
    c.take.ensures.last
    ∙ ap (option_and_then (λ pipe. pipe.last)) (seen_at a.places.items a.live.items a.at.items c.args.number p _ c.self.invariant.0.filed under read)
    ∙ ap (λ (t : Pipes). last_on t.live c.args.number) c.self.view_is

pub returns-clause-oldest : goal.returns-clause-oldest
returns-clause-oldest c =
    let a = c.self.inside in
    let p = c.in_ok-at.at in
    let under = sym c.at_number.ensures ∙ c.in_ok-at.was in
    let st = stands a c.args.number p c.self.invariant under in
    let read = c.index_mut.ensures.value ∙ get_or_default a.places.items p _ nowhere st.there in
    c.take.ensures.oldest
    ∙ ap (option_and_then (λ pipe. oldest pipe.queue)) (seen_at a.places.items a.live.items a.at.items c.args.number p _ c.self.invariant.0.filed under read)
    ∙ ap (λ (t : Pipes). oldest_on t.live c.args.number) c.self.view_is
