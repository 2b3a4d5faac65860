use Rattle.std.proofs.Common.{refl, ap, sym, ◌∙◌, arith}
use Rattle.std.proofs.lemmas.List.{get_or_default, length-set}
use Rattle.bus_words.specs.Pipes.{with_pipe, with_bits}
use Rattle.pipe_table.specs.Table.{Pipes}
use Rattle.pipe_table.proofs.NumberedPipes.{ordered, stands_under, nowhere}
use Rattle.pipe_table.proofs.Changes.{changed_table, changed_kept, unchanged}
use Rattle.pipe_table.proofs.table.PipeTable.set_bits.Goals as goal

pub at_number-requires : goal.at_number-requires
at_number-requires c = ordered c.self.inside.places.items c.self.inside.live.items c.self.inside.at.items c.self.invariant.0.filed

pub index_mut-requires : goal.index_mut-requires
index_mut-requires c =
    let a = c.self.inside in
    let stands = stands_under 0 a.places.items a.live.items a.at.items c.args.number c.in-Some.at c.self.invariant.0.filed (sym c.at_number.ensures ∙ c.in-Some.is) in
    omega (arith, stands.there, a.places.ok.0)

pub invariant_of-self : goal.invariant_of-self
invariant_of-self c =
    let a = c.self.inside in
    let p = c.in-Some.at in
    let kept = c.self.invariant.0 in
    let under = sym c.at_number.ensures ∙ c.in-Some.is in
    let read = c.index_mut.ensures.value ∙ get_or_default a.places.items p _ nowhere (stands_under 0 a.places.items a.live.items a.at.items c.args.number p kept.filed under).there in
    let all = length-set a.places.items p c.set_bits.new.self in (
      changed_kept a.depth a.places.items a.live.items a.at.items a.free.items a.created c.args.number p _ c.set_bits.new.self (with_bits c.args.bits) kept under read c.set_bits.ensures (λ pipe. refl),
      omega (arith, c.self.invariant.1, all),
      omega (arith, c.self.invariant.2, all),
      omega (arith, c.self.invariant.3, all),
    )

pub returns-in-Some : goal.returns-in-Some
returns-in-Some c =
    let a = c.self.inside in
    let p = c.in-Some.at in
    let kept = c.self.invariant.0 in
    let under = sym c.at_number.ensures ∙ c.in-Some.is in
    let read = c.index_mut.ensures.value ∙ get_or_default a.places.items p _ nowhere (stands_under 0 a.places.items a.live.items a.at.items c.args.number p kept.filed under).there in
    changed_table a.depth a.places.items a.live.items a.at.items a.free.items a.created c.args.number p _ c.set_bits.new.self (with_bits c.args.bits) kept under read c.set_bits.ensures (λ pipe. refl)
    ∙ ap (λ (t : Pipes). record t { live = with_pipe (with_bits c.args.bits) c.args.number t.live }) c.self.view_is

pub returns-in_default : goal.returns-in_default
returns-in_default c =
    let a = c.self.inside in
    sym c.self.view_is
    ∙ unchanged (with_bits c.args.bits) a.depth a.places.items a.live.items a.at.items a.created c.args.number c.self.invariant.0.filed (sym c.at_number.ensures ∙ c.in_default.is)
    ∙ ap (λ (t : Pipes). record t { live = with_pipe (with_bits c.args.bits) c.args.number t.live }) c.self.view_is
