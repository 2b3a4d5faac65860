use Rattle.std.proofs.Common.{Bool, false, eqb, ap, sym, ◌∙◌}
use Rattle.std.specs.Option.{option_map_or}
use Rattle.bus_words.specs.Pipes.{PipeOf, owns}
use Rattle.pipe_queue.specs.declared.item.Item.{Item}
use Rattle.pipe_table.specs.Table.{Pipes}
use Rattle.pipe_table.proofs.NumberedPipes.{passes_here}
use Rattle.pipe_table.proofs.table.PipeTable.owns.Goals as goal

pub returns-in-Some : goal.returns-in-Some
returns-in-Some c =
    let a = c.self.inside in
    let own : PipeOf Item → Bool = λ pipe. eqb pipe.owner c.args.app in
    c.is_owned_by.ensures
    ∙ ap (λ o. option_map_or {U = Bool} own o false) c.in-Some.ensures.some
    ∙ sym (passes_here own a.places.items a.live.items a.at.items c.args.number c.self.invariant.0.filed)
    ∙ ap (λ (t : Pipes). owns t.live c.args.app c.args.number) c.self.view_is

pub returns-in-None : goal.returns-in-None
returns-in-None c =
    let a = c.self.inside in
    let own : PipeOf Item → Bool = λ pipe. eqb pipe.owner c.args.app in
    ap (λ o. option_map_or {U = Bool} own o false) (sym (c.found.ensures.none c.in-None.is))
    ∙ sym (passes_here own a.places.items a.live.items a.at.items c.args.number c.self.invariant.0.filed)
    ∙ ap (λ (t : Pipes). owns t.live c.args.app c.args.number) c.self.view_is
