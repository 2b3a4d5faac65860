use Rattle.std.proofs.Common.{◌≡◌, map, subst}
use Rattle.bus_words.specs.Pipes.{IsRising}
use Rattle.pipe_table.specs.Table.{Pipes}
use Rattle.pipe_table.proofs.NumberedPipes.{in_pairs}
use Rattle.pipe_table.proofs.Order.{in_order}
use Rattle.pipe_table.proofs.table.PipeTable.recall_order.Goals as goal

pub returns-clause-order : goal.returns-clause-order
returns-clause-order c =
    let t = c.self.inside in
    let P : Pipes → Type 0 = λ p. IsRising 0 p.live in
    subst P c.self.view_is (in_order 0 t.places.items t.live.items t.at.items c.self.invariant.0.filed)

pub returns-clause-places : goal.returns-clause-places
returns-clause-places c =
    let t = c.self.inside in
    let P : Pipes → Type 0 = λ p. map (λ pair. pair.0) p.places ≡ map (λ pipe. pipe.number) p.live in
    subst P c.self.view_is (in_pairs 0 t.places.items t.live.items t.at.items c.self.invariant.0.filed)
