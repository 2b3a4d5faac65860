use Rattle.std.proofs.Common.{ap, ◌∙◌}
use Rattle.pipe_table.specs.Table.{Pipes, place_of}
use Rattle.pipe_table.proofs.NumberedPipes.{ordered, place_seen}
use Rattle.pipe_table.proofs.table.PipeTable.place_of.Goals as goal

pub at_number-requires : goal.at_number-requires
at_number-requires c = ordered c.self.inside.places.items c.self.inside.live.items c.self.inside.at.items c.self.invariant.0.filed

pub returns : goal.returns
returns c =
    let a = c.self.inside in
    c.at_number.ensures
    ∙ place_seen a.live.items a.at.items c.args.number
    ∙ ap (λ (t : Pipes). place_of t.places c.args.number) c.self.view_is
