use Rattle.std.proofs.Common.{◌+◌, sym, subst}
use Rattle.pipe_table.specs.Table.{Pipes}
use Rattle.bus_routes.specs.Inside.{AreTied}
use Rattle.bus_routes.proofs.PipeChanges.{queued_more}
use Rattle.bus_routes.proofs.PipePlaces.{placed_more}
use Rattle.bus_routes.proofs.tables.BusTables.create_pipe.Goals as goal

pub invariant_of-self : goal.invariant_of-self
invariant_of-self c =
    let s = c.self.inside in
    let P : Pipes → Type 0 = λ p. AreTied p s.subs s.routes in
    subst P (sym c.create.ensures.after) (record {
      queued = queued_more s.pipes.live s.subs (s.pipes.created + 1) c.args.name.now c.args.owner c.args.depth c.self.invariant.queued;
      placed = placed_more s.pipes.places (s.pipes.created + 1, c.create.result.place) s.subs c.self.invariant.placed;
      routed = c.self.invariant.routed;
      room = c.self.invariant.room;
    })
