-- The pipe leaves with its subscriptions.
use Rattle.std.proofs.Common.{◌*◌, not, eqb, map, filter, ap, sym, subst, ◌∙◌}
use Rattle.fsw_base.proofs.Lists.{filter-map}
use Rattle.bus_words.specs.Pipes.{without_pipe}
use Rattle.pipe_table.specs.Table.{Pipes, without_place}
use Rattle.routing.specs.Routing.{Routing}
use Rattle.subscriptions.specs.Subs.{Subscribed}
use Rattle.bus_routes.specs.Inside.{AreQueued, ArePlaced, row_in, sub_in}
use Rattle.bus_routes.proofs.Ties.{seen_left}
use Rattle.bus_routes.proofs.PipePlaces.{placed_removed}
use Rattle.bus_routes.proofs.Removals.{queued_removed}
use Rattle.bus_routes.proofs.tables.BusTables.delete_pipe.Goals as goal

pub invariant_of-self : goal.invariant_of-self
invariant_of-self g c = record {
  queued =
      subst (λ (p : Pipes). AreQueued p.live c.end_of_pipe.new.subs) (sym c.remove.ensures)
      (subst (AreQueued (without_pipe c.args.number c.self.inside.pipes.live)) (sym c.end_of_pipe.ensures.after)
      (queued_removed c.self.inside.pipes.live c.self.inside.subs c.args.number c.self.invariant.queued));
  placed =
      subst (λ (p : Pipes). ArePlaced p.places c.end_of_pipe.new.subs) (sym c.remove.ensures)
      (subst (ArePlaced (without_place c.args.number c.self.inside.pipes.places)) (sym c.end_of_pipe.ensures.after)
      (placed_removed c.self.inside.pipes.places c.self.inside.subs c.args.number c.self.invariant.placed));
  routed = c.end_of_pipe.ensures.routed;
  room =
      ap (λ (s : Subscribed). s.room) c.end_of_pipe.ensures.after ∙ c.self.invariant.room
      ∙ sym (ap (λ (r : Routing). r.msgids * r.dests) c.end_of_pipe.ensures.same);
}

pub returns : goal.returns
returns g c =
    let in_tables = c.self.inside in
    let subs = in_tables.subs in
    let pipes = in_tables.pipes in
    let now = c.args.self.now in
    seen_left pipes c.remove.new.self subs c.end_of_pipe.new.subs in_tables.routes c.end_of_pipe.new.routes now
    (filter (λ row. not (eqb row.number c.args.number)) now.pipes) (filter (λ sub. not (eqb sub.pipe c.args.number)) now.subscriptions) c.self.view_is
    (c.remove.ensures ∙ ap (λ p. let v : Pipes = record pipes { live = p.live; places = p.places } in v) (sym c.remove.ensures))
    (ap (λ p. map row_in p.live) c.remove.ensures
    ∙ sym (filter-map (λ row. not (eqb row.number c.args.number)) row_in pipes.live)
    ∙ ap (λ t. filter (λ row. not (eqb row.number c.args.number)) t.pipes) c.self.view_is)
    (c.end_of_pipe.ensures.after ∙ ap (λ s. let v : Subscribed = record subs { live = s.live } in v) (sym c.end_of_pipe.ensures.after))
    (ap (λ s. map sub_in s.live) c.end_of_pipe.ensures.after
    ∙ sym (filter-map (λ sub. not (eqb sub.pipe c.args.number)) sub_in subs.live)
    ∙ ap (λ t. filter (λ sub. not (eqb sub.pipe c.args.number)) t.subscriptions) c.self.view_is)
    c.end_of_pipe.ensures.same c.end_of_pipe.ensures.ways
