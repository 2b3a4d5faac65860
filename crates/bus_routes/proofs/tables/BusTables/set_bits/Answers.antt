use Rattle.std.proofs.Common.{List, ap, sym, ◌∙◌, subst, refl}
use Rattle.pipe_table.specs.Table.{Pipes}
use Rattle.bus_words.specs.Pipes.{with_pipe, with_bits}
use Rattle.bus_routes.specs.Rows.{Row}
use Rattle.bus_routes.specs.Tables.{Tables}
use Rattle.bus_routes.specs.Inside.{tables_in, AreTied}
use Rattle.bus_routes.proofs.PipeChanges.{queued_changed, bits_keep, rows_changed}
use Rattle.bus_routes.proofs.tables.BusTables.set_bits.Goals as goal

pub invariant_of-self : goal.invariant_of-self
invariant_of-self c =
    let s = c.self.inside in
    let P : Pipes → Type 0 = λ p. AreTied p s.subs s.routes in
    subst P (sym c.set_bits.ensures) (record {
      queued = queued_changed (with_bits c.args.bits) c.args.number (bits_keep c.args.bits) s.pipes.live s.subs c.self.invariant.queued;
      placed = c.self.invariant.placed;
      routed = c.self.invariant.routed;
      room = c.self.invariant.room;
    })

pub returns : goal.returns
returns c =
    let s = c.self.inside in
    let F : Tables → Tables = λ t. record t { pipes = with_pipe (with_bits c.args.bits) c.args.number t.pipes } in
    ap (λ (p : Pipes). tables_in p s.subs s.routes) c.set_bits.ensures
    ∙ ap (λ (rows : List Row). record (tables_in s.pipes s.subs s.routes) { pipes = rows }) (rows_changed (with_bits c.args.bits) (with_bits c.args.bits) (λ row. refl) c.args.number s.pipes.live)
    ∙ ap F c.self.view_is
