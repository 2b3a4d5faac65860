use Rattle.std.proofs.Common.{List, ap, sym, ◌∙◌, subst, refl}
use Rattle.std.specs.Option.{option_map}
use Rattle.pipe_table.specs.Table.{Pipes}
use Rattle.bus_words.specs.Pipes.{with_pipe, without_last, last_on}
use Rattle.bus_routes.specs.Rows.{Row}
use Rattle.bus_routes.specs.Tables.{Tables}
use Rattle.bus_routes.specs.Inside.{item_in, tables_in, AreTied}
use Rattle.bus_routes.proofs.PipeChanges.{queued_changed, rows_changed}
use Rattle.bus_routes.proofs.Readers.{last_there}
use Rattle.bus_routes.proofs.tables.BusTables.take_last.Goals as goal

pub invariant_of-self : goal.invariant_of-self
invariant_of-self c =
    let s = c.self.inside in
    let P : Pipes → Type 0 = λ p. AreTied p s.subs s.routes in
    subst P (sym c.take_last.ensures.after) (record {
      queued =
          queued_changed without_last c.args.number (record { number = λ row. refl; queue = λ row. refl }) s.pipes.live s.subs c.self.invariant.queued;
      placed = c.self.invariant.placed;
      routed = c.self.invariant.routed;
      room = c.self.invariant.room;
    })

pub returns-clause-last : goal.returns-clause-last
returns-clause-last c =
    c.item_row.ensures
    ∙ ap (option_map item_in) c.take_last.ensures.last
    ∙ last_there c.self.inside.pipes.live c.args.number
    ∙ ap (λ (t : Tables). last_on t.pipes c.args.number) c.self.view_is

pub returns-clause-rows : goal.returns-clause-rows
returns-clause-rows c =
    let s = c.self.inside in
    let F : Tables → Tables = λ t. record t { pipes = with_pipe without_last c.args.number t.pipes } in
    ap (λ (p : Pipes). tables_in p s.subs s.routes) c.take_last.ensures.after
    ∙ ap (λ (rows : List Row). record (tables_in s.pipes s.subs s.routes) { pipes = rows }) (rows_changed without_last without_last (λ row. refl) c.args.number s.pipes.live)
    ∙ ap F c.self.view_is
