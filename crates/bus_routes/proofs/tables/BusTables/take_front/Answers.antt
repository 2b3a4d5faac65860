use Rattle.std.proofs.Common.{ap, sym, ◌∙◌}
use Rattle.std.specs.Option.{option_map}
use Rattle.bus_words.specs.Pipes.{without_front}
use Rattle.bus_words.specs.Pipes.{without_front, oldest_on}
use Rattle.bus_routes.specs.Tables.{Tables}
use Rattle.bus_routes.specs.Inside.{item_in}
use Rattle.bus_routes.proofs.Readers.{oldest_there}
use Rattle.bus_routes.proofs.Takes.{takes_front, front_row_seen, waits_if, front_tied, front_tables}
use Rattle.bus_routes.proofs.tables.BusTables.take_front.Goals as goal

pub count_down-requires : goal.count_down-requires
count_down-requires c =
    let a = c.self.inside in
    waits_if without_front takes_front a.pipes.live a.subs c.args.number c.self.invariant.queued c.take_front-item.result (sym c.take_front-item.ensures.oldest)

pub invariant_of-self : goal.invariant_of-self
invariant_of-self c =
    front_tied without_front without_front takes_front front_row_seen c.self.inside c.args.number c.take_front-item.new.self c.count_down.new.subs c.take_front-item.result c.take_front-item.ensures.after
    c.count_down.ensures c.self.invariant c.take_front-item.ensures.oldest

pub returns-clause-oldest : goal.returns-clause-oldest
returns-clause-oldest c =
    c.item_row.ensures
    ∙ ap (option_map item_in) c.take_front-item.ensures.oldest
    ∙ oldest_there c.self.inside.pipes.live c.args.number
    ∙ ap (λ (t : Tables). oldest_on t.pipes c.args.number) c.self.view_is

pub returns-clause-rows : goal.returns-clause-rows
returns-clause-rows c =
    front_tables without_front without_front takes_front front_row_seen c.self.inside c.args.number c.take_front-item.new.self c.count_down.new.subs c.take_front-item.result c.take_front-item.ensures.after
    c.count_down.ensures c.args.self.now c.self.view_is
