-- As `take`, if the application owns the pipe.
use Rattle.std.proofs.Common.{is_some, ap, sym, ◌∙◌}
use Rattle.std.specs.Option.{option_map}
use Rattle.bus_words.specs.Pipes.{after_receive, last_on, oldest_on, owns}
use Rattle.bus_routes.specs.Tables.{Tables}
use Rattle.bus_routes.specs.Inside.{item_in}
use Rattle.bus_routes.proofs.Readers.{last_there, oldest_there, owns_there}
use Rattle.bus_routes.proofs.Takes.{takes_oldest, taken_row_seen, waits_if, front_tied, front_tables}
use Rattle.bus_routes.proofs.tables.BusTables.take_if_owned.Goals as goal

pub count_down-requires : goal.count_down-requires
count_down-requires c =
    let a = c.self.inside in
    waits_if after_receive takes_oldest a.pipes.live a.subs c.args.number c.self.invariant.queued c.in_ok-before.oldest (sym c.in_ok-before.ensures.oldest)

pub invariant_of-self-2 : goal.invariant_of-self-2
invariant_of-self-2 c =
    front_tied after_receive after_receive takes_oldest taken_row_seen c.self.inside c.args.number c.take_if_owned.new.self c.count_down.new.subs c.in_ok-before.oldest c.in_ok-before.ensures.after c.count_down.ensures
    c.self.invariant c.in_ok-before.ensures.oldest

pub returns-clause-before : goal.returns-clause-before
returns-clause-before c =
    c.item_row.ensures
    ∙ ap (option_map item_in) c.in_ok-before.ensures.last
    ∙ last_there c.self.inside.pipes.live c.args.number
    ∙ ap (λ (t : Tables). last_on t.pipes c.args.number) c.self.view_is

pub returns-clause-oldest : goal.returns-clause-oldest
returns-clause-oldest c =
    c.item_row-2.ensures
    ∙ ap (option_map item_in) c.in_ok-before.ensures.oldest
    ∙ oldest_there c.self.inside.pipes.live c.args.number
    ∙ ap (λ (t : Tables). oldest_on t.pipes c.args.number) c.self.view_is

pub returns-clause-rows : goal.returns-clause-rows
returns-clause-rows c =
    front_tables after_receive after_receive takes_oldest taken_row_seen c.self.inside c.args.number c.take_if_owned.new.self c.count_down.new.subs c.in_ok-before.oldest c.in_ok-before.ensures.after c.count_down.ensures
    c.args.self.now c.self.view_is

pub returns-clause-owned : goal.returns-clause-owned
returns-clause-owned c =
    c.in_ok-before.ensures.owned
    ∙ owns_there c.self.inside.pipes.live c.args.app c.args.number
    ∙ ap (λ (t : Tables). owns t.pipes c.args.app c.args.number) c.self.view_is

pub returns-in_err-before-clause-owned : goal.returns-in_err-before-clause-owned
returns-in_err-before-clause-owned c =
    ap is_some c.from_residual.ensures
    ∙ c.in_err-before.ensures.owned
    ∙ owns_there c.self.inside.pipes.live c.args.app c.args.number
    ∙ ap (λ (t : Tables). owns t.pipes c.args.app c.args.number) c.self.view_is
