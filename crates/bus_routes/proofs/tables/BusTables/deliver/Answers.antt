use Rattle.std.proofs.Common.{◌≤◌, map, ap, sym, ◌∙◌, subst}
use Rattle.bus_words.specs.Bus.{route}
use Rattle.bus_routes.specs.Missed.{Missed}
use Rattle.bus_routes.specs.Rows.{deliver_rows, missed_rows, dropped_rows, way_of}
use Rattle.bus_routes.specs.Tables.{Tables}
use Rattle.bus_routes.specs.Inside.{row_in, sub_in}
use Rattle.bus_routes.proofs.Readers.{place_there}
use Rattle.bus_routes.proofs.Takes.{tables_after, tied_after}
use Rattle.bus_routes.proofs.tables.BusTables.deliver.Goals as goal

pub invariant_of-self : goal.invariant_of-self
invariant_of-self g c =
    let a = c.self.inside in
    tied_after a.pipes c.along.new.pipes a.subs c.along.new.subs a.routes c.self.invariant c.along.ensures.frame c.along.ensures.subs c.along.ensures.queued

pub returns-clause-after : goal.returns-clause-after
returns-clause-after g c =
    let a = c.self.inside in
    let e = c.along.ensures in
    tables_after a.pipes c.along.new.pipes a.subs c.along.new.subs a.routes
    (deliver_rows c.args.message.now (route (map sub_in a.subs.live) c.args.way.id) (map row_in a.pipes.live))
    e.frame e.subs e.rows
    ∙ ap (λ (t : Tables). let n : Tables = record t { pipes = deliver_rows c.args.message.now (route t.subscriptions c.args.way.id) t.pipes } in n) c.self.view_is

pub returns-clause-missed : goal.returns-clause-missed
returns-clause-missed g c =
    c.along.ensures.missed
    ∙ ap (λ (t : Tables). let m : Missed = record c.args.misses.now { items = missed_rows c.args.message.now (route t.subscriptions c.args.way.id) t.pipes; dropped = dropped_rows c.args.message.now (route t.subscriptions c.args.way.id) t.pipes } in m) c.self.view_is

pub along-requires-clause-room : goal.along-requires-clause-room
along-requires-clause-room g c = subst (λ (t : Tables). t.room.dests ≤ c.args.misses.now.room) (sym c.self.view_is) c.requires.room

pub along-requires-clause-way : goal.along-requires-clause-way
along-requires-clause-way g c =
    sym (place_there 0 c.self.inside.routes.routes c.args.way.id)
    ∙ ap (λ (t : Tables). way_of t.routes c.args.way.id) c.self.view_is
    ∙ c.requires.way
