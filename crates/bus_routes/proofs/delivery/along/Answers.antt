use Rattle.std.proofs.Common.{◌≡◌, ◌+◌, drop, take, Some, sym, ◌∙◌, subst, arith}
use Rattle.std.proofs.lemmas.List.{drop_all}
use Rattle.routing.specs.Routing.{route_of, dests_at}
use Rattle.bus_routes.proofs.Deliveries.{Walked, route_within, as_many, stands, is_live, walked_more, told_more, all_rows, all_reached, all_told, none_left}
use Rattle.bus_routes.proofs.PipePlaces.{placed_after}
use Rattle.bus_routes.proofs.delivery.along.Goals as goal

pub first-at-requires : goal.first-at-requires
first-at-requires g c = omega (arith, route_within 0 c.args.routes.now.routes c.args.way.id c.args.way.place c.requires.way)

pub dests_of-end-requires : goal.dests_of-end-requires
dests_of-end-requires g c = omega (arith, route_within 0 c.args.routes.now.routes c.args.way.id c.args.way.place c.requires.way)

pub offer-reached-requires-clause-live : goal.offer-reached-requires-clause-live
offer-reached-requires-clause-live g c =
    let a = c.args in
    let l = c.loop in
    let at = c.in-Some in
    is_live a.pipes.now a.subs.now a.routes.now a.way.id c.args.way.place a.message.now c.recall_order.ensures c.requires.routed c.requires.way
    l.counter at.node at.sub l.pipes l.subs l.reached
    (subst (λ o. Walked a.pipes.now a.subs.now a.routes.now a.way.id c.args.way.place a.message.now l.counter o l.pipes l.subs l.reached) at.is l.invariant.walked)

pub offer-reached-requires-clause-room : goal.offer-reached-requires-clause-room
offer-reached-requires-clause-room g c =
    let told = c.loop.invariant.told in
    omega (arith, told.short, told.room, c.requires.room, c.recall_routes.ensures.few c.args.way.place, c.dests_of-end.ensures)

pub offer-reached-requires-clause-placed : goal.offer-reached-requires-clause-placed
offer-reached-requires-clause-placed g c =
    let a = c.args in
    let l = c.loop in
    placed_after a.pipes.now l.pipes a.subs.now l.subs l.invariant.walked.framed l.invariant.walked.same c.requires.placed

pub loop-preserved : goal.loop-preserved
loop-preserved g c =
    let a = c.args in
    let l = c.loop in
    let at = c.in-Some in
    let o = c.offer-reached in
    let n = c.next-at in
    let dests = dests_at a.routes.now c.args.way.place in
    let is : route_of a.routes.now.routes a.way.id ≡ Some c.args.way.place = c.requires.way in
    let w : Walked a.pipes.now a.subs.now a.routes.now a.way.id c.args.way.place a.message.now l.counter (Some (at.node, at.sub)) l.pipes l.subs l.reached =
    subst (λ o. Walked a.pipes.now a.subs.now a.routes.now a.way.id c.args.way.place a.message.now l.counter o l.pipes l.subs l.reached) at.is l.invariant.walked in
    let behind = n.ensures.behind c.args.way.place (take l.counter dests) (drop (l.counter + 1) dests) at.sub
    (stands a.pipes.now a.subs.now a.routes.now a.way.id c.args.way.place a.message.now c.recall_order.ensures c.requires.routed is l.counter at.node at.sub l.pipes l.subs l.reached w) in
    record {
      walked =
          walked_more a.pipes.now a.subs.now a.routes.now a.way.id c.args.way.place a.message.now c.recall_order.ensures c.requires.routed is l.counter at.node at.sub l.pipes l.subs l.reached w
          n.result o.new.pipes o.new.subs o.result o.ensures.rows o.ensures.taken o.ensures.once o.ensures.frame o.ensures.subs o.ensures.queued behind n.ensures.exists;
      told =
          told_more a.pipes.now a.subs.now a.routes.now a.way.id c.args.way.place a.message.now c.recall_order.ensures c.requires.routed is l.counter at.node at.sub l.pipes l.subs l.reached w
          a.misses.now l.misses o.new.misses o.new.pipes l.invariant.told o.ensures.missed o.ensures.rows;
      cost = omega (arith, n.ensures.cost, l.invariant.cost);
    }

-- if a destination is missing there is none left
pub returns-in_default-clause-rows : goal.returns-in_default-clause-rows
returns-in_default-clause-rows g c =
    let a = c.args in
    let l = c.loop in
    all_rows a.pipes.now a.subs.now a.routes.now a.way.id c.args.way.place a.message.now c.recall_order.ensures c.requires.routed c.requires.way
    l.counter l.at l.pipes l.subs l.reached l.invariant.walked
    (none_left l.counter (dests_at a.routes.now c.args.way.place) (sym l.invariant.walked.at_is ∙ c.in_default.is))

pub returns-in_default-clause-reached : goal.returns-in_default-clause-reached
returns-in_default-clause-reached g c =
    let a = c.args in
    let l = c.loop in
    all_reached a.pipes.now a.subs.now a.routes.now a.way.id c.args.way.place a.message.now c.recall_order.ensures c.requires.routed c.requires.way
    l.counter l.at l.pipes l.subs l.reached l.invariant.walked
    (none_left l.counter (dests_at a.routes.now c.args.way.place) (sym l.invariant.walked.at_is ∙ c.in_default.is))

pub returns-in_default-clause-missed : goal.returns-in_default-clause-missed
returns-in_default-clause-missed g c =
    let a = c.args in
    let l = c.loop in
    all_told a.pipes.now a.subs.now a.routes.now a.way.id c.args.way.place a.message.now c.recall_order.ensures c.requires.routed c.requires.way
    l.counter l.at l.pipes l.subs l.reached l.invariant.walked
    (none_left l.counter (dests_at a.routes.now c.args.way.place) (sym l.invariant.walked.at_is ∙ c.in_default.is))
    a.misses.now l.misses l.invariant.told

pub returns-in_default-clause-cost : goal.returns-in_default-clause-cost
returns-in_default-clause-cost g c =
    let a = c.args in
    omega (
      arith,
      c.loop.invariant.cost,
      c.dests_of-end.ensures,
      as_many a.pipes.now a.subs.now a.routes.now a.way.id c.args.way.place a.message.now c.recall_order.ensures c.requires.routed c.requires.way,
    )

-- and so behind the last
pub returns-clause-rows : goal.returns-clause-rows
returns-clause-rows g c =
    let a = c.args in
    let l = c.loop in
    all_rows a.pipes.now a.subs.now a.routes.now a.way.id c.args.way.place a.message.now c.recall_order.ensures c.requires.routed c.requires.way
    l.counter l.at l.pipes l.subs l.reached l.invariant.walked
    (drop_all l.counter (dests_at a.routes.now c.args.way.place) (omega arith))

pub returns-clause-reached : goal.returns-clause-reached
returns-clause-reached g c =
    let a = c.args in
    let l = c.loop in
    all_reached a.pipes.now a.subs.now a.routes.now a.way.id c.args.way.place a.message.now c.recall_order.ensures c.requires.routed c.requires.way
    l.counter l.at l.pipes l.subs l.reached l.invariant.walked
    (drop_all l.counter (dests_at a.routes.now c.args.way.place) (omega arith))

pub returns-clause-missed : goal.returns-clause-missed
returns-clause-missed g c =
    let a = c.args in
    let l = c.loop in
    all_told a.pipes.now a.subs.now a.routes.now a.way.id c.args.way.place a.message.now c.recall_order.ensures c.requires.routed c.requires.way
    l.counter l.at l.pipes l.subs l.reached l.invariant.walked
    (drop_all l.counter (dests_at a.routes.now c.args.way.place) (omega arith))
    a.misses.now l.misses l.invariant.told

pub returns-clause-cost : goal.returns-clause-cost
returns-clause-cost g c =
    let a = c.args in
    omega (
      arith,
      c.loop.invariant.cost,
      c.dests_of-end.ensures,
      as_many a.pipes.now a.subs.now a.routes.now a.way.id c.args.way.place a.message.now c.recall_order.ensures c.requires.routed c.requires.way,
    )
