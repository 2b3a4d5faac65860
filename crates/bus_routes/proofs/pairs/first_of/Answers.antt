use Rattle.std.proofs.Common.{◌≡◌, ◌+◌, drop, take, Some, sym, ◌∙◌, subst, arith}
use Rattle.std.proofs.lemmas.List.{drop_all}
use Rattle.routing.specs.Routing.{dests_at, route_of}
use Rattle.bus_routes.proofs.Deliveries.{route_within, none_of_id, none_left}
use Rattle.bus_routes.proofs.FirstOf.{Passed, none_unrouted, as_many, passed_none, is_live, found_here, passed_more, stands, none_behind}
use Rattle.bus_routes.proofs.pairs.first_of.Goals as goal

pub returns-in_default-clause-first : goal.returns-in_default-clause-first
returns-in_default-clause-first g c =
    let a = c.args in
    none_unrouted a.subs.now a.routes.now a.id a.pipe c.requires (none_of_id a.subs.now a.routes.now a.id c.requires (sym c.route_of.ensures ∙ c.in_default.is))

-- Along its route. --

pub first-at-requires : goal.first-at-requires
first-at-requires g c = omega (arith, route_within 0 c.args.routes.now.routes c.args.id c.in-Some.route (sym c.route_of.ensures ∙ c.in-Some.is))

pub dests_of-end-requires : goal.dests_of-end-requires
dests_of-end-requires g c = omega (arith, route_within 0 c.args.routes.now.routes c.args.id c.in-Some.route (sym c.route_of.ensures ∙ c.in-Some.is))

pub loop-init : goal.loop-init
loop-init g c =
    let a = c.args in
    record {
      passed = passed_none a.subs.now a.routes.now a.id a.pipe c.in-Some.route c.recall_order.ensures c.requires (sym c.route_of.ensures ∙ c.in-Some.is) c.first-at.result c.first-at.ensures.first c.first-at.ensures.exists;
      cost = omega (arith, c.first-at.ensures.cost);
    }

pub returns-in_default-at-clause-first : goal.returns-in_default-at-clause-first
returns-in_default-at-clause-first g c =
    let a = c.args in
    let l = c.loop in
    none_behind a.subs.now a.routes.now a.id a.pipe c.in-Some.route c.recall_order.ensures c.requires (sym c.route_of.ensures ∙ c.in-Some.is) l.counter l.at l.invariant.passed
    (none_left l.counter (dests_at a.routes.now c.in-Some.route) (sym l.invariant.passed.at_is ∙ c.in_default-at.is))

pub returns-in_default-at-clause-cost : goal.returns-in_default-at-clause-cost
returns-in_default-at-clause-cost g c =
    let a = c.args in
    let many = as_many a.subs.now a.routes.now a.id a.pipe c.in-Some.route c.recall_order.ensures c.requires (sym c.route_of.ensures ∙ c.in-Some.is) in
    omega (arith, many, c.loop.invariant.cost, c.dests_of-end.ensures, c.loop-test.true)

pub at-requires : goal.at-requires
at-requires g c =
    let a = c.args in
    let at = c.in-Some-at in
    is_live a.subs.now a.routes.now a.id a.pipe c.in-Some.route c.recall_order.ensures c.requires (sym c.route_of.ensures ∙ c.in-Some.is) c.loop.counter at.node at.sub
    (subst (Passed a.subs.now a.routes.now a.id a.pipe c.in-Some.route c.loop.counter) at.is c.loop.invariant.passed)

pub returns-then-at-pipe-clause-first : goal.returns-then-at-pipe-clause-first
returns-then-at-pipe-clause-first g c =
    let a = c.args in
    let at = c.in-Some-at in
    found_here a.subs.now a.routes.now a.id a.pipe c.in-Some.route c.recall_order.ensures c.requires (sym c.route_of.ensures ∙ c.in-Some.is) c.loop.counter at.node at.sub
    (subst (Passed a.subs.now a.routes.now a.id a.pipe c.in-Some.route c.loop.counter) at.is c.loop.invariant.passed) c.at.result c.at.ensures c.if-at-pipe.true

pub returns-then-at-pipe-clause-cost : goal.returns-then-at-pipe-clause-cost
returns-then-at-pipe-clause-cost g c =
    let a = c.args in
    let many = as_many a.subs.now a.routes.now a.id a.pipe c.in-Some.route c.recall_order.ensures c.requires (sym c.route_of.ensures ∙ c.in-Some.is) in
    omega (arith, many, c.loop.invariant.cost, c.dests_of-end.ensures, c.loop-test.true)

pub loop-preserved : goal.loop-preserved
loop-preserved g c =
    let a = c.args in
    let l = c.loop in
    let at = c.in-Some-at in
    let n = c.next-at in
    let dests = dests_at a.routes.now c.in-Some.route in
    let is : route_of a.routes.now.routes a.id ≡ Some c.in-Some.route = sym c.route_of.ensures ∙ c.in-Some.is in
    let passed : Passed a.subs.now a.routes.now a.id a.pipe c.in-Some.route l.counter (Some (at.node, at.sub)) =
    subst (Passed a.subs.now a.routes.now a.id a.pipe c.in-Some.route l.counter) at.is l.invariant.passed in
    let behind = n.ensures.behind c.in-Some.route (take l.counter dests) (drop (l.counter + 1) dests) at.sub
    (stands a.subs.now a.routes.now a.id a.pipe c.in-Some.route c.recall_order.ensures c.requires is l.counter at.node at.sub passed) in
    record {
      passed = passed_more a.subs.now a.routes.now a.id a.pipe c.in-Some.route c.recall_order.ensures c.requires is l.counter at.node at.sub passed c.at.result c.at.ensures c.if-at-pipe.false n.result behind n.ensures.exists;
      cost = omega (arith, n.ensures.cost, l.invariant.cost);
    }

pub returns-clause-first : goal.returns-clause-first
returns-clause-first g c =
    let a = c.args in
    let l = c.loop in
    none_behind a.subs.now a.routes.now a.id a.pipe c.in-Some.route c.recall_order.ensures c.requires (sym c.route_of.ensures ∙ c.in-Some.is) l.counter l.at l.invariant.passed
    (drop_all l.counter (dests_at a.routes.now c.in-Some.route) (omega (arith, c.dests_of-end.ensures, c.loop-test.false)))

pub returns-clause-cost : goal.returns-clause-cost
returns-clause-cost g c =
    let a = c.args in
    let many = as_many a.subs.now a.routes.now a.id a.pipe c.in-Some.route c.recall_order.ensures c.requires (sym c.route_of.ensures ∙ c.in-Some.is) in
    omega (arith, many, c.loop.invariant.cost, c.dests_of-end.ensures, c.loop-test.false, c.loop.auto.counter-end)
