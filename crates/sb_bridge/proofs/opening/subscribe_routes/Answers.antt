use Rattle.std.proofs.Common.{◌∙◌, subst, arith, List}
use Rattle.std.proofs.lemmas.List.{take_all}
use Rattle.bus_core.specs.Answers.{done}
use Rattle.bridge_plan.specs.declared.routes.Route.{Route}
use Rattle.sb_bridge.specs.Openings.{HasCalled, subscriptions}
use Rattle.sb_bridge.proofs.FirstSteps.{called-none, may_subscribe, subscribed}
use Rattle.sb_bridge.proofs.opening.subscribe_routes.Goals as goal

pub loop-i-init : goal.loop-i-init
loop-i-init g c = called-none c.args.port.now c.requires.own c.requires.active

pub subscribe-requires-clause-bus : goal.subscribe-requires-clause-bus
subscribe-requires-clause-bus g c = c.loop-i.invariant.same.lock ∙ c.requires.bus

pub subscribe-requires-clause-may : goal.subscribe-requires-clause-may
subscribe-requires-clause-may g c =
    may_subscribe c.args.pipe c.args.plan.now.routes c.args.port.now c.loop-i.port c.loop-i.i c.loop-i.invariant c.requires.room (omega (arith, c.loop-i-test.true, c.routes-i-end.ensures.count)) c.route-id.result.0 c.route-id.result.1

pub loop-i-preserved : goal.loop-i-preserved
loop-i-preserved g c =
    subscribed c.args.pipe c.args.plan.now.routes c.args.port.now c.loop-i.port c.loop-i.i c.loop-i.invariant c.requires.room (omega (arith, c.loop-i-test.true, c.routes-i-end.ensures.count))
    c.subscribe.new.self c.route-id.result.0 c.route-id.result.1 (done c.subscribe.result) c.route-id.ensures c.subscribe.ensures.answers c.recall.ensures.mine

pub returns : goal.returns
returns g c =
    let routes = c.args.plan.now.routes in
    subst (λ (rs : List Route). HasCalled c.args.port.now c.loop-i.port (subscriptions c.args.pipe rs)) (take_all c.loop-i.i routes (omega (arith, c.loop-i-test.false, c.routes-i-end.ensures.count))) c.loop-i.invariant
