use Rattle.std.proofs.Common.{◌∙◌, sym, subst}
use Rattle.thread_run.specs.Whole.{whole}
use Rattle.thread_run.specs.Works.{IsBetweenTurns}
use Rattle.thread_run.proofs.BetweenTurns.{at-bus, at-tables, is-done, may-turn, turn-on}
use Rattle.thread_run.proofs.works.run_by.Goals as goal

pub new-calls-requires-clause-bus : goal.new-calls-requires-clause-bus
new-calls-requires-clause-bus g c = c.requires.bus

pub new-calls-requires-clause-tables : goal.new-calls-requires-clause-tables
new-calls-requires-clause-tables g c = c.requires.tables

pub new-calls-requires-clause-port : goal.new-calls-requires-clause-port
new-calls-requires-clause-port g c = c.requires.may.ports.bus_lock

pub new-calls-requires-clause-tables_port : goal.new-calls-requires-clause-tables_port
new-calls-requires-clause-tables_port g c = c.requires.may.ports.tables_lock

pub new-calls-requires-clause-app : goal.new-calls-requires-clause-app
new-calls-requires-clause-app g c = c.requires.may.ports.tables_app ∙ sym c.requires.may.ports.bus_app

pub loop-init : goal.loop-init
loop-init g c = (
  tt,
  tt,
  subst (λ caller. IsBetweenTurns (whole c.args.shared) c.args.work.runner.running.app c.args.work.runner caller) (sym c.new-calls.ensures) c.requires.may.between,
  c.requires.may.goes_on,
)

pub take_turn-requires-after_bounds : goal.take_turn-requires-after_bounds
take_turn-requires-after_bounds g c κs within =
    may-turn (whole c.args.shared) c.args.work.runner.running.app c.loop.runner c.loop.calls c.loop.invariant.2 c.loop.invariant.3

pub let_go-requires-clause-ended : goal.let_go-requires-clause-ended
let_go-requires-clause-ended g c = sym c.has_ended.ensures ∙ c.if-has_ended.true

pub let_go-requires-clause-at_bus : goal.let_go-requires-clause-at_bus
let_go-requires-clause-at_bus g c =
    let between = turn-on _ _ _ _ c.loop.invariant.2 c.bags_stay.ensures.behind c.bags_stay-2.ensures.behind _ _ c.loop.invariant.3 c.take_turn.ensures.turn c.take_turn.ensures.same.app in
    at-bus (whole c.args.shared) c.args.work.runner.running.app c.take_turn.new.runner c.take_turn.new.calls between (sym c.has_ended.ensures ∙ c.if-has_ended.true) c.into_ports-port.result.0 c.into_ports-port.ensures.app.0 c.into_ports-port.ensures.bus.0

pub let_go-requires-clause-at_tables : goal.let_go-requires-clause-at_tables
let_go-requires-clause-at_tables g c =
    let between = turn-on _ _ _ _ c.loop.invariant.2 c.bags_stay.ensures.behind c.bags_stay-2.ensures.behind _ _ c.loop.invariant.3 c.take_turn.ensures.turn c.take_turn.ensures.same.app in
    at-tables (whole c.args.shared) c.args.work.runner.running.app c.take_turn.new.runner c.take_turn.new.calls between (sym c.has_ended.ensures ∙ c.if-has_ended.true) c.into_ports-port.result.1 c.into_ports-port.ensures.app.1 c.into_ports-port.ensures.tables.0

pub returns-then-has_ended : goal.returns-then-has_ended
returns-then-has_ended g c =
    let between = turn-on _ _ _ _ c.loop.invariant.2 c.bags_stay.ensures.behind c.bags_stay-2.ensures.behind _ _ c.loop.invariant.3 c.take_turn.ensures.turn c.take_turn.ensures.same.app in
    is-done (whole c.args.shared) c.args.shared.bus.now c.args.shared.tables.now c.args.work.runner.running.app c.take_turn.new.runner c.take_turn.new.calls
    c.into_ports-port.result.0 c.into_ports-port.result.1 c.let_go.result between (sym c.has_ended.ensures ∙ c.if-has_ended.true)
    (record {
      bus_lock = c.into_ports-port.ensures.locks.0 ∙ sym c.requires.bus;
      tables_lock = c.into_ports-port.ensures.locks.1 ∙ sym c.requires.tables;
      bus_app = c.into_ports-port.ensures.app.0 ∙ between.own;
      tables_app = c.into_ports-port.ensures.app.1 ∙ between.own;
    })
    (record { seen = c.into_ports-port.ensures.bus.0; tables_seen = c.into_ports-port.ensures.tables.0 })
    c.let_go.ensures.port c.let_go.ensures.tables_port c.let_go.ensures.receipts

pub loop-preserved : goal.loop-preserved
loop-preserved g c =
    let between = turn-on _ _ _ _ c.loop.invariant.2 c.bags_stay.ensures.behind c.bags_stay-2.ensures.behind _ _ c.loop.invariant.3 c.take_turn.ensures.turn c.take_turn.ensures.same.app in
    (tt, tt, between, sym c.has_ended.ensures ∙ c.if-has_ended.false)
