use Rattle.app_run.specs.Inside.{progress_in}
use Rattle.app_run.proofs.TableTurns.{ended-same, ended-tables, may-end, may-end_tables, ran-end}
use Rattle.app_run.proofs.runner.Runner.end.Goals as goal

pub table_end-requires : goal.table_end-requires
table_end-requires g c = may-end_tables c.args.self.now (g.C.Calls.caller c.args.calls.now) c.requires.may

pub bus_end-requires-clause-may : goal.bus_end-requires-clause-may
bus_end-requires-clause-may g c =
    let caller = g.C.Calls.caller in
    may-end c.args.self.now (caller c.args.calls.now) (caller c.table_end.new.self) c.requires.may c.requires.active c.table_end.ensures

pub bus_end-requires-clause-tables : goal.bus_end-requires-clause-tables
bus_end-requires-clause-tables g c =
    let caller = g.C.Calls.caller in
    ended-tables (caller c.args.calls.now) (caller c.table_end.new.self) c.table_end.ensures

pub returns-clause-turn : goal.returns-clause-turn
returns-clause-turn g c =
    let caller = g.C.Calls.caller in
    ran-end (progress_in c.self.inside) c.args.self.now (caller c.args.calls.now) (caller c.table_end.new.self) (caller c.bus_end.new.self) c.self.view_is c.requires.may c.requires.active
    c.requires.through c.table_end.ensures c.bus_end.ensures

pub returns-clause-same : goal.returns-clause-same
returns-clause-same g c =
    let caller = g.C.Calls.caller in
    ended-same (caller c.args.calls.now) (caller c.table_end.new.self) (caller c.bus_end.new.self) c.table_end.ensures c.bus_end.ensures
