use Rattle.app_run.specs.Inside.{progress_in}
use Rattle.app_run.proofs.TurnLaws.{looked-got, looked-time_out, looked-pending}
use Rattle.app_run.proofs.runner.Runner.look.Goals as goal

pub returns-in-Got-clause-turn : goal.returns-in-Got-clause-turn
returns-in-Got-clause-turn g c =
    let caller = g.C.Calls.caller in
    looked-got (progress_in c.self.inside) c.args.self.now (caller c.args.calls.now) (caller c.look.new.self) c.args.pipe c.in-Got.number
    c.take_receipt.new.receipts.receipts c.self.view_is c.requires.may c.requires.waits c.in-Got.ensures c.take_receipt.ensures.receipts

pub returns-in-TimeOut-clause-turn : goal.returns-in-TimeOut-clause-turn
returns-in-TimeOut-clause-turn g c =
    let caller = g.C.Calls.caller in
    looked-time_out (progress_in c.self.inside) c.args.self.now (caller c.args.calls.now) (caller c.look.new.self) c.args.pipe c.self.view_is c.requires.may c.requires.waits
    c.in-TimeOut.ensures

pub returns-in-Pending-clause-turn : goal.returns-in-Pending-clause-turn
returns-in-Pending-clause-turn g c =
    let caller = g.C.Calls.caller in
    looked-pending c.args.self.now (caller c.args.calls.now) (caller c.look.new.self) c.args.pipe c.requires.may c.requires.waits
    c.in-Pending.ensures
