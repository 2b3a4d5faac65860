use Rattle.std.proofs.Common.{refl, ap}
use Rattle.bus_words.specs.declared.calls.BusAnswer.TheVariants.{Done}
use Rattle.bus_words.specs.declared.history.Call.TheVariants.{End}
use Rattle.list_bus.proofs.DecidedCalls.{accepted, limits_with}
use Rattle.list_bus.proofs.Ends.{ended_made}
use Rattle.list_bus.proofs.bus.ListBus.end.Goals as goal

pub returns : goal.returns
returns c =
    let a = c.self.inside in
    let m = c.end.new.self in
    let is = c.in_ok-end.ensures in
    accepted a (record a { messages = m; subs = c.leave_pipes_of.new.self; pools = c.end-2.new.self; standings = c.set_standing.new.standings }) c.args.self.now c.self.view_is c.args.app End
    (ap (limits_with a) is.after) refl refl is.kept Done refl
    (ended_made a m c.leave_pipes_of.new.self c.end-2.new.self _ c.args.app is.after (rw c.pipes.ensures at c.leave_pipes_of.ensures) c.end-2.ensures c.set_standing.ensures)
