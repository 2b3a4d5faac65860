use Rattle.std.proofs.Common.{ap, arith}
use Rattle.std.specs.Prelude.{is_some}
use Rattle.sb_bridge.proofs.Forwarding.{goes-on, stops, too-many}
use Rattle.sb_bridge.proofs.Rounds.{room_to_wait}
use Rattle.sb_bridge.proofs.bridge.pass_one.Goals as goal

pub take_next-requires-clause-room : goal.take_next-requires-clause-room
take_next-requires-clause-room g c = omega (arith, room_to_wait c.args.crossing c.args.from.now c.args.to.now c.requires)

pub returns-then-not-take_next-clause-stops : goal.returns-then-not-take_next-clause-stops
returns-then-not-take_next-clause-stops g c = λ is.
    stops c.args.crossing c.args.from.now c.args.to.now c.requires c.take_next.new.from (c.take_next.ensures.timed_out c.if-not-take_next.true)

pub forward-requires-clause-some : goal.forward-requires-clause-some
forward-requires-clause-some g c = ap is_some (c.take_next.ensures.took c.if-not-take_next.false).last

pub returns-clause-on : goal.returns-clause-on
returns-clause-on g c = λ is.
    let took = c.take_next.ensures.took c.if-not-take_next.false in
    goes-on c.args.crossing c.args.from.now c.args.to.now c.requires c.take_next.new.from took c.forward.new.to (c.forward.ensures.sent is took.message took.last)

pub returns-clause-stops : goal.returns-clause-stops
returns-clause-stops g c = λ is.
    let took = c.take_next.ensures.took c.if-not-take_next.false in
    too-many c.args.crossing c.args.from.now c.args.to.now c.requires c.take_next.new.from took c.forward.new.to (c.forward.ensures.no_room is took.message took.last)
