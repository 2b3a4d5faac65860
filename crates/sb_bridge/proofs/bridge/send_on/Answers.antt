use Rattle.std.proofs.Common.{sym, ◌∙◌}
use Rattle.std.proofs.Math.Facts.{Fits-lt-pow}
use Rattle.ccsds_msg.proofs.MessageLemmas.{length-message}
use Rattle.sb_calls.specs.Answers.{sent}
use Rattle.sb_bridge.proofs.Asked.{lacks-room, may_send, sends-one}
use Rattle.sb_bridge.proofs.bridge.send_on.Goals as goal

pub returns-then-not-has_room-clause-no_room : goal.returns-then-not-has_room-clause-no_room
returns-then-not-has_room-clause-no_room g c = λ is. lacks-room c.args.to.now c.args.message.now c.requires.own (sym c.has_room.ensures ∙ c.if-not-has_room.true)

pub transmit-requires-clause-may : goal.transmit-requires-clause-may
transmit-requires-clause-may g c = may_send c.args.to.now c.requires.own c.requires.active c.args.message.now (length-message c.args.message.now (λ i. Fits-lt-pow (c.type_inv.message i)) c.requires.message) (sym c.has_room.ensures ∙ c.if-not-has_room.false)

pub returns-clause-sent : goal.returns-clause-sent
returns-clause-sent g c = λ is.
    sends-one c.args.to.now c.transmit.new.self c.args.message.now (sent c.transmit.result) c.requires.own c.transmit.ensures.answers c.recall.ensures.mine (sym c.has_room.ensures ∙ c.if-not-has_room.false)
