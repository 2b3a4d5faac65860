use Rattle.std.proofs.Common.{◌+◌, ◌*◌, ◌≤◌, length, ap, ◌∙◌, subst}
use Rattle.ccsds_msg.specs.Message.{message_id}
use Rattle.bus_words.specs.Bus.{route}
use Rattle.bus_words.proofs.Acts.{id-packet}
use Rattle.bus_core.specs.Core.{drops_for}
use Rattle.bus_core.specs.Answers.{sent}
use Rattle.bus_core.proofs.Figures.{packet_is, housekeeping_acts}
use Rattle.bus_core.proofs.plain.PlainBus.send_housekeeping.Goals as goal

pub returns-clause-does : goal.returns-clause-does
returns-clause-does g c = λ left.
    let old = c.args.self.now in
    let is = packet_is c.self.inside old c.self.view_is c.in_use.result c.in_use.ensures.now c.packet.new.out c.packet.ensures in
    housekeeping_acts old c.transmit.new.self c.args.app c.packet.new.out (sent c.transmit.result) is (c.transmit.ensures.does left)

pub returns-clause-cost : goal.returns-clause-cost
returns-clause-cost g c =
    let old = c.args.self.now in
    let is = packet_is c.self.inside old c.self.view_is c.in_use.result c.in_use.ensures.now c.packet.new.out c.packet.ensures in
    subst (λ n. c.transmit.new.steps ≤ c.args.steps.now + 32 + 4 * length (route old.whole.bus.subscriptions n) + 8 * drops_for old.whole.bus c.args.app n)
    (ap message_id is ∙ id-packet old.limits old.whole.bus) c.transmit.ensures.cost
