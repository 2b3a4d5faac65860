use Rattle.std.proofs.Common.{sym}
use Rattle.sb_calls.specs.Core.{apps_of}
use Rattle.sb_bridge.proofs.Asked.{message_last}
use Rattle.sb_bridge.proofs.bridge.forward.Goals as goal

pub send_on-requires-clause-message : goal.send_on-requires-clause-message
send_on-requires-clause-message g c =
    message_last c.args.from.now.seen.limits (apps_of c.args.from.now.seen) c.args.from.now.seen.log.entries c.args.from.now.app c.args.pipe c.in-Some.message.now (sym c.in-Some.ensures.last)
