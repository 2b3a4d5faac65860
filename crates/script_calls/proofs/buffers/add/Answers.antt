use Rattle.std.proofs.Common.{replicate}
use Rattle.script_calls.proofs.Written.{written_pushed}
use Rattle.script_calls.proofs.buffers.add.Goals as goal

pub returns : goal.returns
returns c =
    written_pushed c.args.rows.now.items c.push.new.self.items c.args.number (replicate c.args.size 0) (cc (c.in_ok-push.ensures.items, c.retain_others.ensures, c.in_ok-text.ensures))
