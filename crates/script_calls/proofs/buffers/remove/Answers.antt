use Rattle.script_calls.proofs.Written.{written_removed}
use Rattle.script_calls.proofs.buffers.remove.Goals as goal

pub returns : goal.returns
returns c = written_removed c.args.rows.now.items c.retain_others.new.rows.items c.args.number c.retain_others.ensures
