use Rattle.script_runs.specs.Written.{put_in}
use Rattle.script_calls.proofs.Written.{written_changed}
use Rattle.script_calls.proofs.buffers.put.Goals as goal

pub returns : goal.returns
returns c = written_changed c.args.rows.now c.put_rows.new.rows c.args.number (λ old. put_in old c.args.offset c.args.bytes.now) c.put_rows.ensures
