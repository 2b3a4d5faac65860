use Rattle.std.proofs.Common.{length}
use Rattle.script_runs.specs.Messages.{sent_message}
use Rattle.script_calls.proofs.Written.{written_changed}
use Rattle.script_calls.proofs.buffers.form.Goals as goal

pub returns : goal.returns
returns c = written_changed c.args.rows.now c.form_rows.new.rows c.args.number (λ old. sent_message c.args.id (length old) c.args.fill) c.in_ok-form_rows.ensures
